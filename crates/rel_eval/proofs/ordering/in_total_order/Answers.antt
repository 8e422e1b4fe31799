use Rattle.std.proofs.Common.{rules}
use Rattle.std.specs.Ordering.{is_lt}
use Rattle.std.proofs.lemmas.List.Sorted.{ranks_by}
use Rattle.std.proofs.lemmas.Fn.{always_returns_same}
use denote.Ref.{Bor}
use Rattle.vdb_model.specs.Keys.{total_cmp}
use Rattle.vdb_model.specs.Rows.{Cells}
use Rattle.rel_eval.proofs.OneOrder.{total_total, ties_are_equal, one_order}
use Rattle.rel_eval.proofs.LentRows.{lent_same, lent_sorted}
use Rattle.rel_eval.proofs.ordering.in_total_order.Goals as goal

pub returns : goal.returns
returns c =
    let by = total_cmp c.args.keys.now in
    let o = total_total c.args.keys.now in
    let lt = λ (a b : Bor Cells). is_lt (by a.now b.now) in
    let sorted = lent_sorted by _ (c.in_ok-sort_by.ensures.sorted lt (ranks_by o (λ (row : Bor Cells). row.now)) (always_returns_same _ _ _ (λ a r g k. search rules))) in
    one_order by o (ties_are_equal c.args.keys.now) c.args.rows.now _ (lent_same _ _ _ c.in_ok-sorted.ensures c.in_ok-sort_by.ensures.permutation) sorted
