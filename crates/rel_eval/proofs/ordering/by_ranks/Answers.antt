use Rattle.std.proofs.Common.{rules, ◌∷◌, ◌∙◌, ap, sym, subst, IsPermutation, IsSorted}
use Rattle.std.specs.Ordering.{is_lt}
use Rattle.std.proofs.lemmas.List.Sorted.{ranks_by}
use Rattle.std.proofs.lemmas.Fn.{always_returns_same}
use Rattle.vdb_model.specs.Keys.{keys_cmp}
use Rattle.rel_eval.specs.declared.ranking.Ranked.{Ranked}
use Rattle.rel_eval.specs.RankedRows.{rows_in}
use Rattle.rel_eval.proofs.OneOrder.{keys_total}
use Rattle.rel_eval.proofs.RanksOfRows.{rows_in_same, rows_in_sorted}
use Rattle.rel_eval.proofs.ordering.by_ranks.Goals as goal

pub returns-clause-same : goal.returns-clause-same
returns-clause-same c =
    subst (IsPermutation c.args.rows.now) (sym (c.in_ok-without_ranks.ensures ∙ ap rows_in c.deref.ensures.value)) (rows_in_same _ _ _ c.in_ok-sorted.ensures c.in_ok-sort_by.ensures.permutation)

pub returns-clause-sorted : goal.returns-clause-sorted
returns-clause-sorted c =
    let keys = c.args.key ∷ c.args.others.now in
    let lt = λ (a b : Ranked). is_lt (keys_cmp keys a.row.now b.row.now) in
    subst (IsSorted (keys_cmp keys)) (sym (c.in_ok-without_ranks.ensures ∙ ap rows_in c.deref.ensures.value))
    (rows_in_sorted (keys_cmp keys) _ (c.in_ok-sort_by.ensures.sorted lt (ranks_by (keys_total keys) (λ (r : Ranked). r.row.now)) (always_returns_same _ _ _ (λ a r g k. search rules))))
