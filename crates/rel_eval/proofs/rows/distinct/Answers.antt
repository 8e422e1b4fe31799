use Rattle.std.proofs.Common.{arith, ◌≡◌, ◌∙◌, ◌+◌, ◌||◌, [], ◌∷◌, ◌++◌, refl, true, false, drop, sym, ap, subst}
use Rattle.std.specs.List.{list_any}
use Rattle.std.proofs.lemmas.Grind.{common_steps}
use Rattle.vdb_model.specs.Rows.{distinct_after, distinct_rows, same_row}
use Rattle.rel_eval.proofs.KeepFirst.{keep_new, drop_old, seen_push, seen_old}
use Rattle.rel_eval.proofs.rows.distinct.Goals as goal
use Rattle.rel_eval.proofs.rows.distinct.Goals.{then-branch+in_ok-copy+in_ok-push, else-branch}

pub loop-row-preserved : goal.loop-row-preserved
loop-row-preserved c =
    let kept = c.loop-row.kept in
    let items = c.as_slice-row-items.result.now in
    let row = c.row-item.result in
    let rest = drop (c.loop-row.row-index + 1) items in
    let cut : drop c.loop-row.row-index items ≡ row ∷ rest = grind (arith, common_steps) in
    let all = subst (λ rows. kept ++ distinct_after kept rows ≡ distinct_rows items) cut c.loop-row.invariant.kept in
    elim c.if-branch.branch [
      | then-branch+in_ok-copy+in_ok-push w ↦
          let new : list_any (same_row row) kept ≡ false = grind (arith, c.loop-row.invariant.seen row, c.in_ok-add.ensures.new) in
          let is : c.if-branch.kept ≡ kept ++ row ∷ [] = rw (w.kept-is, w.in_ok-push.ensures.ok, w.in_ok-copy.ensures) refl in
          record {
            kept = rw is (keep_new kept rest (distinct_rows items) row new all);
            seen = λ q. rw is (c.in_ok-add.ensures.added q ∙ ap (λ b. same_row row q || b) (c.loop-row.invariant.seen q) ∙ sym (seen_push q row kept));
          }
      | else-branch w ↦
          let old : list_any (same_row row) kept ≡ true = grind (arith, c.loop-row.invariant.seen row, c.in_ok-add.ensures.new) in
          let is : c.if-branch.kept ≡ kept = w.kept-is in
          record {
            kept = rw is (drop_old kept rest (distinct_rows items) row old all);
            seen = λ q. rw is (c.in_ok-add.ensures.added q ∙ ap (λ b. same_row row q || b) (c.loop-row.invariant.seen q) ∙ seen_old q row kept old);
          }
    ]
