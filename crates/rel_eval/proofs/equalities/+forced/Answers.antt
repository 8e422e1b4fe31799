use Rattle.std.proofs.Common.{arith, ◌≡◌, ◌+◌, ◌++◌, ◌∷◌, [], take, subst, sym, ap, ◌∙◌}
use Rattle.vdb_model.specs.declared.expr.CmpOp.TheVariants.{Eq}
use Rattle.vdb_model.specs.declared.expr.Expr.TheVariants.{And, Cmp}
use Rattle.std.proofs.lemmas.Grind.{common_steps}
use Rattle.rel_eval.specs.Equal.{IsForced}
use Rattle.rel_eval.proofs.Forced.{forced_and, forced_cmp, forced_next}
use Rattle.rel_eval.proofs.equalities.+forced.Goals as goal

pub forced_by_all-loop-e-preserved : goal.forced_by_all-loop-e-preserved
forced_by_all-loop-e-preserved t c =
    let es = c.args.es.now in
    let more : take (c.loop-e.e-index + 1) es ≡ take c.loop-e.e-index es ++ c.e-item.result ∷ [] = grind (arith, common_steps) in
    forced_next _ _ c.e-item.result _ _ _ _ _ _ _ more c.in_ok-add.ensures.lefts c.in_ok-add.ensures.rights c.loop-e.invariant c.in_ok-forced_by.ensures

pub forced_by-returns-in_ok-forced_by_all-in-And : goal.forced_by-returns-in_ok-forced_by_all-in-And
forced_by-returns-in_ok-forced_by_all-in-And t c =
    let made = c.in_ok-forced_by_all-in-And.field-0 in
    subst (λ e. IsForced e c.args.width made.lefts made.rights) (sym (c.in-And.is ∙ ap And (sym c.as_slice.ensures))) (forced_and _ _ _ _ c.in_ok-forced_by_all-in-And.ensures)

pub forced_by-returns-in_ok-between-in-Eq : goal.forced_by-returns-in_ok-between-in-Eq
forced_by-returns-in_ok-between-in-Eq t c =
    let made = c.in_ok-between-in-Eq.field-0 in
    let is = c.in-Cmp.is ∙ ap (λ op. Cmp op c.in-Cmp.a c.in-Cmp.b) c.in-Eq.is ∙ ap (λ a. Cmp Eq a c.in-Cmp.b) (sym c.get.ensures) ∙ ap (λ b. Cmp Eq c.get.result.now b) (sym c.get-in-Eq.ensures) in
    subst (λ e. IsForced e c.args.width made.lefts made.rights) (sym is) (forced_cmp _ _ _ _ _ c.in_ok-between-in-Eq.ensures)
