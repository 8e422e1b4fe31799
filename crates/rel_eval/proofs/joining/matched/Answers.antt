use Rattle.std.proofs.Common.{◌≡◌, ◌∙◌, List, [], length, IfOk, ap, sym, subst, arith}
use Rattle.std.specs.Option.{option_copied}
use Rattle.std.proofs.lemmas.Grind.{common_steps}
use Rattle.vdb_model.specs.Rows.{Cells, matches}
use Rattle.rel_eval.specs.Indexed.{listed}
use Rattle.rel_eval.specs.Lent.{lent}
use Rattle.rel_eval.specs.Sides.{candidates}
use Rattle.rel_eval.proofs.Matching.{matched_by_index}
use Rattle.rel_eval.proofs.joining.matched.Goals as goal

pub returns-in-Some : goal.returns-in-Some
returns-in-Some c =
    let wide : length c.args.left.now ≡ c.args.side.now.width = grind (arith, common_steps) in
    let found : lent c.deref-in-Some.result.now ≡ candidates c.args.side.now c.args.left.now = ap lent c.deref-in-Some.ensures.value ∙ ap (λ rows. listed (option_copied rows)) (sym c.in-Some.is) ∙ c.candidates.ensures in
    let same = ap (matches c.args.on.now c.args.vars.now c.args.left.now) found ∙ matched_by_index c.args.on.now c.args.vars.now c.args.left.now c.args.right.now c.args.side.now c.requires wide in
    subst (λ (made : List Cells). IfOk c.matches-in-Some.result (λ rows. rows ≡ made)) same c.matches-in-Some.ensures

pub returns-in-None : goal.returns-in-None
returns-in-None c =
    let wide : length c.args.left.now ≡ c.args.side.now.width = grind (arith, common_steps) in
    let found : [] ≡ candidates c.args.side.now c.args.left.now = ap (λ rows. listed (option_copied rows)) (sym c.in-None.is) ∙ c.candidates.ensures in
    c.new.ensures ∙ ap (matches c.args.on.now c.args.vars.now c.args.left.now) found ∙ matched_by_index c.args.on.now c.args.vars.now c.args.left.now c.args.right.now c.args.side.now c.requires wide
