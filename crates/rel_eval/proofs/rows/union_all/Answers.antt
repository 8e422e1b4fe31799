use Rattle.std.proofs.Common.{◌≡◌, ◌∙◌, arith}
use Rattle.std.proofs.lemmas.Grind.{common_steps}
use Rattle.rel_eval.proofs.PartByPart.{one_after_another, union_of_parts}
use Rattle.rel_eval.proofs.rows.union_all.Goals as goal

pub returns : goal.returns
returns c bags e =
    let whole : c.loop-part.rows ≡ one_after_another c.args.parts.now = grind (arith, common_steps) in
    whole ∙ union_of_parts bags _ e
