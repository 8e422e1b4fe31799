use Rattle.std.proofs.Common.{arith}
use Rattle.std.proofs.lemmas.Grind.{common_steps}
use Rattle.rel_eval.proofs.LentRows.{lent_push}
use Rattle.rel_eval.proofs.lend.lend.Goals as goal

pub loop-row-preserved : goal.loop-row-preserved
loop-row-preserved c = grind (arith, common_steps, lent_push)
