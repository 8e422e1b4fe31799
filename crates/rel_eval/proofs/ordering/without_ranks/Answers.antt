use Rattle.std.proofs.Common.{arith}
use Rattle.std.proofs.lemmas.Grind.{common_steps}
use Rattle.rel_eval.proofs.LentRows.{lent_push}
use Rattle.rel_eval.proofs.ordering.without_ranks.Goals as goal

pub loop-one-preserved : goal.loop-one-preserved
loop-one-preserved c = grind (arith, common_steps, lent_push)
