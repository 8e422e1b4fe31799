use Rattle.std.proofs.Common.{arith}
use Rattle.std.proofs.lemmas.Grind.{common_steps}
use Rattle.rel_eval.proofs.RanksOfRows.{rows_in_push}
use Rattle.rel_eval.proofs.ordering.with_ranks.Goals as goal

pub loop-row-preserved : goal.loop-row-preserved
loop-row-preserved c = grind (arith, common_steps, rows_in_push)
