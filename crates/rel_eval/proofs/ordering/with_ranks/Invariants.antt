use Rattle.std.proofs.Common.{◌≡◌, drop, ◌++◌}
use Rattle.rel_eval.specs.RankedRows.{rows_in}
use Rattle.rel_eval.proofs.ordering.with_ranks.Given as goal

abbrev pub invariant-loop-row : goal.invariant-loop-row
invariant-loop-row l = rows_in l.made.items ++ drop l.row-index l.row-items ≡ l.row-items
