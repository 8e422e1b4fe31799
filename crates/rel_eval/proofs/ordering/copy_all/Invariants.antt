use Rattle.std.proofs.Common.{◌≡◌, ◌++◌, drop}
use Rattle.rel_eval.specs.Lent.{lent}
use Rattle.rel_eval.proofs.ordering.copy_all.Given as goal

abbrev pub invariant-loop-row : goal.invariant-loop-row
invariant-loop-row l = l.made.items ++ lent (drop l.row-index l.rows) ≡ lent l.rows
