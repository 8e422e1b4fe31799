use Rattle.std.proofs.Common.{◌≡◌, ◌++◌, drop}
use Rattle.rel_eval.specs.Lent.{lent}
use Rattle.rel_eval.proofs.lend.lend.Given as goal

abbrev pub invariant-loop-row : goal.invariant-loop-row
invariant-loop-row l = lent l.made.items ++ drop l.row-index l.row-items ≡ l.row-items
