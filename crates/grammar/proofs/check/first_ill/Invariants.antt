use Rattle.std.proofs.Common.{◌≡◌, take, true}
use Rattle.grammar.specs.Table.{shapes}
use Rattle.grammar.specs.WellFormed.{all_right}
use Rattle.grammar.proofs.check.first_ill.Given as goal

abbrev pub invariant-loop-at : goal.invariant-loop-at
invariant-loop-at l = all_right (shapes l.rules) (take l.at (shapes l.rules)) ≡ true
