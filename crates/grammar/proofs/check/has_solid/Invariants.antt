use Rattle.std.proofs.Common.{◌≡◌, drop}
use Rattle.grammar.specs.Table.{shapes}
use Rattle.grammar.specs.Weights.{has_solid}
use Rattle.grammar.proofs.check.has_solid.Given as goal

abbrev pub invariant-loop-item : goal.invariant-loop-item
invariant-loop-item l = has_solid (shapes l.rules) (drop l.item-index l.items) ≡ has_solid (shapes l.rules) l.items
