use Rattle.std.proofs.Common.{◌≡◌, drop}
use Rattle.grammar.specs.Table.{shapes, items_of}
use Rattle.grammar.specs.Weights.{all_solid}
use Rattle.grammar.proofs.check.all_solid.Given as goal

abbrev pub invariant-loop-items : goal.invariant-loop-items
invariant-loop-items l = all_solid (shapes l.rules) (items_of (drop l.items-index l.alternatives)) ≡ all_solid (shapes l.rules) (items_of l.alternatives)
