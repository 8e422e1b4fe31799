use Rattle.std.proofs.Common.{◌≡◌, drop}
use Rattle.grammar.specs.Table.{shapes, items_of}
use Rattle.grammar.specs.Weights.{all_light}
use Rattle.grammar.proofs.check.all_light.Given as goal

abbrev pub invariant-loop-items : goal.invariant-loop-items
invariant-loop-items l = all_light (shapes l.rules) l.weight (items_of (drop l.items-index l.alternatives)) ≡ all_light (shapes l.rules) l.weight (items_of l.alternatives)
