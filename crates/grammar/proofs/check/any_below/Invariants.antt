use Rattle.std.proofs.Common.{◌≡◌, drop}
use Rattle.grammar.specs.Table.{shapes, items_of}
use Rattle.grammar.specs.Weights.{any_below}
use Rattle.grammar.proofs.check.any_below.Given as goal

abbrev pub invariant-loop-items : goal.invariant-loop-items
invariant-loop-items l = any_below (shapes l.rules) l.rank (items_of (drop l.items-index l.alternatives)) ≡ any_below (shapes l.rules) l.rank (items_of l.alternatives)
