use Rattle.std.proofs.Common.{◌≡◌, drop}
use Rattle.grammar.specs.Table.{shapes}
use Rattle.grammar.specs.Weights.{ranks_below}
use Rattle.grammar.proofs.check.ranks_below.Given as goal

abbrev pub invariant-loop-item : goal.invariant-loop-item
invariant-loop-item l = ranks_below (shapes l.rules) l.rank (drop l.item-index l.items) ≡ ranks_below (shapes l.rules) l.rank l.items
