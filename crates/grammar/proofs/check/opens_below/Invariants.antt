use Rattle.std.proofs.Common.{◌≡◌, drop, nat_lt}
use Rattle.grammar.specs.Table.{shapes}
use Rattle.grammar.specs.Weights.{opening}
use Rattle.grammar.proofs.check.opens_below.Given as goal

abbrev pub invariant-loop-item : goal.invariant-loop-item
invariant-loop-item l = nat_lt (opening (shapes l.rules) (drop l.item-index l.items)) l.left ≡ nat_lt (opening (shapes l.rules) l.items) l.limit
