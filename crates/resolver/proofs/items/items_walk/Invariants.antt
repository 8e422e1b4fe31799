use Rattle.std.proofs.Common.{◌≡◌, ◌+◌, [], drop}
use Rattle.resolver.specs.Items.{items_walk}
use Rattle.resolver.proofs.items.items_walk.Given as goal

abbrev pub invariant-loop-at : goal.invariant-loop-at
invariant-loop-at l = items_walk l.names l.over (l.at + 1) (drop l.at l.items) l.made l.aggs ≡ items_walk l.fn.names l.fn.over 1 l.fn.items [] l.initial.aggs
