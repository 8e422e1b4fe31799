use Rattle.std.proofs.Common.{◌≡◌, ◌++◌, take}
use Rattle.resolver.proofs.from.seen_with.Given as goal

abbrev pub invariant-loop-name : goal.invariant-loop-name
invariant-loop-name l = l.made ≡ take l.name-index l.seen
