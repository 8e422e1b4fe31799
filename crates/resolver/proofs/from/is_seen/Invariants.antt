use Rattle.std.proofs.Common.{◌≡◌, drop}
use Rattle.resolver.specs.From.{is_seen}
use Rattle.resolver.proofs.from.is_seen.Given as goal

abbrev pub invariant-loop-other : goal.invariant-loop-other
invariant-loop-other l = is_seen l.name (drop l.other-index l.seen) ≡ is_seen l.name l.seen
