use Rattle.std.proofs.Common.{◌≡◌}
use Rattle.vdb_session.specs.Fetching.{numbers}
use Rattle.vdb_session.proofs.fetching.numbers.Given as goal

abbrev pub invariant-loop-at : goal.invariant-loop-at
invariant-loop-at l = l.made ≡ numbers 0 l.at
