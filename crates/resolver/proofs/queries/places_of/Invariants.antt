use Rattle.std.proofs.Common.{◌≡◌, ◌++◌, drop}
use Rattle.resolver.specs.Queries.{places_of}
use Rattle.resolver.proofs.queries.places_of.Given as goal

abbrev pub invariant-loop-at : goal.invariant-loop-at
invariant-loop-at l = l.found.items ++ places_of l.at l.name (drop l.at l.columns) ≡ places_of 0 l.fn.name l.fn.columns
