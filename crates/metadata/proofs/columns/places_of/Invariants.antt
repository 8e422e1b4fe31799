use Rattle.std.proofs.Common.{◌≡◌, ◌++◌, drop}
use Rattle.metadata.specs.Columns.{places_of}
use Rattle.metadata.proofs.columns.places_of.Given as goal

abbrev pub invariant-loop-name : goal.invariant-loop-name
invariant-loop-name l = l.made ++ places_of l.columns (drop l.name-index l.names) ≡ places_of l.columns l.names
