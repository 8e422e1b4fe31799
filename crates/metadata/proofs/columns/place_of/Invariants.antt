use Rattle.std.proofs.Common.{◌≡◌, drop}
use Rattle.metadata.specs.Columns.{place_from}
use Rattle.metadata.proofs.columns.place_of.Given as goal

abbrev pub invariant-loop-at : goal.invariant-loop-at
invariant-loop-at l = place_from l.at (drop l.at l.columns) l.name ≡ place_from 0 l.columns l.name
