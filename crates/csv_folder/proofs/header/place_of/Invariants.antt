use Rattle.std.proofs.Common.{◌≡◌, ◌+◌, drop}
use Rattle.std.specs.List.{list_any}
use Rattle.csv.specs.Records.{fields_of}
use Rattle.csv_folder.specs.Cells.{same_folded}
use Rattle.csv_folder.specs.Header as spec
use Rattle.csv_folder.proofs.header.place_of.Given as goal

-- the name stands among those that are left
abbrev pub invariant-loop-at : goal.invariant-loop-at
invariant-loop-at l = record {
  place : l.at + spec.place_of l.name (drop l.at (fields_of l.header)) ≡ spec.place_of l.name (fields_of l.header);
  there : list_any (same_folded l.name) (drop l.at (fields_of l.header)) ≡ list_any (same_folded l.name) (fields_of l.header);
}
