use Rattle.std.proofs.Common.{◌≡◌, drop}
use Rattle.csv.specs.Records.{fields_of}
use Rattle.csv_folder.specs.Cells.{same_folded}
use Rattle.csv_folder.specs.Header as spec
use Rattle.csv_folder.proofs.Apart.{apart_from}
use Rattle.csv_folder.proofs.NamesSeen.{was_named}
use Rattle.csv_folder.proofs.header.are_apart.Given as goal

-- the names that are left decide, beside those so far
abbrev pub invariant-loop-at : goal.invariant-loop-at
invariant-loop-at l = apart_from (was_named l.seen) same_folded (drop l.at (fields_of l.header)) ≡ spec.are_apart same_folded (fields_of l.header)
