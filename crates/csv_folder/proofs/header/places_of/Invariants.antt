use Rattle.std.proofs.Common.{◌≡◌, ◌++◌, drop}
use Rattle.csv.specs.Records.{fields_of}
use Rattle.csv_folder.specs.Header.{names_all}
use Rattle.csv_folder.specs.Places.{places_in}
use Rattle.csv_folder.proofs.header.places_of.Given as goal

-- the places so far and those to come are all, and the columns that are left decide
abbrev pub invariant-loop-column : goal.invariant-loop-column
invariant-loop-column l = record {
  named : names_all (drop l.column-index l.columns) (fields_of l.header) ≡ names_all l.columns (fields_of l.header);
  places : l.places.items ++ places_in (drop l.column-index l.columns) (fields_of l.header) ≡ places_in l.columns (fields_of l.header);
}
