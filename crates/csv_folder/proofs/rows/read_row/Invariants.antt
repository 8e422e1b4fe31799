use Rattle.std.proofs.Common.{◌≡◌, ◌++◌, ◌+◌, drop}
use Rattle.csv.specs.Records.{fields_of}
use Rattle.csv_folder.specs.Places.{cells_at}
use Rattle.csv_folder.specs.Table.{bad_column, values_of}
use Rattle.csv_folder.proofs.rows.read_row.Given as goal

-- the values so far and those to come are all, and no cell so far is bad
abbrev pub invariant-loop-at : goal.invariant-loop-at
invariant-loop-at l = record {
  values : l.row.items ++ values_of (cells_at (drop l.at l.columns) (drop l.at l.places) (fields_of l.fields)) ≡ values_of (cells_at l.columns l.places (fields_of l.fields));
  good : bad_column (l.at + 1) (cells_at (drop l.at l.columns) (drop l.at l.places) (fields_of l.fields)) ≡ bad_column 1 (cells_at l.columns l.places (fields_of l.fields));
}
