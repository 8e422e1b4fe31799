use Rattle.std.proofs.Common.{◌≡◌, drop}
use Rattle.csv.specs.Records.{fields_of}
use Rattle.csv_folder.specs.Keys as keys
use Rattle.csv_folder.specs.Places.{cells_at}
use Rattle.csv_folder.proofs.CellsByPlace.{ahead}
use Rattle.csv_folder.proofs.rows.key_of.Given as goal

-- the values so far and those to come are the key
abbrev pub invariant-loop-at : goal.invariant-loop-at
invariant-loop-at l =
    ahead l.key.items (keys.key_of (drop l.at-index l.ats) (cells_at l.columns l.places (fields_of l.fields))) ≡ keys.key_of l.ats (cells_at l.columns l.places (fields_of l.fields))
