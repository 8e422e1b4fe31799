-- The primary key of the records of a file.
use Rattle.std.specs.Prelude.{ℕ, Bool, true, List, [], ◌∷◌, slice_index_or, Option, Some, None}
use Rattle.vdb_base.specs.declared.value.Value.{Value}
use Rattle.vdb_base.specs.declared.value.Value.TheVariants.{Null}
use Rattle.vdb_model.specs.Rows.{Cells, same_row}
use Rattle.csv_folder.specs.Header.{are_apart}

abbrev pub with_cell : Option Value → Option Cells → Option Cells
with_cell (Some v) (Some key) = Some (v ∷ key)
with_cell (Some v) None = None
with_cell None key = None

-- the values of a record in the columns of a key, where each of these cells has one; a column that is not there is NULL
abbrev pub key_of : List ℕ → List (Option Value) → Option Cells
key_of [] cells = Some []
key_of (at ∷ ats) cells = with_cell (slice_index_or cells at (Some Null)) (key_of ats cells)

abbrev pub with_key : Option Cells → List Cells → List Cells
with_key None keys = keys
with_key (Some key) keys = key ∷ keys

-- the keys of the records that have one
abbrev pub keys_of : List ℕ → List (List (Option Value)) → List Cells
keys_of ats [] = []
keys_of ats (cells ∷ more) = with_key (key_of ats cells) (keys_of ats more)

-- no two records have the same key, where one is declared
abbrev pub keeps_key : Option (List ℕ) → List (List (Option Value)) → Bool
keeps_key None records = true
keeps_key (Some ats) records = are_apart same_row (keys_of ats records)
