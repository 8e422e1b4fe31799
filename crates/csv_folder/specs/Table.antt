-- What a file says of a table: its rows, or its first fault, the form before the cells.
use Rattle.std.specs.Prelude.{ℕ, ◌+◌, Bool, ◌&&◌, nat_le, if◌then◌else◌, List, [], ◌∷◌, length, Option, Some, None}
use Rattle.std.specs.Option.{option_or}
use Rattle.vdb_base.specs.declared.value.Value.{Value}
use Rattle.vdb_model.specs.declared.table.TableDef.{TableDef}
use Rattle.vdb_model.specs.Rows.{Cells}
use Rattle.csv_folder.specs.declared.said.Place.{Place}
use Rattle.csv_folder.specs.declared.said.Said.{Said}
use Rattle.csv_folder.specs.declared.said.Said.TheVariants.{Rows, Broken, BadCell}
use Rattle.csv_folder.specs.Cells.{same_folded}
use Rattle.csv_folder.specs.Header.{are_apart, names_all, all_long, cells_of_each}
use Rattle.csv_folder.specs.Keys.{keeps_key}
use Rattle.csv_folder.specs.Records.{Fields, records_in}

-- the place, counted on from this one, of the first cell without a value
abbrev pub bad_column : ℕ → List (Option Value) → Option ℕ
bad_column at [] = None
bad_column at (Some v ∷ cells) = bad_column (at + 1) cells
bad_column at (None ∷ cells) = Some at

abbrev pub place_at : ℕ → Option ℕ → Option Place
place_at row None = None
place_at row (Some col) = Some (record { row = row; col = col })

-- the first bad cell by rows and then by columns, rows counted on from this one
abbrev pub first_bad : ℕ → List (List (Option Value)) → Option Place
first_bad at [] = None
first_bad at (cells ∷ more) = option_or (place_at at (bad_column 1 cells)) (first_bad (at + 1) more)

-- the values of cells
abbrev pub values_of : List (Option Value) → Cells
values_of [] = []
values_of (Some v ∷ cells) = v ∷ values_of cells
values_of (None ∷ cells) = values_of cells

abbrev pub rows_of : List (List (Option Value)) → List Cells
rows_of [] = []
rows_of (cells ∷ more) = values_of cells ∷ rows_of more

-- the rows, unless a cell is bad
abbrev pub said_of : Option Place → List Cells → Said
said_of None rows = Rows rows
said_of (Some place) rows = BadCell place.row place.col

abbrev pub cells_say : List (List (Option Value)) → Said
cells_say cells = said_of (first_bad 1 cells) (rows_of cells)

-- the names in the header are apart, each column is there, each record is as long as the header, and no key repeats
abbrev pub is_formed : TableDef → Fields → List Fields → Bool
is_formed d header records = are_apart same_folded header && names_all d.columns header && all_long (length header) records
    && keeps_key d.key (cells_of_each d.columns header records)

-- what the records of a file say, the first of which is the header
abbrev pub records_say : TableDef → List Fields → Said
records_say d [] = Broken
records_say d (header ∷ records) = if is_formed d header records then cells_say (cells_of_each d.columns header records) else Broken

-- the most bytes that a file may have
abbrev pub file_limit : ℕ
file_limit = 67108864

-- what a file says, where it is there
abbrev pub file_says : TableDef → Option (List ℕ) → Said
file_says d None = Broken
file_says d (Some bytes) = if nat_le (length bytes) file_limit then records_say d (records_in bytes) else Broken
