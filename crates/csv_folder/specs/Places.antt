-- The columns of a table by their places in a file.
use Rattle.std.specs.Prelude.{◌≡◌, ℕ, true, false, List, [], ◌∷◌, slice_index_or, Option, Some, None, Vec}
use Rattle.std.specs.List.{list_any}
use Rattle.vdb_base.specs.declared.value.Value.{Value}
use Rattle.vdb_model.specs.declared.table.ColumnDef.{ColumnDef}
use Rattle.csv_folder.specs.declared.rows.RowRead.{RowRead}
use Rattle.csv_folder.specs.declared.rows.RowRead.TheVariants.{Row, Bad}
use Rattle.csv_folder.specs.Cells.{same_folded, cell_of}
use Rattle.csv_folder.specs.Header.{names_all, place_of}
use Rattle.csv_folder.specs.Records.{Fields}
use Rattle.csv_folder.specs.Table.{bad_column, values_of}

-- where a name was found
abbrev pub FindsPlace : List ℕ → Fields → Option ℕ → Type 0
FindsPlace name header (Some at) = (list_any (same_folded name) header ≡ true) × (at ≡ place_of name header)
FindsPlace name header None = list_any (same_folded name) header ≡ false

abbrev pub places_in : List ColumnDef → Fields → List ℕ
places_in [] header = []
places_in (c ∷ cs) header = place_of c.source header ∷ places_in cs header

-- where the columns were found
abbrev pub FindsPlaces : {A : Type 0} → List ColumnDef → Fields → Option (Vec ℕ A) → Type 0
FindsPlaces columns header (Some places) = (names_all columns header ≡ true) × (places.items ≡ places_in columns header)
FindsPlaces columns header None = names_all columns header ≡ false

-- the cells of a record in columns that have these places in it
abbrev pub cells_at : List ColumnDef → List ℕ → Fields → List (Option Value)
cells_at [] places fields = []
cells_at (c ∷ cs) [] fields = []
cells_at (c ∷ cs) (place ∷ places) fields = cell_of c (slice_index_or fields place []) ∷ cells_at cs places fields

abbrev pub cells_at_each : List ColumnDef → List ℕ → List Fields → List (List (Option Value))
cells_at_each columns places [] = []
cells_at_each columns places (fields ∷ records) = cells_at columns places fields ∷ cells_at_each columns places records

-- a record as a row, or its first bad cell
abbrev pub IsRow : List (Option Value) → RowRead → Type 0
IsRow cells (Row row) = (bad_column 1 cells ≡ None) × (row ≡ values_of cells)
IsRow cells (Bad col) = bad_column 1 cells ≡ Some col
