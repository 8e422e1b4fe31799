-- The header of a file, its first record: it names the columns, in any order and in any case.
use Rattle.std.specs.Prelude.{ℕ, ◌+◌, Bool, true, not, ◌&&◌, ◌==◌, if◌then◌else◌, List, [], ◌∷◌, length, slice_index_or, Option}
use Rattle.std.specs.List.{list_any}
use Rattle.vdb_base.specs.declared.value.Value.{Value}
use Rattle.vdb_model.specs.declared.table.ColumnDef.{ColumnDef}
use Rattle.csv_folder.specs.Cells.{same_folded, cell_of}
use Rattle.csv_folder.specs.Records.{Fields}

-- no two of a list are the same
abbrev pub are_apart : {T : Type 0} → (T → T → Bool) → List T → Bool
are_apart same [] = true
are_apart same (x ∷ xs) = not (list_any (same x) xs) && are_apart same xs

-- each column stands in the header, by its source name
abbrev pub names_all : List ColumnDef → Fields → Bool
names_all [] header = true
names_all (c ∷ cs) header = list_any (same_folded c.source) header && names_all cs header

-- where a name stands in the header
abbrev pub place_of : List ℕ → Fields → ℕ
place_of name [] = 0
place_of name (h ∷ hs) = if same_folded name h then 0 else place_of name hs + 1

-- the field of a record under a name
abbrev pub field_under : List ℕ → Fields → Fields → List ℕ
field_under name header fields = slice_index_or fields (place_of name header) []

-- the cells of a record in a table's columns, none where the column takes nothing that the field says
abbrev pub cells_of : List ColumnDef → Fields → Fields → List (Option Value)
cells_of [] header fields = []
cells_of (c ∷ cs) header fields = cell_of c (field_under c.source header fields) ∷ cells_of cs header fields

abbrev pub cells_of_each : List ColumnDef → Fields → List Fields → List (List (Option Value))
cells_of_each columns header [] = []
cells_of_each columns header (fields ∷ records) = cells_of columns header fields ∷ cells_of_each columns header records

-- each record has so many fields
abbrev pub all_long : ℕ → List Fields → Bool
all_long width [] = true
all_long width (fields ∷ records) = length fields == width && all_long width records
