-- The cells of a record, one after the other, by the places of their columns.
use Rattle.std.proofs.Common.{◌≡◌, ◌++◌, ◌<◌, ◌≤◌, min, ℕ, zero, suc, List, [], ◌∷◌, Option, Some, None, length, drop, refl, sym, ap, append_assoc, arith}
use Rattle.std.specs.Prelude.{slice_index_or}
use Rattle.std.proofs.lemmas.List.{length-drop}
use Rattle.vdb_base.specs.declared.value.Value.{Value}
use Rattle.vdb_base.specs.declared.value.Value.TheVariants.{Null}
use Rattle.vdb_model.specs.declared.table.ColumnDef.{ColumnDef}
use Rattle.vdb_model.specs.Rows.{Cells}
use Rattle.csv_folder.specs.Cells.{cell_of}
use Rattle.csv_folder.specs.Keys.{with_cell}
use Rattle.csv_folder.specs.Places.{cells_at}
use Rattle.csv_folder.specs.Records.{Fields}

-- these values in front of a key, where it has one
abbrev pub ahead : Cells → Option Cells → Option Cells
ahead vs None = None
ahead vs (Some key) = Some (vs ++ key)

-- one more value
pub ahead_more : (vs : Cells) (v : Value) (key : Option Cells) → ahead (vs ++ v ∷ []) key ≡ ahead vs (with_cell (Some v) key)
ahead_more vs v None = refl
ahead_more vs v (Some key) = ap Some (append_assoc vs (v ∷ []) key)

-- no cells are left
none_left : (cs : List ColumnDef) (places : List ℕ) (fields : Fields) → min (length cs) (length places) ≤ 0 → cells_at cs places fields ≡ []
none_left [] places fields h = refl
none_left (c ∷ cs) [] fields h = refl
none_left (c ∷ cs) (p ∷ ps) fields h = absurd (omega arith)

pub cells_end : (cs : List ColumnDef) (places : List ℕ) (fields : Fields) (i : ℕ) → min (length cs) (length places) ≤ i → cells_at (drop i cs) (drop i places) fields ≡ []
cells_end cs places fields i h = none_left (drop i cs) (drop i places) fields (omega (arith, length-drop i cs, length-drop i places))

-- the cell of a column that has a place
pub cell_there : (cs : List ColumnDef) (places : List ℕ) (fields : Fields) (at : ℕ) (c : ColumnDef) → at < length cs → at < length places → c ≡ slice_index_or cs at c
    → slice_index_or (cells_at cs places fields) at (Some Null) ≡ cell_of c (slice_index_or fields (slice_index_or places at 0) [])
cell_there [] places fields at c h k is = absurd (omega arith)
cell_there (d ∷ cs) [] fields at c h k is = absurd (omega arith)
cell_there (d ∷ cs) (p ∷ ps) fields zero c h k is = ap (λ e. cell_of e (slice_index_or fields p [])) (sym is)
cell_there (d ∷ cs) (p ∷ ps) fields (suc at) c h k is = cell_there cs ps fields at c (omega arith) (omega arith) is

-- or of one that has none
pub no_cell : (cs : List ColumnDef) (places : List ℕ) (fields : Fields) (at : ℕ) → min (length cs) (length places) ≤ at → slice_index_or (cells_at cs places fields) at (Some Null) ≡ Some Null
no_cell [] places fields at h = refl
no_cell (c ∷ cs) [] fields at h = refl
no_cell (c ∷ cs) (p ∷ ps) fields zero h = absurd (omega arith)
no_cell (c ∷ cs) (p ∷ ps) fields (suc at) h = no_cell cs ps fields at (omega arith)
