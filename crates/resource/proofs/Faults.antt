-- What checking answers, part after part.
use Rattle.std.proofs.Common.{◌≡◌, ℕ, ◌≤◌, min, List, [], ◌∷◌, None, length, refl, arith}
use Rattle.vdb_model.specs.declared.table.ColumnDef.{ColumnDef}
use Rattle.vdb_model.specs.Rows.{Cells}
use Rattle.resource.specs.Stored.{bad_column}

-- no cell is left
pub bad_done : (at : ℕ) (cs : List ColumnDef) (row : Cells) → min (length cs) (length row) ≤ 0 → bad_column at cs row ≡ None
bad_done at [] row h = refl
bad_done at (c ∷ cs) [] h = refl
bad_done at (c ∷ cs) (v ∷ vs) h = absurd (omega arith)
