-- Rows of another length than their columns.
use Rattle.std.proofs.Common.{◌≡◌, suc, Bool, true, false, ◌&&◌, List, [], ◌∷◌, length, refl, ap, ◌∙◌}
use Rattle.vdb_model.specs.declared.table.ColumnDef.{ColumnDef}
use Rattle.vdb_model.specs.Rows.{Cells}
use Rattle.vdb_model.specs.World.{takes_cell, takes_row}

pub row_long : (columns : List ColumnDef) (row : Cells) → (length row ≡ length columns → ⊥) → takes_row columns row ≡ false
row_long [] [] h = absurd (h refl)
row_long [] (v ∷ vs) h = refl
row_long (c ∷ cs) [] h = refl
row_long (c ∷ cs) (v ∷ vs) h = ap (λ b. takes_cell c v && b) (row_long cs vs (λ e. h (ap suc e))) ∙ and_false (takes_cell c v)
  where
    and_false : (b : Bool) → (b && false) ≡ false
    and_false true = refl
    and_false false = refl
