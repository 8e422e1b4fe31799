-- Groups, one after another.
use Rattle.std.proofs.Common.{◌≡◌, ℕ, List, [], ◌∷◌, ◌++◌, refl, ap}
use Rattle.vdb_model.specs.declared.rel.Agg.{Agg}
use Rattle.vdb_model.specs.Groups.{members, aggregates, rows_by_group}
use Rattle.vdb_model.specs.Rows.{Cells}

-- every row is of the one group
pub without_keys : (rows : List Cells) → members [] [] rows ≡ rows
without_keys [] = refl
without_keys (row ∷ rows) = ap (λ z. row ∷ z) (without_keys rows)

pub groups_more : (keys : List ℕ) (aggs : List Agg) (vars : Cells) (rows groups : List Cells) (group : Cells)
    → rows_by_group keys aggs vars rows (groups ++ group ∷ []) ≡ rows_by_group keys aggs vars rows groups ++ (group ++ aggregates aggs vars (members keys group rows)) ∷ []
groups_more keys aggs vars rows [] group = refl
groups_more keys aggs vars rows (g ∷ groups) group = ap (λ z. (g ++ aggregates aggs vars (members keys g rows)) ∷ z) (groups_more keys aggs vars rows groups group)
