-- Group over rows that are rearranged.
use Rattle.std.proofs.Common.{◌≡◌, List, [], ◌∷◌, ◌++◌, ℕ, refl, ap, subst, flat_map}
use Rattle.std.proofs.lemmas.List.Sorted.{IsPermutation-refl}
use Rattle.vdb_model.specs.declared.rel.Agg.{Agg}
use Rattle.vdb_model.specs.Rows.{Cells, same_row, cut, cut_rows}
use Rattle.vdb_model.specs.Groups.{aggregates, key_lists, members, rows_by_group, group_rows}
use Rattle.vdb_model.proofs.Rearranged.{IsPermutation-filter}
use Rattle.vdb_model.proofs.SameRows.{Same, keeps_by_row, same_cut}
use Rattle.vdb_model.proofs.SameDistinct.{same_distinct}
use Rattle.row_laws.proofs.Aggregates.{same_aggregates}

same_key_lists : (keys : List ℕ) (xs ys : List Cells) → Same xs ys → Same (key_lists keys xs) (key_lists keys ys)
same_key_lists [] xs ys h = IsPermutation-refl ([] ∷ [])
same_key_lists (key ∷ keys) xs ys h = same_distinct (cut_rows (key ∷ keys) xs) (cut_rows (key ∷ keys) ys) (same_cut (key ∷ keys) xs ys h)

module _ (keys : List ℕ) (aggs : List Agg) (vars : Cells) where
  -- a group's row
  abbrev row_of : List Cells → Cells → Cells
  row_of rows group = group ++ aggregates aggs vars (members keys group rows)

  by_group : (rows groups : List Cells) → rows_by_group keys aggs vars rows groups ≡ flat_map (λ group. row_of rows group ∷ []) groups
  by_group rows [] = refl
  by_group rows (group ∷ groups) = ap (λ made. row_of rows group ∷ made) (by_group rows groups)

  module _ (xs ys : List Cells) (h : Same xs ys) where
    same_row_of : (group : Cells) → row_of xs group ≡ row_of ys group
    same_row_of group = ap (λ made. group ++ made) (same_aggregates aggs vars (members keys group xs) (members keys group ys) (IsPermutation-filter (λ row. same_row (cut keys row) group) xs ys h))

    same_by_group : (groups : List Cells) → rows_by_group keys aggs vars xs groups ≡ rows_by_group keys aggs vars ys groups
    same_by_group [] = refl
    same_by_group (group ∷ groups) = λ i. same_row_of group i ∷ same_by_group groups i

    pub same_groups : Same (group_rows keys aggs vars xs) (group_rows keys aggs vars ys)
    same_groups = subst (Same (group_rows keys aggs vars xs)) (same_by_group (key_lists keys ys))
        (keeps_by_row (rows_by_group keys aggs vars xs) (λ group. row_of xs group ∷ []) (by_group xs) (key_lists keys xs) (key_lists keys ys) (same_key_lists keys xs ys h))
