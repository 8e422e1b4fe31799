-- Arranged rows, in which ties are free, and the total order, which is one list.
use Rattle.std.specs.Prelude.{◌≡◌, ℕ, if◌then◌else◌, List, [], ◌∷◌, take, drop, Option, Some, None, IsPermutation, IsSorted}
use Rattle.std.specs.declared.cmp.Ordering.{Ordering}
use Rattle.std.specs.Ordering.{is_gt}
use Rattle.vdb_model.specs.declared.rel.Key.{Key}
use Rattle.vdb_model.specs.Rows.{Cells}
use Rattle.vdb_model.specs.Keys.{keys_cmp, total_cmp}

-- what is left after dropping the offset and keeping at most the limit
abbrev pub window : ℕ → Option ℕ → List Cells → List Cells
window offset None rows = drop offset rows
window offset (Some limit) rows = take limit (drop offset rows)

-- some rearrangement of the bag is sorted by the keys, and out is a window of it
pub record Arranged (keys : List Key) (offset : ℕ) (limit : Option ℕ) (bag out : List Cells) : Type 0 where
  pub sorted : List Cells
  pub same : IsPermutation bag sorted
  pub in_order : IsSorted (keys_cmp keys) sorted
  pub cut : out ≡ window offset limit sorted

-- a row put before the first that is greater
abbrev pub put_in : (Cells → Cells → Ordering) → Cells → List Cells → List Cells
put_in cmp row [] = row ∷ []
put_in cmp row (next ∷ rows) = if is_gt (cmp row next) then next ∷ put_in cmp row rows else row ∷ next ∷ rows

-- the rows in order
abbrev pub in_order : (Cells → Cells → Ordering) → List Cells → List Cells
in_order cmp [] = []
in_order cmp (row ∷ rows) = put_in cmp row (in_order cmp rows)

-- the rows in the total order by the keys, and a window of them
abbrev pub arranged : List Key → ℕ → Option ℕ → List Cells → List Cells
arranged keys offset limit bag = window offset limit (in_order (total_cmp keys) bag)
