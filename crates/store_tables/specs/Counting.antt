-- How often rows stand in a table, as it is kept and as a branch sees it, by a map that has each row once.
use Rattle.std.specs.Prelude.{◌≡◌, ℕ, Bool, true, false, if◌then◌else◌, List, Option, Some, None, is_some}
use Rattle.std.specs.List.{count_by, list_any}
use Rattle.std.specs.BTreeMap.{BTreeMap, get}
use Rattle.vdb_base.specs.Order.{row_cmp}
use Rattle.vdb_model.specs.Rows.{Cells, same_row}
use Rattle.store_tables.specs.declared.counting.Counts.{Counts}

-- how often the row stands among rows
abbrev pub times : Cells → List Cells → ℕ
times row rows = count_by (same_row row) rows

-- each row stands as often in both
abbrev pub SameBag : List Cells → List Cells → Type 0
SameBag a b = (row : Cells) → times row a ≡ times row b

-- the row is one of these
abbrev pub is_among : Cells → List Cells → Bool
is_among row rows = list_any (same_row row) rows

abbrev pub Counted : Type 0
Counted = BTreeMap Cells Counts

abbrev pub kept_in : Option Counts → ℕ
kept_in None = 0
kept_in (Some counts) = counts.kept

abbrev pub seen_in : Option Counts → ℕ
seen_in None = 0
seen_in (Some counts) = counts.seen

-- how often the map says that the row is kept, and seen
abbrev pub kept_at : Counted → Cells → ℕ
kept_at map row = kept_in (get row_cmp map row)

abbrev pub seen_at : Counted → Cells → ℕ
seen_at map row = seen_in (get row_cmp map row)

-- the map has a place for the row
abbrev pub has_place : Counted → Cells → Bool
has_place map row = is_some (get row_cmp map row)

-- every row but these is kept as often as it is seen
abbrev pub OnlyAt : List Cells → Counted → Type 0
OnlyAt rows map = (row : Cells) → is_among row rows ≡ false → kept_at map row ≡ seen_at map row

-- the map with a new place or without, where no row stands more or less often
pub record Places (row : Cells) (old new : Counted) : Type 0 where
  pub kept_is : (other : Cells) → kept_at new other ≡ kept_at old other
  pub seen_is : (other : Cells) → seen_at new other ≡ seen_at old other
  pub places : (other : Cells) → has_place old other ≡ true → has_place new other ≡ true

-- the row is seen so often, and nothing else moves
pub record SeesSo (row : Cells) (n : ℕ) (old new : Counted) : Type 0 where
  pub places : (other : Cells) → has_place new other ≡ has_place old other
  pub kept_is : (other : Cells) → kept_at new other ≡ kept_at old other
  pub seen_is : (other : Cells) → seen_at new other ≡ (if same_row row other then n else seen_at old other)

-- the row is kept and seen so often
pub record Settles (row : Cells) (n : ℕ) (old new : Counted) : Type 0 where
  pub kept_is : (other : Cells) → kept_at new other ≡ (if same_row row other then n else kept_at old other)
  pub seen_is : (other : Cells) → seen_at new other ≡ (if same_row row other then n else seen_at old other)
