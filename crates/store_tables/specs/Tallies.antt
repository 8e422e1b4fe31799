-- The rows of a table as a tally has them.
use Rattle.std.specs.Prelude.{◌≡◌, ℕ, ◌+◌, ◌-◌, ◌^◌, ◌<◌, true, List}
use Rattle.vdb_model.specs.Rows.{Cells}
use Rattle.store_tables.specs.Counting.{times, is_among, kept_at, seen_at, has_place}
use Rattle.store_tables.specs.declared.tally.Tally.{Tally}

abbrev pub kept_times : Tally → Cells → ℕ
kept_times tally row = kept_at tally.counts row

abbrev pub seen_times : Tally → Cells → ℕ
seen_times tally row = seen_at tally.counts row

-- the tally has these rows, as kept and as seen
pub record Tallies (kept seen : List Cells) (tally : Tally) : Type 0 where
  pub kept_is : (row : Cells) → kept_times tally row ≡ times row kept
  pub seen_is : (row : Cells) → seen_times tally row ≡ times row seen

-- no row stands there more or less often
pub record SameTimes (old new : Tally) : Type 0 where
  pub kept_is : (row : Cells) → kept_times new row ≡ kept_times old row
  pub seen_is : (row : Cells) → seen_times new row ≡ seen_times old row

-- the branch may change how often the row is seen, up to so many times more
pub record IsReady (more : ℕ) (tally : Tally) (row : Cells) : Type 0 where
  pub place : has_place tally.counts row ≡ true
  pub touched : is_among row tally.touched.items ≡ true
  pub fits : seen_times tally row + more < 2 ^ 64

-- each of these rows
abbrev pub AreReady : ℕ → List Cells → Tally → Type 0
AreReady more rows tally = (row : Cells) → is_among row rows ≡ true → IsReady more tally row

-- what was ready still is
abbrev pub KeepsReady : Tally → Tally → Type 0
KeepsReady old new = (more : ℕ) (row : Cells) → IsReady more old row → IsReady more new row

-- the branch has the same places, and may change the same rows
pub record SamePlaces (old new : Tally) : Type 0 where
  pub places : (row : Cells) → has_place new.counts row ≡ has_place old.counts row
  pub touched : new.touched.items ≡ old.touched.items

-- these rows are taken out, as often as they are listed and stand there
pub record Loses (rows : List Cells) (old new : Tally) : Type 0 where
  pub same : SamePlaces old new
  pub kept_is : (row : Cells) → kept_times new row ≡ kept_times old row
  pub seen_is : (row : Cells) → seen_times new row ≡ seen_times old row - times row rows

-- these rows are put in, as often as they are listed
pub record Gains (rows : List Cells) (old new : Tally) : Type 0 where
  pub same : SamePlaces old new
  pub kept_is : (row : Cells) → kept_times new row ≡ kept_times old row
  pub seen_is : (row : Cells) → seen_times new row ≡ seen_times old row + times row rows

-- a branch ended: each row is kept and seen as often as this says of before
pub record Ends (left : Tally → Cells → ℕ) (old new : Tally) : Type 0 where
  pub kept_is : (row : Cells) → kept_times new row ≡ left old row
  pub seen_is : (row : Cells) → seen_times new row ≡ left old row
