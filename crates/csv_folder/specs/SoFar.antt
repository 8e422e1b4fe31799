-- What reading the records of a table in one pass keeps of those so far.
use Rattle.std.specs.Prelude.{◌≡◌, ℕ, Bool, true, false, ◌&&◌, ◌||◌, if◌then◌else◌, List, [], ◌∷◌, ◌++◌, Option, Some, None}
use Rattle.std.specs.List.{list_any}
use Rattle.vdb_base.specs.declared.value.Value.{Value}
use Rattle.vdb_model.specs.declared.table.TableDef.{TableDef}
use Rattle.vdb_model.specs.Rows.{Cells, same_row}
use Rattle.csv_folder.specs.declared.seen.Seen.{Seen}
use Rattle.csv_folder.specs.declared.table.Made.{Made}
use Rattle.csv_folder.specs.declared.said.Place.{Place}
use Rattle.csv_folder.specs.declared.said.Said.{Said}
use Rattle.csv_folder.specs.declared.said.Said.TheVariants.{Broken}
use Rattle.csv_folder.specs.Header.{all_long}
use Rattle.csv_folder.specs.Keys.{key_of, keeps_key}
use Rattle.csv_folder.specs.Places.{cells_at_each}
use Rattle.csv_folder.specs.Records.{Fields}
use Rattle.csv_folder.specs.SeenItems.{items_of}
use Rattle.csv_folder.specs.Table.{bad_column, values_of, cells_say}

-- the key was seen already
abbrev pub was_seen : Seen Cells → Cells → Bool
was_seen seen key = list_any (same_row key) (items_of seen)

-- one more key, which was new
pub record Adds (key : Cells) (old new : Seen Cells) : Type 0 where
  pub fresh : was_seen old key ≡ false
  pub seen : (other : Cells) → was_seen new other ≡ (same_row key other || was_seen old other)

-- whether a key is new, where there is one
abbrev pub IsFreshKey : Option Cells → Seen Cells → Seen Cells → Bool → Type 0
IsFreshKey None old new fresh = (fresh ≡ true) × (new ≡ old)
IsFreshKey (Some key) old new true = Adds key old new
IsFreshKey (Some key) old new false = was_seen old key ≡ true

-- whether the key of a record is new, where one is declared
abbrev pub IsFresh : Option (List ℕ) → List (Option Value) → Seen Cells → Seen Cells → Bool → Type 0
IsFresh None cells old new fresh = (fresh ≡ true) × (new ≡ old)
IsFresh (Some ats) cells old new fresh = IsFreshKey (key_of ats cells) old new fresh

-- one more record, as a row or as the first bad cell
abbrev pub taking : ℕ → List (Option Value) → Option ℕ → Made → Made
taking at cells None made = record made { rows = made.rows ++ values_of cells ∷ [] }
taking at cells (Some col) made = record made { bad = Some (record { row = at; col = col }) }

-- no more rows are taken after a bad cell
abbrev pub taken_after : Option Place → ℕ → List (Option Value) → Made → Made
taken_after None at cells made = taking at cells (bad_column 1 cells) made
taken_after (Some place) at cells made = made

abbrev pub TakesRow : ℕ → List (Option Value) → Made → Made → Type 0
TakesRow at cells old new = new ≡ taken_after old.bad at cells old

-- what the records that are left say
abbrev pub left_say : TableDef → List ℕ → ℕ → List Fields → Said
left_say d places width records =
    if all_long width records && keeps_key d.key (cells_at_each d.columns places records) then cells_say (cells_at_each d.columns places records) else Broken
