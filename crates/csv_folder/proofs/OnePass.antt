-- What the records that are left say beside those that were read, in one pass.
use Rattle.std.proofs.Common.{◌≡◌, ◌∙◌, ◌+◌, ◌==◌, ◌&&◌, ◌++◌, if◌then◌else◌, ℕ, Bool, true, false, List, [], ◌∷◌, Option, Some, None, length, refl, ap, append_assoc}
use Rattle.std.proofs.lemmas.List.{append-nil}
use Rattle.std.specs.Option.{option_or}
use Rattle.vdb_base.specs.declared.value.Value.{Value}
use Rattle.vdb_model.specs.declared.table.TableDef.{TableDef}
use Rattle.vdb_model.specs.Rows.{Cells, same_row}
use Rattle.csv_folder.specs.declared.seen.Seen.{Seen}
use Rattle.csv_folder.specs.declared.table.Made.{Made}
use Rattle.csv_folder.specs.declared.said.Place.{Place}
use Rattle.csv_folder.specs.declared.said.Said.{Said}
use Rattle.csv_folder.specs.declared.said.Said.TheVariants.{Rows, Broken}
use Rattle.csv_folder.specs.Header.{all_long}
use Rattle.csv_folder.specs.Keys.{key_of, with_key, keys_of, keeps_key}
use Rattle.csv_folder.specs.Places.{cells_at_each}
use Rattle.csv_folder.specs.Records.{Fields}
use Rattle.csv_folder.specs.SoFar.{was_seen, IsFreshKey, IsFresh, taking, taken_after, left_say}
use Rattle.csv_folder.specs.Table.{bad_column, place_at, first_bad, values_of, rows_of, said_of, cells_say}
use Rattle.csv_folder.proofs.Apart.{apart_from, apart_none, apart_more, apart_stop}

-- no key repeats among the records that are left, and none was seen
abbrev pub keeps_from : Option (List ℕ) → Seen Cells → List (List (Option Value)) → Bool
keeps_from None seen cells = true
keeps_from (Some ats) seen cells = apart_from (was_seen seen) same_row (keys_of ats cells)

-- at first nothing was seen
pub keeps_first : (key : Option (List ℕ)) (seen : Seen Cells) (cells : List (List (Option Value))) → ((k : Cells) → was_seen seen k ≡ false) → keeps_from key seen cells ≡ keeps_key key cells
keeps_first None seen cells e = refl
keeps_first (Some ats) seen cells e = apart_none (was_seen seen) same_row (keys_of ats cells) e

one_key : (ats : List ℕ) (key : Option Cells) (old new : Seen Cells) (keys : List Cells) → IsFreshKey key old new true
    → apart_from (was_seen new) same_row keys ≡ apart_from (was_seen old) same_row (with_key key keys)
one_key ats None old new keys h = ap (λ s. apart_from (was_seen s) same_row keys) h.1
one_key ats (Some key) old new keys h = apart_more (was_seen old) (was_seen new) same_row key keys h.seen h.fresh

-- a record whose key is new
pub keeps_more : (key : Option (List ℕ)) (old new : Seen Cells) (cells : List (Option Value)) (more : List (List (Option Value))) → IsFresh key cells old new true
    → keeps_from key new more ≡ keeps_from key old (cells ∷ more)
keeps_more None old new cells more h = refl
keeps_more (Some ats) old new cells more h = one_key ats (key_of ats cells) old new (keys_of ats more) h

one_stop : (key : Option Cells) (old new : Seen Cells) (keys : List Cells) → IsFreshKey key old new false → apart_from (was_seen old) same_row (with_key key keys) ≡ false
one_stop None old new keys h = cc h.0
one_stop (Some key) old new keys h = apart_stop (was_seen old) same_row key keys h

-- a record whose key was seen
pub keeps_stop : (key : Option (List ℕ)) (old new : Seen Cells) (cells : List (Option Value)) (more : List (List (Option Value))) → IsFresh key cells old new false
    → keeps_from key old (cells ∷ more) ≡ false
keeps_stop None old new cells more h = cc h.0
keeps_stop (Some ats) old new cells more h = one_stop (key_of ats cells) old new (keys_of ats more) h

-- what the cells that are left say beside the rows so far and the first bad cell
abbrev pub said_after : Option Place → List Cells → ℕ → List (List (Option Value)) → Said
said_after None rows at cells = said_of (first_bad at cells) (rows ++ rows_of cells)
said_after (Some place) rows at cells = said_of (Some place) rows

-- one more record
pub said_more : (bad : Option Place) (made : Made) (at : ℕ) (cells : List (Option Value)) (more : List (List (Option Value))) → made.bad ≡ bad
    → said_after (taken_after bad at cells made).bad (taken_after bad at cells made).rows (at + 1) more ≡ said_after bad made.rows at (cells ∷ more)
said_more (Some place) made at cells more e = ap (λ b. said_after b made.rows (at + 1) more) e
said_more None made at cells more e = here (bad_column 1 cells)
  where
    later : Option Place
    later = first_bad (at + 1) more

    here : (col : Option ℕ) → said_after (taking at cells col made).bad (taking at cells col made).rows (at + 1) more
        ≡ said_of (option_or (place_at at col) later) (made.rows ++ (values_of cells ∷ rows_of more))
    here (Some col) = refl
    here None = ap (λ b. said_after b (made.rows ++ values_of cells ∷ []) (at + 1) more) e
        ∙ ap (said_of later) (append_assoc made.rows (values_of cells ∷ []) (rows_of more))

-- at the end
pub said_end : (bad : Option Place) (rows : List Cells) (at : ℕ) → said_after bad rows at [] ≡ said_of bad rows
said_end None rows at = ap Rows (append-nil rows)
said_end (Some place) rows at = refl

-- records of another length than the header's
pub not_long : (width : ℕ) (fields : Fields) (records : List Fields) → (length fields == width) ≡ false → all_long width (fields ∷ records) ≡ false
not_long width fields records e = ap (λ b. b && all_long width records) e

pub long_more : (width : ℕ) (fields : Fields) (records : List Fields) → (length fields == width) ≡ true → all_long width (fields ∷ records) ≡ all_long width records
long_more width fields records e = ap (λ b. b && all_long width records) e

-- the form is broken by the lengths, or by the keys
pub broken_long : (d : TableDef) (places : List ℕ) (width : ℕ) (records : List Fields) → all_long width records ≡ false → left_say d places width records ≡ Broken
broken_long d places width records e =
    let cells = cells_at_each d.columns places records in
    ap (λ b. if b && keeps_key d.key cells then cells_say cells else Broken) e

pub broken_keys : (d : TableDef) (places : List ℕ) (width : ℕ) (records : List Fields) → keeps_key d.key (cells_at_each d.columns places records) ≡ false → left_say d places width records ≡ Broken
broken_keys d places width records e = here (all_long width records) (keeps_key d.key cells) e
  where
    cells : List (List (Option Value))
    cells = cells_at_each d.columns places records

    here : (a b : Bool) → b ≡ false → (if a && b then cells_say cells else Broken) ≡ Broken
    here true false e = refl
    here true true e = cc
    here false b e = refl

-- or it isn't
pub formed_says : (d : TableDef) (places : List ℕ) (width : ℕ) (records : List Fields) → all_long width records ≡ true → keeps_key d.key (cells_at_each d.columns places records) ≡ true
    → left_say d places width records ≡ cells_say (cells_at_each d.columns places records)
formed_says d places width records long keeps =
    let cells = cells_at_each d.columns places records in
    ap (λ b. if b && keeps_key d.key cells then cells_say cells else Broken) long ∙ ap (λ b. if b then cells_say cells else Broken) keeps
