-- Fetching the tables that a query reads, whole and each once.
use Rattle.std.specs.Prelude.{◌≡◌, ℕ, zero, suc, ◌+◌, ◌<◌, Bool, true, false, List, [], ◌∷◌, length, slice_index_or, Option, Some, None, Result, Ok, Err, IfSome, IsPermutation, All}
use Rattle.vdb_base.specs.Counts.{Rose}
use Rattle.vdb_model.specs.declared.bag.Bag.{Bag}
use Rattle.vdb_model.specs.declared.source.SourceQuery.{SourceQuery}
use Rattle.vdb_model.specs.declared.table.TableDef.{TableDef}
use Rattle.vdb_model.specs.Defined.{Defined}
use Rattle.vdb_model.specs.Defs.{no_table, def_of}
use Rattle.vdb_model.specs.Relations.{no_bag}
use Rattle.vdb_model.specs.Rows.{Cells}
use Rattle.vdb_model.specs.WellFormed.{tables_on}
use Rattle.processor.specs.Reads.{mark}
use Rattle.resource.specs.declared.lane.Lane.{Lane}
use Rattle.resource.specs.declared.resource.ResFault.{ResFault}
use Rattle.resource.specs.declared.resource.ResFault.TheVariants as res
use Rattle.resource.specs.declared.resource.ResState.TheVariants as state
use Rattle.resource.specs.Asks.{Allows, AnswersQuery}
use Rattle.resource.specs.Told.{Told, IsWorld}
use Rattle.vdb_session.specs.declared.fetching.FetchFault.{FetchFault}
use Rattle.vdb_session.specs.declared.fetching.FetchFault.TheVariants as fetch
use Rattle.vdb_session.specs.Lanes.{attached}
use Rattle.vdb_session.specs.Shown.{rows_of_table, serves, lane_from, server_shows, sees, tables_for}

-- numbers in turn, so many, from here
abbrev pub numbers : ℕ → ℕ → List ℕ
numbers n zero = []
numbers n (suc count) = n ∷ numbers (n + 1) count

-- the query for the whole of a table
abbrev pub whole : TableDef → SourceQuery
whole d = record { tables = d.number ∷ []; filter = []; columns = numbers 0 (length d.columns); distinct = false; order = []; limit = None; count = false }

-- the lane that failed, where one did
abbrev pub failed_lane : {T : Type 0} → Result T FetchFault → Option ℕ
failed_lane (Ok made) = None
failed_lane (Err (fetch.Failed lane)) = Some lane
failed_lane (Err fetch.Memory) = None

-- what the lane at a place answered
abbrev pub at_lane : Result (List Cells) ResFault → ℕ → Result (List Cells) FetchFault
at_lane (Ok rows) lane = Ok rows
at_lane (Err res.Failed) lane = Err (fetch.Failed lane)
at_lane (Err res.Memory) lane = Err fetch.Memory

-- the rows answer the query for the whole of the table, over tables whose rows their definitions take
pub record AnswersWhole (d : TableDef) (t : Told) (rows : List Cells) : Type 0 where
  pub answers : AnswersQuery t (whole d) rows
  pub world : IsWorld t

-- a lane stays attached as it was, and so does its count
pub record StaysAttached (old new : Told) : Type 0 where
  pub kept : attached new ≡ attached old
  pub count : new.faults ≡ old.faults

-- what a lane that was asked for a table answers, and is left as
abbrev pub AskedHere : TableDef → Result (List Cells) ResFault → Told → Told → Type 0
AskedHere d (Ok rows) old new = StaysAttached old new × AnswersWhole d old rows
AskedHere d (Err res.Memory) old new = StaysAttached old new
AskedHere d (Err res.Failed) old new = (attached new ≡ attached old) × Rose old.faults new.faults

-- a lane may be asked for the whole of a table: it is attached to those of the table's server, and this is one of them
pub record MayAskHere (cat : Defined) (d : TableDef) (t : Told) : Type 0 where
  pub defs : t.defs ≡ Some (tables_on d.server cat.tables)
  pub one_of : def_of (tables_on d.server cat.tables) d.number ≡ d
  pub allows : Allows t (whole d)

-- and so may each that serves the table's server
abbrev pub MayAsk : {S : Type 0} → (S → Told) → Defined → TableDef → List (Lane S) → Type 0
MayAsk told cat d lanes = All (λ lane. serves cat d.server lane.name ≡ true → MayAskHere cat d (told lane.res)) lanes

-- for each table of the catalog
abbrev pub MayAskEach : {S : Type 0} → (S → Told) → Defined → List (Lane S) → Type 0
MayAskEach told cat lanes = All (λ d. MayAsk told cat d lanes) cat.tables

-- the lane at the place is the first that serves the server
abbrev pub IsServing : {S : Type 0} → Defined → ℕ → List (Lane S) → ℕ → Type 0
IsServing cat server lanes at = lane_from 0 cat server lanes ≡ Some at

-- the lane is attached to the tables of its server, and has no branch
pub record IsAttached {S : Type 0} (told : S → Told) (cat : Defined) (lane : Lane S) : Type 0 where
  pub defs : (told lane.res).defs ≡ Some (tables_for cat lane.name)
  pub idle : (told lane.res).state ≡ state.Idle

abbrev pub AreAttached : {S : Type 0} → (S → Told) → Defined → List (Lane S) → Type 0
AreAttached told cat lanes = All (IsAttached told cat) lanes

-- where the lane tells them, the table's rows in any order
abbrev pub AreRows : {S : Type 0} → (S → Told) → Defined → List (Lane S) → TableDef → List Cells → Type 0
AreRows told cat lanes d rows = IfSome (server_shows (sees told) cat lanes d.server) (λ shown. IsPermutation (rows_of_table cat d shown) rows)

-- as many columns as the table, and its rows
pub record IsFetched {S : Type 0} (told : S → Told) (cat : Defined) (lanes : List (Lane S)) (d : TableDef) (bag : Bag) : Type 0 where
  pub width : bag.width ≡ length d.columns
  pub rows : AreRows told cat lanes d bag.rows

-- each marked table up to a place is fetched; of the others nothing is known
abbrev pub AreFetchedTo : {S : Type 0} → (S → Told) → Defined → List (Lane S) → List Bool → ℕ → List Bag → Type 0
AreFetchedTo told cat lanes marks count bags =
    (n : ℕ) → n < count → mark marks n ≡ true → IsFetched told cat lanes (slice_index_or cat.tables n no_table) (slice_index_or bags n no_bag)

pub record AreFetched {S : Type 0} (told : S → Told) (cat : Defined) (lanes : List (Lane S)) (marks : List Bool) (bags : List Bag) : Type 0 where
  pub count : length bags ≡ length cat.tables
  pub each : AreFetchedTo told cat lanes marks (length cat.tables) bags
