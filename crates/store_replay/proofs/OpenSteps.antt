-- What the records of an opened log say of the store.
use Rattle.std.proofs.Common.{◌≡◌, ◌≢◌, ℕ, ◌+◌, ◌-◌, Bool, true, false, cond, ◌&&◌, List, [], ◌∷◌, Option, Some, None, option_map, IfSome, Result, Ok, Err, refl, sym, ap, subst, ◌∙◌, arith}
use Rattle.std.specs.Prelude.{is_some}
use Rattle.std.proofs.lemmas.Bool.{and_parts, and_from}
use Rattle.std.proofs.lemmas.List.{append-nil}
use Rattle.vdb_base.specs.Counts.{Rose}
use Rattle.gate_log.specs.Disk.{DiskTold}
use Rattle.gate_log.specs.Records.{log_limit, records}
use Rattle.gate_log.specs.Log.{IsOpenAt}
use Rattle.gate_log.specs.Opening.{Entered, FoundBad}
use Rattle.gate_log.specs.Stops.{Same}
use Rattle.gate_log.proofs.Told.{told_map}
use Rattle.gate_log.proofs.Walks.{end_behind}
use Rattle.resource.specs.Checked.{stored_fault}
use Rattle.resource.specs.Reading.{Reading, CellFault, StoreFault}
use Rattle.resource.specs.Stored.{StoredBranch, tables_in, tables_fault, branch_under, sound_unless}
use Rattle.resource.specs.declared.resource.AttachFault.{AttachFault}
use Rattle.resource.specs.declared.resource.AttachFault.TheVariants.{BadCell, BadStore, Failed, Memory}
use Rattle.resource.specs.declared.stored.StoredTable.{StoredTable}
use Rattle.resource.proofs.ByName.{all_seen}
use Rattle.resource.proofs.Faultless.{are_as_many, worlds, no_faults}
use Rattle.resource.proofs.ReadsAs.{same_faults}
use Rattle.vdb_model.specs.declared.table.TableDef.{TableDef}
use Rattle.vdb_model.specs.Rows.{Cells}
use Rattle.vdb_model.specs.World.{is_world}
use Rattle.store_records.specs.Fields.{◌>>=◌}
use Rattle.store_tables.specs.Shelves.{ShelfHas}
use Rattle.store_replay.specs.Listing.{stored_left, left_by_branch}
use Rattle.store_replay.specs.Replay.{Replayed, nothing, replay, room_behind, can_end, store_in, reading_of, read_bytes}
use Rattle.store_replay.specs.Replaying.{AreApart, ReplayHas, WaitsAs, left_by}
use Rattle.store_replay.specs.Walking.{all_of, TakesAll, Walks}
use Rattle.store_replay.specs.OpeningStore.{OpenedHas, IsOpened, IsReplayed, OpensSo, OpensAs, ReplaysSo, ReplaysAs, NamesFault, Names, KeepsStore, OpenLeaves, LooksOn, has_room, attach_fault}
use Rattle.store_replay.specs.declared.opening.Opened.{Opened}
use Rattle.store_replay.specs.declared.opening.Waiting.{Waiting}
use Rattle.store_replay.specs.declared.replay.Replay.{Replay}
use Rattle.store_replay.specs.declared.walk.WalkFault.{WalkFault}
use Rattle.store_replay.specs.declared.walk.WalkFault.TheVariants as walk

-- ---- the store in some bytes, by their records

abbrev from_records : Option (List (List ℕ)) → Option Replayed
from_records found = found >>= λ payloads. replay payloads nothing >>= λ r. cond (can_end r.branch (room_behind payloads)) (Some r) None

store_is : (bytes : List ℕ) → store_in bytes ≡ from_records (records bytes)
unfolding store_in
store_is bytes = refl

same_store : (a b : List ℕ) → records b ≡ records a → store_in b ≡ store_in a
same_store a b e = store_is b ∙ ap from_records e ∙ sym (store_is a)

no_records : (bytes : List ℕ) → records bytes ≡ None → store_in bytes ≡ None
no_records bytes none = store_is bytes ∙ ap from_records none

pub no_store : (bytes : List ℕ) → all_of bytes ≡ None → store_in bytes ≡ None
no_store bytes none = store_is bytes ∙ by (records bytes) none
  where
    by : (o : Option (List (List ℕ))) → (o >>= λ payloads. replay payloads nothing) ≡ None → from_records o ≡ None
    by None e = refl
    by (Some payloads) e = ap (λ (o : Option Replayed). o >>= λ r. cond (can_end r.branch (room_behind payloads)) (Some r) None) e

-- ---- records that were taken

opened_has : (r : Replayed) (state : Replay) (records : ℕ) → ReplayHas r state → OpenedHas r (record { shelf = state.shelf; waiting = state.waiting; records = records })
opened_has r state records h = record { has = h.has; waits = h.waits }

same_room : (defs : List TableDef) (b : Option StoredBranch) (w : Option Waiting) (left : ℕ) → WaitsAs defs b w → can_end b left ≡ has_room w left
same_room defs None None left h = refl
same_room defs None (Some waiting) left h = absurd h
same_room defs (Some branch) None left h = absurd h
same_room defs (Some branch) (Some waiting) left h = refl

module _ (bytes : List ℕ) (end : ℕ) (images : List ℕ → Type 0) (opened : IsOpenAt end images bytes) (count : ℕ) (state : Replay) (taken : TakesAll ReplayHas count state bytes) where
  -- what is left of the log is the room behind its records
  room : room_behind taken.payloads ≡ log_limit - (end + 1)
  room =
      let place = end_behind bytes end opened.ends taken.payloads [] (taken.are ∙ ap Some (sym (append-nil taken.payloads))) in
      ap (λ k. log_limit - (k + 1)) (omega (arith, place))

  at_end : store_in bytes ≡ cond (has_room state.waiting (log_limit - (end + 1))) (Some taken.r) None
  at_end =
      store_is bytes ∙ ap from_records taken.are
      ∙ ap (λ (o : Option Replayed). o >>= λ r. cond (can_end r.branch (room_behind taken.payloads)) (Some r) None) taken.leaves
      ∙ ap (λ k. cond (can_end taken.r.branch k) (Some taken.r) None) room
      ∙ ap (λ b. cond b (Some taken.r) None) (same_room state.shelf.defs taken.r.branch state.waiting (log_limit - (end + 1)) taken.held.waits)

  pub replays_so : has_room state.waiting (log_limit - (end + 1)) ≡ true → ReplaysSo (record { shelf = state.shelf; waiting = state.waiting; records = count }) bytes
  replays_so can = record {
    payloads = taken.payloads;
    r = taken.r;
    are = taken.are;
    count = taken.count;
    leaves = taken.leaves;
    whole = at_end ∙ ap (λ b. cond b (Some taken.r) None) can;
    has = opened_has taken.r state count taken.held;
  }

  pub without_room : has_room state.waiting (log_limit - (end + 1)) ≡ false → store_in bytes ≡ None
  without_room cannot = at_end ∙ ap (λ b. cond b (Some taken.r) None) cannot

pub replay_refused : (fault : WalkFault) (new : Replay) (bytes : List ℕ) → Walks ReplayHas new (Err fault) bytes → ReplaysAs (Err (attach_fault fault)) bytes
replay_refused walk.Broken new bytes none = (refl, no_store bytes none)
replay_refused walk.Failed new bytes h = tt
replay_refused walk.Memory new bytes h = tt

-- ---- tables in order, or with a fault

tables_as_many : (stored : List StoredTable) (defs : List TableDef) → are_as_many defs (tables_in stored defs) ≡ true
tables_as_many stored [] = refl
tables_as_many stored (d ∷ ds) = tables_as_many stored ds

-- the stored tables that the branch would leave, under the definitions
left_law : (defs : List TableDef) (r : Replayed) → AreApart defs → tables_in (stored_left r) defs ≡ left_by r defs
left_law defs r apart = by r.branch
  where
    by : (b : Option StoredBranch) → tables_in (left_by_branch b r.tables) defs ≡ left_by (record { tables = r.tables; branch = b }) defs
    by None = refl
    by (Some branch) = all_seen branch.deltas r.tables defs apart.numbers apart.names

reads_as : (defs : List TableDef) (bytes : List ℕ) (r : Replayed) → store_in bytes ≡ Some r
    → read_bytes bytes defs ≡ sound_unless (tables_fault defs (tables_in r.tables defs) (left_by r defs)) (tables_in r.tables defs) (option_map (branch_under defs) r.branch)
reads_as defs bytes r whole = ap (λ o. reading_of o defs) whole

-- what a shelf that was looked through says of the tables
abbrev pub Ordered : Bool → Opened → Type 0
Ordered b o = (kept : List (List Cells)) → (seen : List (List Cells)) → ShelfHas kept seen o.shelf → b ≡ (is_world o.shelf.defs kept && is_world o.shelf.defs seen)

order_of : (b : Bool) (defs : List TableDef) (o : Opened) (r : Replayed) → o.shelf.defs ≡ defs → OpenedHas r o → Ordered b o → b ≡ (is_world defs (tables_in r.tables defs) && is_world defs (left_by r defs))
order_of b defs o r is has order =
    order (tables_in r.tables o.shelf.defs) (left_by r o.shelf.defs) has.has
    ∙ ap (λ ds. is_world ds (tables_in r.tables ds) && is_world ds (left_by r ds)) is

pub is_opened : (defs : List TableDef) (left : ℕ) (o : Opened) → IsReplayed defs left o → Ordered true o → IsOpened defs left o
is_opened defs left o h order =
    let parts = and_parts (is_world defs (tables_in h.r.tables defs)) (is_world defs (left_by h.r defs)) (sym (order_of true defs o h.r h.defs_are h.has order)) in
    record { defs_are = h.defs_are; r = h.r; has = h.has; kept_fits = parts.0; left_fits = parts.1; room = h.room }

pub opens_so : (defs : List TableDef) (o : Opened) (bytes : List ℕ) → o.shelf.defs ≡ defs → Ordered true o → ReplaysSo o bytes → OpensSo defs o bytes
opens_so defs o bytes is order h =
    let parts = and_parts (is_world defs (tables_in h.r.tables defs)) (is_world defs (left_by h.r defs)) (sym (order_of true defs o h.r is h.has order)) in
    let none = no_faults defs (tables_in h.r.tables defs) (left_by h.r defs) parts.0 parts.1 in
    record {
      payloads = h.payloads;
      r = h.r;
      are = h.are;
      count = h.count;
      leaves = h.leaves;
      whole = h.whole;
      has = h.has;
      reads = reads_as defs bytes h.r h.whole ∙ ap (λ f. sound_unless f (tables_in h.r.tables defs) (option_map (branch_under defs) h.r.branch)) none;
    }

module _ (defs : List TableDef) (o : Opened) (bytes : List ℕ) (apart : AreApart defs) (is : o.shelf.defs ≡ defs) (order : Ordered false o) (h : ReplaysSo o bytes) where
  abbrev found : Option Reading
  found = stored_fault defs h.r.tables (stored_left h.r)

  found_is : found ≡ tables_fault defs (tables_in h.r.tables defs) (left_by h.r defs)
  found_is = same_faults defs h.r.tables (stored_left h.r) ∙ ap (tables_fault defs (tables_in h.r.tables defs)) (left_law defs h.r apart)

  -- there is a fault
  faulty : found ≢ None
  faulty none =
      let both = worlds defs (tables_in h.r.tables defs) (tables_in (stored_left h.r) defs) (tables_as_many h.r.tables defs) (tables_as_many (stored_left h.r) defs) (sym (same_faults defs h.r.tables (stored_left h.r)) ∙ none) in
      let left : is_world defs (left_by h.r defs) ≡ true = ap (is_world defs) (sym (left_law defs h.r apart)) ∙ both.1 in
      let all : (is_world defs (tables_in h.r.tables defs) && is_world defs (left_by h.r defs)) ≡ true = and_from (is_world defs (tables_in h.r.tables defs)) (is_world defs (left_by h.r defs)) both.0 left in
      let no : false ≡ true = order_of false defs o h.r is h.has order ∙ all in
      cc

  reads_fault : (reading : Reading) → found ≡ Some reading → read_bytes bytes defs ≡ reading
  reads_fault reading e =
      reads_as defs bytes h.r h.whole
      ∙ ap (λ f. sound_unless f (tables_in h.r.tables defs) (option_map (branch_under defs) h.r.branch)) (sym found_is ∙ e)

  all_is : all_of bytes ≡ Some h.r
  all_is = ap (λ (o : Option (List (List ℕ))). o >>= λ payloads. replay payloads nothing) h.are ∙ h.leaves

  pub opens_fault : (fault : AttachFault) → NamesFault defs fault bytes → OpensAs defs (Err fault) bytes
  opens_fault fault names = by fault (names h.r all_is faulty)
    where
      by : (f : AttachFault) → Names found f → OpensAs defs (Err f) bytes
      by (BadCell t r c) e = reads_fault (CellFault t r c) e
      by (BadStore t) e = reads_fault (StoreFault t) e
      by Failed e = tt
      by Memory e = tt

-- ---- from the bytes that were opened to those of before

opens_by : (defs : List TableDef) (result : Result Opened AttachFault) (a b : List ℕ) → records b ≡ records a → OpensAs defs result b → OpensAs defs result a
opens_by defs (Ok o) a b e h =
    let same = same_store a b e in
    record {
      payloads = h.payloads;
      r = h.r;
      are = sym e ∙ h.are;
      count = h.count;
      leaves = h.leaves;
      whole = sym same ∙ h.whole;
      has = h.has;
      reads = ap (λ s. reading_of s defs) (sym same) ∙ h.reads;
    }
opens_by defs (Err (BadCell t r c)) a b e h = ap (λ s. reading_of s defs) (sym (same_store a b e)) ∙ h
opens_by defs (Err (BadStore t)) a b e h = ap (λ s. reading_of s defs) (sym (same_store a b e)) ∙ h
opens_by defs (Err Failed) a b e h = tt
opens_by defs (Err Memory) a b e h = tt

-- a fact of some bytes, and one of others with the same records
across : (o n : Option (List ℕ)) (P : List ℕ → Type 0) → option_map records n ≡ option_map records o → ((a b : List ℕ) → records b ≡ records a → P b → P a) → IfSome n P → IfSome o P
across None n P e f h = tt
across (Some a) None P e f h = cc
across (Some a) (Some b) P e f h = f a b (same_some (records b) (records a) e) h
  where
    same_some : (x y : Option (List (List ℕ))) → Some x ≡ Some y → x ≡ y
    same_some x y e = cc

tells_as : (o n : Option (List ℕ)) → option_map records n ≡ option_map records o → is_some n ≡ is_some o
tells_as None None e = refl
tells_as None (Some b) e = cc
tells_as (Some a) None e = cc
tells_as (Some a) (Some b) e = refl

module _ (end : ℕ) (old mid : DiskTold) (before between : List ℕ → Type 0) (entered : Entered end old mid before between) where
  pub opens_before : (defs : List TableDef) (result : Result Opened AttachFault) → IfSome mid.bytes (OpensAs defs result) → IfSome old.bytes (OpensAs defs result)
  opens_before defs result h = across old.bytes mid.bytes (OpensAs defs result) entered.same (λ a b e k. opens_by defs result a b e k) h

  module _ (new : DiskTold) (now : List ℕ → Type 0) (same : Same between now) where
    stands : new.bytes ≡ mid.bytes → IfSome new.bytes now
    stands e = subst (λ (b : Option (List ℕ)). IfSome b now) (sym e) (told_map mid.bytes (IsOpenAt end between) now (λ bytes o. same.keeps bytes o.only.is) entered.is_open)

    kept : new ≡ mid → KeepsStore old new now
    kept e = record {
      faults = ap (λ (t : DiskTold). t.faults) e ∙ entered.faults;
      same = ap (λ (t : DiskTold). option_map records t.bytes) e ∙ entered.same;
      stands = stands (ap (λ (t : DiskTold). t.bytes) e);
    }

    pub leaves_entered : {T : Type 0} (result : Result T AttachFault) → LooksOn mid new result → OpenLeaves old new now result
    leaves_entered (Ok done) h = kept h
    leaves_entered (Err (BadCell t r c)) h = kept h
    leaves_entered (Err (BadStore t)) h = kept h
    leaves_entered (Err Memory) h = kept h
    leaves_entered (Err Failed) h = record {
      rose = subst (λ n. Rose n new.faults) entered.faults h.1;
      tells = tells_as old.bytes new.bytes (ap (option_map records) h.0 ∙ entered.same);
      reads = stands h.0;
    }

-- bytes that break the format
pub opens_bad : (defs : List TableDef) (old new : DiskTold) (now : List ℕ → Type 0) → FoundBad old new now → IfSome old.bytes (OpensAs defs (Err (BadStore 0)))
opens_bad defs old new now bad = told_map old.bytes (λ bytes. records bytes ≡ None) (OpensAs defs (Err (BadStore 0))) (λ bytes none. ap (λ s. reading_of s defs) (no_records bytes none)) bad.broken
