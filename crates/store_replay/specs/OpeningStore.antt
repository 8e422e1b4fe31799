-- Opening the log of a store under definitions.
use Rattle.std.specs.Prelude.{◌≡◌, ◌≢◌, ℕ, ◌≤◌, nat_le, Bool, true, List, Option, Some, None, is_some, length, IfSome, Result, Ok, Err, ⊤}
use Rattle.std.specs.Option.{option_map}
use Rattle.vdb_base.specs.Counts.{Rose}
use Rattle.vdb_model.specs.declared.table.TableDef.{TableDef}
use Rattle.vdb_model.specs.World.{is_world}
use Rattle.gate_log.specs.Disk.{DiskTold, Fails}
use Rattle.gate_log.specs.Records.{records}
use Rattle.resource.specs.Checked.{stored_fault}
use Rattle.resource.specs.Reading.{Reading, Sound, CellFault, StoreFault}
use Rattle.resource.specs.Stored.{tables_in, branch_under}
use Rattle.resource.specs.declared.resource.AttachFault.{AttachFault}
use Rattle.resource.specs.declared.resource.AttachFault.TheVariants.{BadCell, BadStore, Failed, Memory}
use Rattle.store_records.specs.Framing.{ending_size}
use Rattle.store_tables.specs.Shelves.{ShelfHas}
use Rattle.store_replay.specs.Listing.{stored_left}
use Rattle.store_replay.specs.Walking.{all_of}
use Rattle.store_replay.specs.declared.walk.WalkFault.{WalkFault}
use Rattle.store_replay.specs.declared.walk.WalkFault.TheVariants as walk
use Rattle.store_replay.specs.Replay.{Replayed, nothing, replay, store_in, read_bytes}
use Rattle.store_replay.specs.Replaying.{left_by, WaitsAs}
use Rattle.store_replay.specs.declared.opening.Opened.{Opened}
use Rattle.store_replay.specs.declared.opening.Waiting.{Waiting}

-- the store that was opened holds these tables and this branch
pub record OpenedHas (r : Replayed) (o : Opened) : Type 0 where
  pub has : ShelfHas (tables_in r.tables o.shelf.defs) (left_by r o.shelf.defs) o.shelf
  pub waits : WaitsAs o.shelf.defs r.branch o.waiting

-- some records leave what was opened, which is in order under the definitions, and a prepared branch has room for its ending: of every disk
pub record IsOpened (defs : List TableDef) (left : ℕ) (o : Opened) : Type 0 where
  pub defs_are : o.shelf.defs ≡ defs
  pub r : Replayed
  pub has : OpenedHas r o
  pub kept_fits : is_world defs (tables_in r.tables defs) ≡ true
  pub left_fits : is_world defs (left_by r defs) ≡ true
  pub room : is_some o.waiting ≡ true → 22 ≤ left

-- the same of the disk's bytes
pub record OpensSo (defs : List TableDef) (o : Opened) (bytes : List ℕ) : Type 0 where
  pub payloads : List (List ℕ)
  pub r : Replayed
  pub are : records bytes ≡ Some payloads
  pub count : length payloads ≡ o.records
  pub leaves : replay payloads nothing ≡ Some r
  pub whole : store_in bytes ≡ Some r
  pub has : OpenedHas r o
  pub reads : read_bytes bytes defs ≡ Sound (tables_in r.tables defs) (option_map (branch_under defs) r.branch)

-- what is answered, by the bytes of before
abbrev pub OpensAs : List TableDef → Result Opened AttachFault → List ℕ → Type 0
OpensAs defs (Ok o) bytes = OpensSo defs o bytes
OpensAs defs (Err (BadCell t r c)) bytes = read_bytes bytes defs ≡ CellFault t r c
OpensAs defs (Err (BadStore t)) bytes = read_bytes bytes defs ≡ StoreFault t
OpensAs defs (Err Failed) bytes = ⊤
OpensAs defs (Err Memory) bytes = ⊤

-- the disk has the records of before, its count stands, and what is read is one of the contents that a stop may leave
pub record KeepsStore (old new : DiskTold) (now : List ℕ → Type 0) : Type 0 where
  pub faults : new.faults ≡ old.faults
  pub same : option_map records new.bytes ≡ option_map records old.bytes
  pub stands : IfSome new.bytes now

-- what is left of the disk
abbrev pub OpenLeaves : {T : Type 0} → DiskTold → DiskTold → (List ℕ → Type 0) → Result T AttachFault → Type 0
OpenLeaves old new now (Ok done) = KeepsStore old new now
OpenLeaves old new now (Err (BadCell t r c)) = KeepsStore old new now
OpenLeaves old new now (Err (BadStore t)) = KeepsStore old new now
OpenLeaves old new now (Err Memory) = KeepsStore old new now
OpenLeaves old new now (Err Failed) = Fails old new now

-- the same before the tables are seen to be in order: of every disk, and of the disk's bytes
pub record IsReplayed (defs : List TableDef) (left : ℕ) (o : Opened) : Type 0 where
  pub defs_are : o.shelf.defs ≡ defs
  pub r : Replayed
  pub has : OpenedHas r o
  pub room : is_some o.waiting ≡ true → 22 ≤ left

pub record ReplaysSo (o : Opened) (bytes : List ℕ) : Type 0 where
  pub payloads : List (List ℕ)
  pub r : Replayed
  pub are : records bytes ≡ Some payloads
  pub count : length payloads ≡ o.records
  pub leaves : replay payloads nothing ≡ Some r
  pub whole : store_in bytes ≡ Some r
  pub has : OpenedHas r o

abbrev pub ReplaysAs : Result Opened AttachFault → List ℕ → Type 0
ReplaysAs (Ok o) bytes = ReplaysSo o bytes
ReplaysAs (Err (BadCell t r c)) bytes = ⊥
ReplaysAs (Err (BadStore t)) bytes = (t ≡ 0) × (store_in bytes ≡ None)
ReplaysAs (Err Failed) bytes = ⊤
ReplaysAs (Err Memory) bytes = ⊤

-- questions of an open log change nothing, but where they failed the count rose
abbrev pub Looks : DiskTold → DiskTold → AttachFault → Type 0
Looks old new (BadCell t r c) = new ≡ old
Looks old new (BadStore t) = new ≡ old
Looks old new Memory = new ≡ old
Looks old new Failed = (new.bytes ≡ old.bytes) × Rose old.faults new.faults

abbrev pub LooksOn : {T : Type 0} → DiskTold → DiskTold → Result T AttachFault → Type 0
LooksOn old new (Ok done) = new ≡ old
LooksOn old new (Err fault) = Looks old new fault

-- a fault is named as it is, unless the disk failed or memory was wanting
abbrev pub Names : Option Reading → AttachFault → Type 0
Names found (BadCell t r c) = found ≡ Some (CellFault t r c)
Names found (BadStore t) = found ≡ Some (StoreFault t)
Names found Failed = ⊤
Names found Memory = ⊤

-- where the tables of these bytes have a fault, that is the one
abbrev pub NamesFault : List TableDef → AttachFault → List ℕ → Type 0
NamesFault defs fault bytes = (r : Replayed) → all_of bytes ≡ Some r → stored_fault defs r.tables (stored_left r) ≢ None → Names (stored_fault defs r.tables (stored_left r)) fault

-- what an attach answers where the log isn't read
abbrev pub attach_fault : WalkFault → AttachFault
attach_fault walk.Broken = BadStore 0
attach_fault walk.Failed = Failed
attach_fault walk.Memory = Memory

-- the ending of a prepared branch has room, where there is one
abbrev pub has_room : Option Waiting → ℕ → Bool
has_room None left = true
has_room (Some waiting) left = nat_le ending_size left
