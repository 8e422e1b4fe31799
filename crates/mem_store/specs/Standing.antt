-- What holds of a journaled store between its calls.
use Rattle.std.specs.Prelude.{◌≡◌, ℕ, ◌<◌, ◌≤◌, Bool, true, List, [], ◌∷◌, ◌++◌, length, Option, Some, None, option_map, IfSome, ⊤}
use Rattle.std.specs.List.{list_all}
use Rattle.vdb_model.specs.declared.source.Delta.{Delta}
use Rattle.vdb_model.specs.declared.source.Xid.{Xid}
use Rattle.vdb_model.specs.declared.table.TableDef.{TableDef}
use Rattle.vdb_model.specs.Defs.{is_defined}
use Rattle.vdb_model.specs.Deltas.{after_deltas}
use Rattle.vdb_model.specs.Rows.{Cells}
use Rattle.vdb_model.specs.World.{is_world}
use Rattle.gate_log.specs.Disk.{DiskTold}
use Rattle.gate_log.specs.Log.{IsOpenAt, left_of}
use Rattle.gate_log.specs.Records.{records}
use Rattle.resource.specs.declared.resource.ResState.{ResState}
use Rattle.resource.specs.declared.resource.ResState.TheVariants as state
use Rattle.resource.specs.declared.stored.StoredDelta.{StoredDelta}
use Rattle.resource.specs.Reading.{Branch, Sound}
use Rattle.resource.specs.Stored.{StoredBranch, tables_in, numbered}
use Rattle.store_records.specs.declared.entry.Entry.TheVariants.{OnePhase}
use Rattle.store_records.specs.Framing.{Frames}
use Rattle.mem_store.specs.declared.attached.Attached.{Attached}
use Rattle.mem_store.specs.declared.inner.Inner.{Inner}
use Rattle.mem_store.specs.Attaching.{AttachedHas, IsWritten}
use Rattle.mem_store.specs.Changes.{stored_as, store_needs}
use Rattle.store_replay.specs.Replay.{Replayed, nothing, replay, read_bytes}
use Rattle.store_replay.specs.Replaying.{AreApart}

-- the definitions without their keys
abbrev pub keyless : List TableDef → List TableDef
keyless [] = []
keyless (d ∷ ds) = record d { key = None } ∷ keyless ds

-- each table's rows go into its columns
abbrev pub all_take : List TableDef → List (List Cells) → Bool
all_take defs tables = is_world (keyless defs) tables

-- a branch that takes changes: they stand as they are written, the log has room for them, and their tables are defined
pub record IsBranch (left : ℕ) (a : Attached) : Type 0 where
  pub written : IsWritten a
  pub room : 0 < length a.deltas.items → store_needs a.shelf.defs a.deltas.items ≤ left
  pub defined : list_all (λ delta. is_defined a.shelf.defs delta.table) a.deltas.items ≡ true

-- the frame of the branch's commit in one phase, which has room
pub record IsReserved (left : ℕ) (x : Xid) (a : Attached) (frame : List ℕ) : Type 0 where
  pub frames : Frames (OnePhase x (stored_as a.shelf.defs a.deltas.items)) frame
  pub fits : 0 < length a.deltas.items → length frame ≤ left

-- what holds of the branch in each state: of every disk
abbrev pub BranchIn : ResState → ℕ → Option (List ℕ) → Attached → Type 0
BranchIn state.Idle left reserved a = (reserved ≡ None) × (a.deltas.items ≡ []) × IsWritten a
BranchIn (state.Active x) left reserved a = (reserved ≡ None) × IsBranch left a
BranchIn (state.Ended x) left reserved a = IfSome reserved (IsReserved left x a) × IsBranch left a
BranchIn (state.Prepared x) left reserved a = (reserved ≡ None) × (22 ≤ left)
BranchIn state.Lost left reserved a = reserved ≡ None

-- the stored branch of the transaction is that of these deltas
pub record IsStoredAs (x : Xid) (defs : List TableDef) (deltas : List Delta) (branch : Option StoredBranch) : Type 0 where
  pub stored : List StoredDelta
  pub is : branch ≡ Some (record { xid = x; deltas = stored })
  pub deltas_are : deltas ≡ numbered defs stored

-- the branch that the log leaves, in each state
abbrev pub LogBranch : ResState → List TableDef → List Delta → Option StoredBranch → Type 0
LogBranch state.Idle defs deltas branch = branch ≡ None
LogBranch (state.Active x) defs deltas branch = branch ≡ None
LogBranch (state.Ended x) defs deltas branch = branch ≡ None
LogBranch (state.Prepared x) defs deltas branch = IsStoredAs x defs deltas branch
LogBranch state.Lost defs deltas branch = ⊤

-- the known records are all that the bytes have, and leave what is kept and the branch
pub record Knows (s : ResState) (n end : ℕ) (defs : List TableDef) (kept : List (List Cells)) (deltas : List Delta) (now : List ℕ → Type 0) (bytes : List ℕ) : Type 0 where
  pub payloads : List (List ℕ)
  pub r : Replayed
  pub are : records bytes ≡ Some payloads
  pub count : length payloads ≡ n
  pub leaves : replay payloads nothing ≡ Some r
  pub kept_is : kept ≡ tables_in r.tables defs
  pub branch : LogBranch s defs deltas r.branch
  pub kept_fits : is_world defs kept ≡ true
  pub seen_fits : is_world defs (after_deltas defs kept deltas) ≡ true
  pub is_open : IsOpenAt end now bytes

-- the content has these records, or more, and reads as a store
pub record MayRead (defs : List TableDef) (payloads : List (List ℕ)) (bytes : List ℕ) : Type 0 where
  pub more : List (List ℕ)
  pub are : records bytes ≡ Some (payloads ++ more)
  pub kept : List (List Cells)
  pub branch : Option Branch
  pub reads : read_bytes bytes defs ≡ Sound kept branch

-- of a lost store: each content that a stop may leave, of which the read one is one, has the known records, or more
pub record Lost (n : ℕ) (defs : List TableDef) (now : List ℕ → Type 0) (bytes : List ℕ) : Type 0 where
  pub payloads : List (List ℕ)
  pub count : length payloads ≡ n
  pub each : (c : List ℕ) → now c → MayRead defs payloads c
  pub stands : now bytes

-- of a store that isn't lost
pub record Works (s : ResState) (n end left : ℕ) (reserved : Option (List ℕ)) (a : Attached) (t : DiskTold) (now : List ℕ → Type 0) : Type 0 where
  pub kept : List (List Cells)
  pub has : AttachedHas kept a
  pub kept_take : all_take a.shelf.defs kept ≡ true
  pub seen_take : all_take a.shelf.defs (after_deltas a.shelf.defs kept a.deltas.items) ≡ true
  pub branch : BranchIn s left reserved a
  pub knows : IfSome t.bytes (Knows s n end a.shelf.defs kept a.deltas.items now)

abbrev pub Stays : ResState → ℕ → ℕ → ℕ → Option (List ℕ) → Attached → DiskTold → (List ℕ → Type 0) → Type 0
Stays state.Idle n end left reserved a t now = Works state.Idle n end left reserved a t now
Stays (state.Active x) n end left reserved a t now = Works (state.Active x) n end left reserved a t now
Stays (state.Ended x) n end left reserved a t now = Works (state.Ended x) n end left reserved a t now
Stays (state.Prepared x) n end left reserved a t now = Works (state.Prepared x) n end left reserved a t now
Stays state.Lost n end left reserved a t now = IfSome t.bytes (Lost n a.shelf.defs now)

-- what holds of attached tables
pub record IsAttached (s : ResState) (n end left : ℕ) (reserved : Option (List ℕ)) (t : DiskTold) (now : List ℕ → Type 0) (a : Attached) : Type 0 where
  pub apart : AreApart a.shelf.defs
  pub stays : Stays s n end left reserved a t now

pub record Standing {D : Type 0} (told : D → DiskTold) (images : D → List ℕ → Type 0) (s : Inner D) : Type 0 where
  pub own : IfSome (told s.log.disk).bytes (λ bytes. s.own_faults ≡ 0)
  pub attached : IfSome s.attached (IsAttached s.state s.records s.log.end (left_of s.log) (option_map (λ frame. frame.items) s.reserved) (told s.log.disk) (images s.log.disk))
