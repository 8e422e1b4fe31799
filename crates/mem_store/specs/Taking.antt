-- Steps of a journaled store that leave the log as it is.
use Rattle.std.specs.Prelude.{◌≡◌, ℕ, false, List, [], Option, Some, None, ◌⊎◌}
use Rattle.vdb_model.specs.declared.source.Xid.{Xid}
use Rattle.gate_log.specs.Disk.{DiskTold}
use Rattle.resource.specs.declared.resource.ResState.{ResState}
use Rattle.resource.specs.declared.resource.ResState.TheVariants as state
use Rattle.mem_store.specs.declared.attached.Attached.{Attached}
use Rattle.mem_store.specs.declared.inner.Inner.{Inner}
use Rattle.store_replay.specs.declared.opening.Opened.{Opened}
use Rattle.store_replay.specs.declared.opening.Waiting.{Waiting}
use Rattle.mem_store.specs.Attaching.{IsWritten}
use Rattle.mem_store.specs.Standing.{Standing}
use Rattle.mem_store.specs.Store.{seen_of}

-- a branch that isn't prepared is gone
pub record IsDropped {D : Type 0} (told : D → DiskTold) (images : D → List ℕ → Type 0) (old new : Inner D) : Type 0 where
  pub seen : seen_of new ≡ record (seen_of old) { state = state.Idle; reserved = false; deltas = [] }
  pub stands : (old.state ≡ state.Idle) ⊎ ((x : Xid) × ((old.state ≡ state.Active x) ⊎ (old.state ≡ state.Ended x))) → Standing told images new

-- the state and the changes of a branch that waits
abbrev pub TakesBranch : Option Waiting → ResState → Attached → Type 0
TakesBranch None s a = (s ≡ state.Idle) × (a.deltas.items ≡ []) × IsWritten a
TakesBranch (Some waiting) s a = (s ≡ state.Prepared waiting.xid) × (a.deltas.items ≡ waiting.deltas.items)

-- what was opened is attached
pub record Takes {D : Type 0} (o : Opened) (old new : Inner D) : Type 0 where
  pub attached : Attached
  pub is : new ≡ record old { records = o.records; attached = Some attached; state = new.state }
  pub shelf : attached.shelf ≡ o.shelf
  pub branch : TakesBranch o.waiting new.state attached
