-- What an append of a record leaves that has room.
use Rattle.std.specs.Prelude.{◌≡◌, ℕ, ◌-◌, List, IfSome, Result, Ok, Err}
use Rattle.vdb_base.specs.declared.calls.Failed.{Failed}
use Rattle.gate_log.specs.Disk.{DiskTold, Fails}
use Rattle.gate_log.specs.Log.{IsOpen, left_of}
use Rattle.gate_log.specs.declared.log.Log.{Log}
use Rattle.gate_log.specs.Appending.{Appended, HasRecord, MayHaveRecord}

-- the log has the record, which no stop takes away, and is open
pub record HasAppended {D : Type 0} (told : D → DiskTold) (images : D → List ℕ → Type 0) (payload : List ℕ) (size : ℕ) (old new : Log D) : Type 0 where
  pub adds : Appended payload (told old.disk) (told new.disk)
  pub stops : IfSome (told old.disk).bytes (HasRecord payload (images new.disk))
  pub is_open : IsOpen told images new
  pub left : left_of new ≡ left_of old - size

-- the disk failed, and a stop leaves the records of before, with the new one or without it
pub record HasFailed {D : Type 0} (told : D → DiskTold) (images : D → List ℕ → Type 0) (payload : List ℕ) (old new : Log D) : Type 0 where
  pub fails : Fails (told old.disk) (told new.disk) (images new.disk)
  pub stops : IfSome (told old.disk).bytes (MayHaveRecord payload (images new.disk))
  pub left : left_of new ≡ left_of old

-- what an append of a record leaves that has room
abbrev pub Appending : {D : Type 0} → (D → DiskTold) → (D → List ℕ → Type 0) → List ℕ → ℕ → Log D → Log D → Result (Unit {0}) Failed → Type 0
Appending told images payload size old new (Ok done) = HasAppended told images payload size old new
Appending told images payload size old new (Err failed) = HasFailed told images payload old new
