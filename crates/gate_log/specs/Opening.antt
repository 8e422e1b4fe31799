-- Opening a log over a disk that a stop may have left.
use Rattle.std.specs.Prelude.{◌≡◌, ℕ, List, Option, Some, None, option_map, IfSome, Result, Ok, Err}
use Rattle.vdb_base.specs.declared.calls.Failed.{Failed}
use Rattle.gate_log.specs.Disk.{DiskTold, Fails}
use Rattle.gate_log.specs.Records.{records}
use Rattle.gate_log.specs.Log.{IsOpenAt}
use Rattle.gate_log.specs.declared.log.Log.{Log}
use Rattle.gate_log.specs.declared.log.OpenRefused.{OpenRefused}
use Rattle.gate_log.specs.declared.opening.OpenCause.{OpenCause}
use Rattle.gate_log.specs.declared.opening.OpenCause.TheVariants as cause

-- each content that a stop may leave has the records of one of before
abbrev pub KeepsRecords : (List ℕ → Type 0) → (List ℕ → Type 0) → Type 0
KeepsRecords before now = (c : List ℕ) → now c → (d : List ℕ) × before d × (records c ≡ records d)

-- The log is open with its last gate at this place. It has the records of the bytes that were read, which a stop could
-- have left.
pub record Entered (end : ℕ) (old new : DiskTold) (before now : List ℕ → Type 0) : Type 0 where
  pub faults : new.faults ≡ old.faults
  pub stood : IfSome old.bytes before
  pub same : option_map records new.bytes ≡ option_map records old.bytes
  pub is_open : IfSome new.bytes (IsOpenAt end now)

-- the bytes, which a stop may leave, break the format, and nothing was changed
pub record FoundBad (old new : DiskTold) (now : List ℕ → Type 0) : Type 0 where
  pub broken : IfSome old.bytes (λ bytes. records bytes ≡ None)
  pub same : new ≡ old
  pub stands : IfSome new.bytes now

-- what an opening answers, and what it leaves
abbrev pub Enters : DiskTold → DiskTold → (List ℕ → Type 0) → (List ℕ → Type 0) → Result ℕ OpenCause → Type 0
Enters old new before now (Ok end) = Entered end old new before now
Enters old new before now (Err cause.Bad) = FoundBad old new now
Enters old new before now (Err cause.Failed) = Fails old new now

-- the place of the last gate, none where the bytes break the format, as an opening answers it
abbrev pub entry_of : Result (Option ℕ) Failed → Result ℕ OpenCause
entry_of (Ok (Some end)) = Ok end
entry_of (Ok None) = Err cause.Bad
entry_of (Err failed) = Err cause.Failed

-- where the disk tells its bytes: whatever is answered, a stop leaves records of before
abbrev pub Keeps : DiskTold → (List ℕ → Type 0) → (List ℕ → Type 0) → Type 0
Keeps old before now = IfSome old.bytes (λ bytes. KeepsRecords before now)

-- the disk, wherever it was handed on to
abbrev pub disk_of : {D : Type 0} → Result (Log D) (OpenRefused D) → D
disk_of (Ok log) = log.disk
disk_of (Err refused) = refused.disk

-- the place of the last gate, or what stands against it
abbrev pub end_of : {D : Type 0} → Result (Log D) (OpenRefused D) → Result ℕ OpenCause
end_of (Ok log) = Ok log.end
end_of (Err refused) = Err refused.cause

-- the same of a log that was opened again
abbrev pub end_again : {D : Type 0} → Log D → Result (Unit {0}) OpenCause → Result ℕ OpenCause
end_again log (Ok _) = Ok log.end
end_again log (Err refused) = Err refused
