-- A disk in memory: what it tells, what a stop leaves of it, and which calls fail.
use Rattle.std.specs.Prelude.{◌≡◌, ℕ, true, List, Some, Result, is_err, OnErr}
use Rattle.vdb_base.specs.declared.calls.Failed.{Failed}
use Rattle.vdb_base.specs.declared.calls.Calls.{Calls}
use Rattle.vdb_base.specs.Calls.{is_listed, after_call}
use Rattle.gate_log.specs.declared.mem_disk.MemDisk.{MemDisk}
use Rattle.gate_log.specs.Disk.{DiskTold}

abbrev pub bytes_of : MemDisk → List ℕ
bytes_of disk = disk.bytes.items

abbrev pub calls_of : MemDisk → Calls
calls_of disk = disk.calls

abbrev pub mem_told : MemDisk → DiskTold
mem_told disk = record { bytes = Some (bytes_of disk); faults = disk.calls.faults }

-- each call is done at once, so a stop leaves what is there
abbrev pub mem_images : MemDisk → List ℕ → Type 0
mem_images disk c = c ≡ bytes_of disk

-- A call fails exactly where it is listed, and changes nothing then.
pub record GoesByList {T : Type 0} (old new : MemDisk) (result : Result T Failed) : Type 0 where
  pub fails : is_err result ≡ is_listed (calls_of old)
  pub nothing : OnErr result (bytes_of new ≡ bytes_of old)
  pub calls : calls_of new ≡ after_call (calls_of old) (is_err result)

-- A listed write fails. One that isn't listed fails only where its growth is refused. A failed write changes nothing.
pub record WritesByList (old new : MemDisk) (result : Result (Unit {0}) Failed) : Type 0 where
  pub fails : is_listed (calls_of old) ≡ true → is_err result ≡ true
  pub nothing : OnErr result (bytes_of new ≡ bytes_of old)
  pub calls : calls_of new ≡ after_call (calls_of old) (is_err result)
