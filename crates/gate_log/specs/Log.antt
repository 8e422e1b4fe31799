-- A log that is ready for its calls.
use Rattle.std.specs.Prelude.{◌≡◌, ◌≢◌, ℕ, ◌+◌, ◌-◌, ◌<◌, ◌≤◌, List, ◌++◌, length, get_or, take, Some, IfSome}
use Rattle.gate_log.specs.Disk.{DiskTold}
use Rattle.gate_log.specs.Stops.{Only}
use Rattle.gate_log.specs.Records.{header, log_limit, opened, records}
use Rattle.gate_log.specs.declared.log.Log.{Log}

-- The bytes are a log's: the header, its records, and at this place the last gate, which is closed. What follows is ignored.
pub record EndsAt (end : ℕ) (bytes : List ℕ) : Type 0 where
  pub payloads : List (List ℕ)
  pub are : records bytes ≡ Some payloads
  pub front : take end bytes ≡ header ++ opened payloads
  pub within : end < length bytes
  pub closed : get_or bytes end 1 ≢ 1
  pub no_longer : length bytes ≤ log_limit

-- these bytes are a log's with its last gate at this place, and a stop leaves them and nothing else
pub record IsOpenAt (end : ℕ) (images : List ℕ → Type 0) (bytes : List ℕ) : Type 0 where
  pub ends : EndsAt end bytes
  pub only : Only bytes images

-- where the disk tells its bytes, the log knows the place of their last gate, and a stop leaves them and nothing else
abbrev pub IsOpen : {D : Type 0} → (D → DiskTold) → (D → List ℕ → Type 0) → Log D → Type 0
IsOpen told images log = IfSome (told log.disk).bytes (IsOpenAt log.end (images log.disk))

-- the limit, less the bytes up to and with the last gate
abbrev pub left_of : {D : Type 0} → Log D → ℕ
left_of log = log_limit - (log.end + 1)
