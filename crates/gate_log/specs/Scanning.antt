-- What is found on the way to the last gate.
use Rattle.std.specs.Prelude.{◌≡◌, ◌≢◌, ℕ, ◌<◌, List, ◌∷◌, ◌++◌, get_or, take, Option, Some, None, IfSome}
use Rattle.gate_log.specs.Disk.{DiskTold}
use Rattle.gate_log.specs.Records.{header, body, opened, records, records_from}
use Rattle.gate_log.specs.Log.{EndsAt}
use Rattle.gate_log.specs.declared.opening.Gate.{Gate}
use Rattle.gate_log.specs.declared.opening.Gate.TheVariants as gate

-- the bytes are those of a gate and the records before it
pub record Walked (at : ℕ) (bytes : List ℕ) : Type 0 where
  pub payloads : List (List ℕ)
  pub front : take at bytes ≡ header ++ opened payloads

-- at this place stands an open gate, and then the body of one record up to the next gate
pub record OpenAt (at next : ℕ) (bytes : List ℕ) : Type 0 where
  pub payload : List ℕ
  pub is : take next bytes ≡ take at bytes ++ 1 ∷ body payload

-- what the gate at a place is
abbrev pub GateIs : ℕ → ℕ → DiskTold → Gate → Type 0
GateIs at len told gate.Closed = IfSome told.bytes (λ bytes. get_or bytes at 1 ≢ 1)
GateIs at len told (gate.Open next) = (at < next) × (next < len) × IfSome told.bytes (OpenAt at next)
GateIs at len told gate.Broken = IfSome told.bytes (λ bytes. records_from at bytes ≡ None)

-- the place of the last gate was found, or the bytes break the format
abbrev pub EndIs : Option ℕ → List ℕ → Type 0
EndIs (Some end) bytes = EndsAt end bytes
EndIs None bytes = records bytes ≡ None
