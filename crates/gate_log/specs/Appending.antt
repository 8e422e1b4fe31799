-- Appending a record.
use Rattle.std.specs.Prelude.{◌≡◌, ℕ, ◌-◌, ◌<◌, ◌≤◌, ◌⊎◌, List, [], ◌∷◌, ◌++◌, length, take, drop, Option, option_map, Result, Ok, Err}
use Rattle.vdb_base.specs.declared.calls.Failed.{Failed}
use Rattle.gate_log.specs.Disk.{DiskTold, Fails}
use Rattle.gate_log.specs.Stops.{Same}
use Rattle.gate_log.specs.Records.{body, records}
use Rattle.gate_log.specs.declared.append.AppendFault.{AppendFault}
use Rattle.gate_log.specs.declared.append.AppendFault.TheVariants as fault

-- a record's body, and a closed gate behind it
abbrev pub framed : List ℕ → List ℕ
framed payload = body payload ++ 0 ∷ []

-- the payload of a frame
abbrev pub payload_of : List ℕ → List ℕ
payload_of frame = take (length frame - 5) (drop 4 frame)

-- what is appended in one write: the frame of some payload
abbrev pub IsFrame : List ℕ → Type 0
IsFrame frame = frame ≡ framed (payload_of frame)

-- the records of some bytes, and one more
abbrev pub with_record : List ℕ → List ℕ → Option (List (List ℕ))
with_record payload bytes = option_map (λ payloads. payloads ++ payload ∷ []) (records bytes)

-- which answer comes: full exactly where the frame is longer than what is left
abbrev pub Fits : ℕ → ℕ → Result (Unit {0}) AppendFault → Type 0
Fits left size (Ok _) = size ≤ left
Fits left size (Err fault.Full) = left < size
Fits left size (Err fault.Failed) = size ≤ left

-- what is left after that answer
abbrev pub left_after : ℕ → ℕ → Result (Unit {0}) AppendFault → ℕ
left_after left size (Ok _) = left - size
left_after left size (Err _) = left

-- the record was added
pub record Appended (payload : List ℕ) (old new : DiskTold) : Type 0 where
  pub faults : new.faults ≡ old.faults
  pub more : option_map records new.bytes ≡ option_map (with_record payload) old.bytes

-- nothing was changed
pub record Untouched (old new : DiskTold) (before now : List ℕ → Type 0) : Type 0 where
  pub told : new ≡ old
  pub stops : Same before now

-- what the writes of an append leave
abbrev pub Adds : List ℕ → DiskTold → DiskTold → (List ℕ → Type 0) → Result (Unit {0}) Failed → Type 0
Adds payload old new now (Ok _) = Appended payload old new
Adds payload old new now (Err _) = Fails old new now

-- what an append leaves
abbrev pub Appends : List ℕ → DiskTold → DiskTold → (List ℕ → Type 0) → (List ℕ → Type 0) → Result (Unit {0}) AppendFault → Type 0
Appends payload old new before now (Ok _) = Appended payload old new
Appends payload old new before now (Err fault.Full) = Untouched old new before now
Appends payload old new before now (Err fault.Failed) = Fails old new now

-- each content that a stop may leave has the records of these bytes and the new one
abbrev pub HasRecord : List ℕ → (List ℕ → Type 0) → List ℕ → Type 0
HasRecord payload now bytes = (c : List ℕ) → now c → records c ≡ with_record payload bytes

-- each content that a stop may leave has the records of these bytes, or those and the new one
abbrev pub MayHaveRecord : List ℕ → (List ℕ → Type 0) → List ℕ → Type 0
MayHaveRecord payload now bytes = (c : List ℕ) → now c → (records c ≡ records bytes) ⊎ (records c ≡ with_record payload bytes)
