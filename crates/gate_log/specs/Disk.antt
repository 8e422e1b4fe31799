-- What a disk tells, and what a call leaves of it.
use Rattle.std.specs.Prelude.{◌≡◌, ℕ, ◌+◌, ◌≤◌, List, ◌++◌, length, take, drop, Option, is_some, option_map, IfSome, Result, Ok, Err}
use Rattle.vdb_base.specs.declared.calls.Failed.{Failed}
use Rattle.vdb_base.specs.Counts.{Rose}

-- the bytes that reads give, where they are told, and the count of faults
pub record DiskTold : Type 0 where
  pub bytes : Option (List ℕ)
  pub faults : ℕ

-- these bytes, and others written over them from a place on
abbrev pub overwritten : ℕ → List ℕ → List ℕ → List ℕ
overwritten at bytes file = take at file ++ bytes ++ drop (at + length bytes) file

-- a place of so many bytes lies within the told ones
abbrev pub IsWithin : ℕ → ℕ → DiskTold → Type 0
IsWithin at n told = IfSome told.bytes (λ bytes. at + n ≤ length bytes)

-- A call failed: the count rose, and from then on reads give one of the contents that a stop may leave.
pub record Fails (old new : DiskTold) (now : List ℕ → Type 0) : Type 0 where
  pub rose : Rose old.faults new.faults
  pub tells : is_some new.bytes ≡ is_some old.bytes
  pub reads : IfSome new.bytes now

-- what a call leaves that changes no byte
abbrev pub Asks : {T : Type 0} → DiskTold → DiskTold → (List ℕ → Type 0) → Result T Failed → Type 0
Asks old new now (Ok _) = new ≡ old
Asks old new now (Err _) = Fails old new now

-- what a call leaves that makes other bytes of the told ones
abbrev pub Changes : {T : Type 0} → (List ℕ → List ℕ) → DiskTold → DiskTold → (List ℕ → Type 0) → Result T Failed → Type 0
Changes f old new now (Ok _) = new ≡ record old { bytes = option_map f old.bytes }
Changes f old new now (Err _) = Fails old new now

-- a count of faults after an answer of the system
abbrev pub Counts : {T : Type 0} → ℕ → ℕ → Result T Failed → Type 0
Counts old new (Ok _) = new ≡ old
Counts old new (Err _) = Rose old new
