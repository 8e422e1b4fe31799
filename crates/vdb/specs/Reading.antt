-- Reading a script whole.
use Rattle.std.specs.Prelude.{◌≡◌, ℕ, ◌+◌, ◌<◌, ◌≤◌, List, [], ◌++◌, length, take}
use Rattle.vdb_base.specs.Counts.{Rose}
use Rattle.vdb_base.specs.Feeding.{FeedTold, prepended, IsAtEnd}
use Rattle.vdb.specs.declared.reading.TheConstants.{SCRIPT_LIMIT}
use Rattle.vdb.specs.declared.reading.ReadEnd.{ReadEnd}
use Rattle.vdb.specs.declared.reading.ReadEnd.TheVariants as end
use Rattle.vdb.specs.declared.reading.Turn.{Turn}
use Rattle.vdb.specs.declared.reading.Turn.TheVariants as turn

-- these bytes were taken from the front
pub record TookBytes (old new : FeedTold) (taken : List ℕ) : Type 0 where
  pub took : old.left ≡ prepended taken new.left
  pub count : new.faults ≡ old.faults

-- what one turn takes, with this room
abbrev pub ReadsSome : FeedTold → FeedTold → List ℕ → List ℕ → ℕ → Turn → Type 0
ReadsSome old new before after room turn.Taken = (taken : List ℕ) × TookBytes old new taken × (after ≡ before ++ taken) × (0 < length taken) × (length taken ≤ room)
ReadsSome old new before after room turn.Nothing = TookBytes old new [] × IsAtEnd new.left × (after ≡ before)
ReadsSome old new before after room turn.Failed = (new.left ≡ old.left) × (after ≡ before) × Rose old.faults new.faults
ReadsSome old new before after room turn.Memory = (taken : List ℕ) × TookBytes old new taken

-- how the reading ended, and the bytes that are there
abbrev pub Reads : FeedTold → FeedTold → List ℕ → List ℕ → ReadEnd → Type 0
Reads old new taken bytes end.Whole = (bytes ≡ taken) × (length taken ≤ SCRIPT_LIMIT) × IsAtEnd new.left × (new.faults ≡ old.faults)
Reads old new taken bytes end.TooLong = (bytes ≡ take SCRIPT_LIMIT taken) × (length taken ≡ SCRIPT_LIMIT + 1) × (new.faults ≡ old.faults)
Reads old new taken bytes end.Failed = (bytes ≡ taken) × (length taken ≤ SCRIPT_LIMIT) × Rose old.faults new.faults
Reads old new taken bytes end.Memory = new.faults ≡ old.faults

-- a script was read: these bytes were taken, with this end
pub record IsRead (old new : FeedTold) (bytes : List ℕ) (end : ReadEnd) : Type 0 where
  pub taken : List ℕ
  pub took : old.left ≡ prepended taken new.left
  pub ends : Reads old new taken bytes end
