-- Reading a log record by record into a state, which has what the records so far left.
use Rattle.std.specs.Prelude.{◌≡◌, ℕ, ◌+◌, ◌<◌, ◌≤◌, List, Option, Some, None, length, IsSomeAnd, Result, Ok, Err, ⊤}
use Rattle.vdb_base.specs.Counts.{Rose}
use Rattle.gate_log.specs.Disk.{DiskTold}
use Rattle.gate_log.specs.Records.{log_limit, records, records_from}
use Rattle.gate_log.specs.Walking.{IsGate, PayloadAt}
use Rattle.gate_log.specs.declared.log.Span.{Span}
use Rattle.store_records.specs.declared.reading.ReadFault.{ReadFault}
use Rattle.store_records.specs.declared.reading.ReadFault.TheVariants as read
use Rattle.store_records.specs.Fields.{◌>>=◌}
use Rattle.store_replay.specs.Replay.{Replayed, nothing, replay}
use Rattle.store_replay.specs.declared.walk.Place.{Place}
use Rattle.store_replay.specs.declared.walk.WalkFault.{WalkFault}
use Rattle.store_replay.specs.declared.walk.WalkFault.TheVariants as fault

-- what a record's taking answers: the state goes on to what the records leave, or they leave none
abbrev pub Follows : {T : Type 0} → (Replayed → T → Type 0) → Option Replayed → T → Result (Unit {0}) ReadFault → Type 0
Follows has next new (Ok done) = IsSomeAnd next (λ r. has r new)
Follows has next new (Err read.Broken) = next ≡ None
Follows has next new (Err read.Memory) = ⊤

-- a payload stands in this span
pub record Spans (span : Span) (payload bytes : List ℕ) : Type 0 where
  pub here : PayloadAt span.start payload bytes
  pub len : span.len ≡ length payload

-- what all records leave, none where they leave none
abbrev pub all_of : List ℕ → Option Replayed
all_of bytes = records bytes >>= λ payloads. replay payloads nothing

-- the records from this gate on are still to be taken, and those before it are
pub record TakenTo {T : Type 0} (has : Replayed → T → Type 0) (place : Place) (state : T) (bytes : List ℕ) : Type 0 where
  pub payloads : List (List ℕ)
  pub after : List (List ℕ)
  pub r : Replayed
  pub are : records bytes ≡ Some payloads
  pub gate : IsGate place.at bytes
  pub here : records_from place.at bytes ≡ Some after
  pub leaves : replay payloads nothing ≡ replay after r
  pub count : length payloads ≡ place.taken + length after
  pub held : has r state

-- so many records are all that there are, and the state has what they leave
pub record TakesAll {T : Type 0} (has : Replayed → T → Type 0) (taken : ℕ) (state : T) (bytes : List ℕ) : Type 0 where
  pub payloads : List (List ℕ)
  pub r : Replayed
  pub are : records bytes ≡ Some payloads
  pub count : length payloads ≡ taken
  pub leaves : replay payloads nothing ≡ Some r
  pub held : has r state

-- the next gate stands behind this one, which stands within the limit
pub record IsFurther (place next : Place) : Type 0 where
  pub further : place.at < next.at
  pub within : place.at < log_limit
  pub few : next.taken ≤ next.at

-- the disk failed or memory was wanting
abbrev pub IsOfReading : WalkFault → Type 0
IsOfReading fault.Broken = ⊥
IsOfReading fault.Failed = ⊤
IsOfReading fault.Memory = ⊤

-- what a walk answers
abbrev pub Walks : {T : Type 0} → (Replayed → T → Type 0) → T → Result ℕ WalkFault → List ℕ → Type 0
Walks has new (Ok count) bytes = TakesAll has count new bytes
Walks has new (Err fault.Broken) bytes = all_of bytes ≡ None
Walks has new (Err fault.Failed) bytes = ⊤
Walks has new (Err fault.Memory) bytes = ⊤

-- what one step of it answers: no record is left, or one was taken and the walk came to this place
abbrev pub StepsTo : {T : Type 0} → (Replayed → T → Type 0) → Place → T → Result (Option Place) WalkFault → List ℕ → Type 0
StepsTo has place new (Ok None) bytes = TakesAll has place.taken new bytes
StepsTo has place new (Ok (Some next)) bytes = TakenTo has next new bytes
StepsTo has place new (Err fault.Broken) bytes = all_of bytes ≡ None
StepsTo has place new (Err fault.Failed) bytes = ⊤
StepsTo has place new (Err fault.Memory) bytes = ⊤

-- a question of the log changes nothing, but where it failed the count rose
abbrev pub Reads : {T : Type 0} → DiskTold → DiskTold → Result T WalkFault → Type 0
Reads old new (Ok done) = new ≡ old
Reads old new (Err fault.Broken) = new ≡ old
Reads old new (Err fault.Memory) = new ≡ old
Reads old new (Err fault.Failed) = (new.bytes ≡ old.bytes) × Rose old.faults new.faults
