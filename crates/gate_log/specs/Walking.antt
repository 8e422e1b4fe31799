-- Walking a log, record by record.
use Rattle.std.specs.Prelude.{◌≡◌, ℕ, ◌+◌, ◌-◌, ◌<◌, ◌≤◌, List, [], ◌∷◌, ◌++◌, length, take, drop, Option, Some, None, Result, Ok, Err}
use Rattle.vdb_base.specs.declared.calls.Failed.{Failed}
use Rattle.vdb_base.specs.Counts.{Rose}
use Rattle.gate_log.specs.Disk.{DiskTold}
use Rattle.gate_log.specs.Records.{log_limit, opened, records, records_from}
use Rattle.gate_log.specs.declared.log.Span.{Span}

-- the place of the gate behind the header and these records
abbrev pub gate_behind : List (List ℕ) → ℕ
gate_behind payloads = 8 + length (opened payloads)

-- a gate of the log stands at this place: the first one, or one behind a record
pub record IsGate (at : ℕ) (bytes : List ℕ) : Type 0 where
  pub before : List (List ℕ)
  pub after : List (List ℕ)
  pub all : records bytes ≡ Some (before ++ after)
  pub place : at ≡ gate_behind before

-- this payload of a record begins at this place
pub record PayloadAt (start : ℕ) (payload bytes : List ℕ) : Type 0 where
  pub before : List (List ℕ)
  pub after : List (List ℕ)
  pub all : records bytes ≡ Some (before ++ payload ∷ after)
  pub place : start ≡ gate_behind before + 5

-- so many bytes from this place on lie within the payload of one record
pub record IsInPayload (start count : ℕ) (bytes : List ℕ) : Type 0 where
  pub payload : List ℕ
  pub begin : ℕ
  pub here : PayloadAt begin payload bytes
  pub low : begin ≤ start
  pub high : start + count ≤ begin + length payload

-- the bytes of that payload
abbrev pub IsPartOf : ℕ → ℕ → List ℕ → List ℕ → Type 0
IsPartOf start count bytes part = (found : IsInPayload start count bytes) → part ≡ take count (drop (start - found.begin) found.payload)

-- the record at a gate, and where the next gate stands
pub record FoundRecord (at : ℕ) (span : Span) (bytes : List ℕ) : Type 0 where
  pub payload : List ℕ
  pub after : List (List ℕ)
  pub here : records_from at bytes ≡ Some (payload ∷ after)
  pub rest : records_from span.next bytes ≡ Some after
  pub span_is : span ≡ record { start = at + 5; len = length payload; next = at + 5 + length payload }
  pub payload_at : PayloadAt span.start payload bytes
  pub gate : IsGate span.next bytes

-- the record at a gate, or none where the records end there
abbrev pub NextIs : ℕ → Option Span → List ℕ → Type 0
NextIs at None bytes = records_from at bytes ≡ Some []
NextIs at (Some span) bytes = FoundRecord at span bytes

-- The next gate stands behind this one, which stands within the limit. That holds of every disk, so that a walk ends.
pub record IsBehind (at : ℕ) (span : Span) : Type 0 where
  pub further : at < span.next
  pub within : at < log_limit

-- what a question leaves: nothing is changed, and where it failed the count rose
abbrev pub Looks : {T : Type 0} → DiskTold → DiskTold → Result T Failed → Type 0
Looks old new (Ok _) = new ≡ old
Looks old new (Err _) = (new.bytes ≡ old.bytes) × Rose old.faults new.faults
