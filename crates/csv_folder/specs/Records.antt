-- The records of a file, and what a reader has left of them.
use Rattle.std.specs.Prelude.{◌≡◌, ℕ, ◌+◌, Bool, true, false, List, [], ◌∷◌, length, Option, Some, IsSome}
use Rattle.std.specs.Borrow.{Bor}
use Rattle.std.specs.Option.{unwrap_or}
use Rattle.csv.specs.Reading.{records, records_from, default_config, strip_bom, source_of, reader_config, reader_trim, reader_state, Ready}
use Rattle.csv.specs.declared.parser.State.{State}
use Rattle.csv.specs.declared.parser.State.TheVariants as state
use Rattle.csv.specs.declared.reader.Reader.{Reader}
use Rattle.csv.specs.declared.reader.Trim.TheVariants as trim

-- a record: its fields in turn, as bytes
abbrev pub Fields : Type 0
Fields = List (List ℕ)

-- the records of a file; a byte order mark in front is passed over
abbrev pub records_in : List ℕ → List Fields
records_in bytes = records default_config (strip_bom bytes)

-- between two records
abbrev pub is_between : State → Bool
is_between state.StartRecord = true
is_between state.AfterCr = true
is_between state.StartField = false
is_between state.InField = false
is_between state.InQuoted = false
is_between state.AfterQuote = false
is_between state.InEscape = false
is_between state.InComment = false

abbrev pub bytes_of : Bor (List ℕ) → Option (List ℕ)
bytes_of slice = Some slice.now

-- a reader of a slice, which stands between two records and knows its bytes
pub record IsGoing (reader : Reader (Bor (List ℕ))) : Type 0 where
  pub config : reader_config reader ≡ default_config
  pub trim : reader_trim reader ≡ trim.None
  pub ready : Ready reader
  pub between : is_between (reader_state reader) ≡ true
  pub known : IsSome (source_of bytes_of reader)

-- the records of a text from a state on
abbrev pub records_from_state : State → List ℕ → List Fields
records_from_state s bytes = records_from default_config (length bytes + 1) s bytes

-- the records that a reader has left
abbrev pub left_of : Reader (Bor (List ℕ)) → List Fields
left_of reader = records_from_state (reader_state reader) (unwrap_or (source_of bytes_of reader) [])

-- what reading a record gives: the next one, and those after it are left; or none, where none was left
abbrev pub IsNext : Bool → Reader (Bor (List ℕ)) → Reader (Bor (List ℕ)) → Fields → Type 0
IsNext true old new fields = IsGoing new × (left_of old ≡ fields ∷ left_of new)
IsNext false old new fields = left_of old ≡ []
