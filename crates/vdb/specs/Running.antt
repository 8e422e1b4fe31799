-- A run of the program, but for its last line.
use Rattle.std.specs.Prelude.{◌≡◌, ◌⊎◌, ℕ, Bool, if◌then◌else◌, List}
use Rattle.vdb_base.specs.Counts.{Rose}
use Rattle.vdb_base.specs.Feeding.{FeedTold}
use Rattle.vdb_base.specs.Printing.{SinkTold, Prints}
use Rattle.resource.specs.Images.{Image}
use Rattle.resource.specs.Told.{Told}
use Rattle.vdb.specs.declared.ending.Ending.{Ending}
use Rattle.vdb.specs.declared.ending.Ending.TheVariants as ending
use Rattle.vdb_session.specs.declared.parts.Parts.{Parts}
use Rattle.vdb.specs.declared.words.Conn.{Conn}
use Rattle.vdb.specs.declared.words.Setup.{Setup}
use Rattle.vdb.specs.declared.words.WordsFault.{WordsFault}
use Rattle.vdb.specs.declared.words.WordsFault.TheVariants as fault
use Rattle.vdb.specs.Ending.{status_of, last_line}
use Rattle.vdb.specs.Making.{MakerTold, Made, Keeps}
use Rattle.vdb.specs.Session.{IsSession}

-- how a refused make ends
abbrev pub IsMakeEnding : {S : Type 0} → MakerTold S → MakerTold S → Ending → Type 0
IsMakeEnding old new e = ((e ≡ ending.Memory) × (new ≡ old)) ⊎ ((e ≡ ending.MakerFailed) × (new.held ≡ old.held) × Rose old.faults new.faults)

-- the maker made nothing, and nothing was asked of anybody else
pub record IsNotMade {S : Type 0} (old new : MakerTold S) (feed feed' : FeedTold) (out out' : SinkTold) (e : Ending) : Type 0 where
  pub make : IsMakeEnding old new e
  pub unread : feed' ≡ feed
  pub silent : out' ≡ out

-- parts were made, run and kept
pub record IsMadeRun {S : Type 0} (told : S → Told) (images : S → Image → Type 0) (setup : Setup) (old new : MakerTold S) (feed feed' : FeedTold) (out out' : SinkTold) (e : Ending) : Type 0 where
  pub parts : Parts S
  pub after : Parts S
  pub mid : MakerTold S
  pub made : Made told setup old mid parts
  pub keeps : Keeps mid new after
  pub session : IsSession told images parts after feed feed' out out' e

abbrev pub IsRun : {S : Type 0} → (S → Told) → (S → Image → Type 0) → Setup → MakerTold S → MakerTold S → FeedTold → FeedTold → SinkTold → SinkTold → Ending → Type 0
IsRun told images setup old new feed feed' out out' e =
    IsNotMade old new feed feed' out out' e ⊎ IsMadeRun told images setup old new feed feed' out out' e

-- how words that were not read end
abbrev pub words_ending : WordsFault → Ending
words_ending (fault.Usage word) = ending.Usage word
words_ending fault.Memory = ending.Memory

-- the last line was printed, whole or cut short, and the status says which
pub record Finishes (conns : List Conn) (e : Ending) (out out' : SinkTold) (status : ℕ) : Type 0 where
  pub whole : Bool
  pub printed : Prints whole out out' (last_line conns e)
  pub status_is : status ≡ (if whole then status_of e else 4)
