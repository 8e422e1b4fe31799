-- A run over parts that were made.
use Rattle.std.specs.Prelude.{◌≡◌, ◌⊎◌, ℕ, true, false, List, []}
use Rattle.vdb_base.specs.Feeding.{FeedTold}
use Rattle.vdb_base.specs.Printing.{SinkTold}
use Rattle.resource.specs.Images.{Image}
use Rattle.resource.specs.Told.{Told}
use Rattle.vdb_session.specs.declared.parts.Opened.{Opened}
use Rattle.vdb_session.specs.declared.parts.Parts.{Parts}
use Rattle.vdb_session.specs.declared.parts.StartRefused.{StartRefused}
use Rattle.vdb_session.specs.Script.{Piece, statements_of}
use Rattle.vdb_session.specs.Starting.{Started, NotStarted}
use Rattle.vdb.specs.declared.answering.Answers.{Answers}
use Rattle.vdb.specs.declared.ending.Ending.{Ending}
use Rattle.vdb.specs.declared.reading.ReadEnd.{ReadEnd}
use Rattle.vdb.specs.declared.reading.ReadEnd.TheVariants as end
use Rattle.vdb.specs.Answering.{IsAnswered}
use Rattle.vdb.specs.Reading.{IsRead}
use Rattle.vdb.specs.Ending.{start_ending, ending_of}

-- the statements that are to be answered
abbrev pub pieces_read : List ℕ → ReadEnd → List Piece
pieces_read bytes end.Whole = statements_of bytes true
pieces_read bytes end.TooLong = statements_of bytes false
pieces_read bytes end.Failed = statements_of bytes false
pieces_read bytes end.Memory = []

-- a script was read and its statements were answered
pub record IsScriptRun {S : Type 0} (told : S → Told) (old new : Opened S) (feed feed' : FeedTold) (out out' : SinkTold) (ending : Ending) : Type 0 where
  pub bytes : List ℕ
  pub read : ReadEnd
  pub answers : Answers
  pub is_read : IsRead feed feed' bytes read
  pub is_answered : IsAnswered told (pieces_read bytes read) old new out out' answers
  pub ending_is : ending ≡ ending_of read answers

-- the start was refused, and nothing was read or printed
pub record IsNotStarted {S : Type 0} (told : S → Told) (images : S → Image → Type 0) (old new : Parts S) (feed feed' : FeedTold) (out out' : SinkTold) (ending : Ending) : Type 0 where
  pub refused : StartRefused S
  pub parts : new ≡ refused.parts
  pub start : NotStarted told images old refused
  pub ending_is : ending ≡ start_ending refused.fault
  pub unread : feed' ≡ feed
  pub silent : out' ≡ out

-- the engine was started, and answered the script
pub record IsStartedRun {S : Type 0} (told : S → Told) (old new : Parts S) (feed feed' : FeedTold) (out out' : SinkTold) (ending : Ending) : Type 0 where
  pub started : Opened S
  pub after : Opened S
  pub parts : new ≡ after.parts
  pub start : Started told old started
  pub run : IsScriptRun told started after feed feed' out out' ending

abbrev pub IsSession : {S : Type 0} → (S → Told) → (S → Image → Type 0) → Parts S → Parts S → FeedTold → FeedTold → SinkTold → SinkTold → Ending → Type 0
IsSession told images old new feed feed' out out' ending =
    IsNotStarted told images old new feed feed' out out' ending ⊎ IsStartedRun told old new feed feed' out out' ending
