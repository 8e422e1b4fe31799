-- What a run of the program prints and answers, over what it was handed.
use Rattle.std.specs.Prelude.{◌≡◌, ◌⊎◌, ℕ, ◌+◌, ◌≤◌, Bool, true, false, if◌then◌else◌, List, [], ◌++◌, length, take, All, Option, Some, None, Result, Ok, Err, IfSome, ⊤}
use Rattle.vdb_base.specs.Counts.{Rose}
use Rattle.vdb_base.specs.Feeding.{FeedTold, prepended, IsAtEnd}
use Rattle.vdb_base.specs.Printing.{SinkTold, Prints}
use Rattle.vdb_model.specs.declared.reply.Reply.{Reply}
use Rattle.vdb_model.specs.Defined.{Defined}
use Rattle.vdb_model.specs.Rows.{Cells}
use Rattle.resource.specs.Images.{Image}
use Rattle.resource.specs.Told.{Told}
use Rattle.vdb_session.specs.declared.parts.Parts.{Parts}
use Rattle.vdb_session.specs.Lanes.{RoseAt, HandedBack, counts}
use Rattle.vdb_session.specs.Replies.{Replies, RepliesToAll, replies_text}
use Rattle.vdb_session.specs.Script.{script_limit, Piece, statements_of}
use Rattle.vdb_session.specs.Shown.{world_by, holds}
use Rattle.vdb_session.specs.Starting.{Deploys, ReadsAs, IsStartRefusal}
use Rattle.vdb.specs.declared.ending.Ending.{Ending}
use Rattle.vdb.specs.declared.ending.Ending.TheVariants as ending
use Rattle.vdb.specs.declared.words.Setup.{Setup}
use Rattle.vdb.specs.Answering.{seen_in}
use Rattle.vdb.specs.Ending.{status_of, last_line}
use Rattle.vdb.specs.Making.{MakerTold, AreFor}
use Rattle.vdb.specs.Words.{setup_of}

-- what holds of the parts that a maker holds, where it tells them
abbrev pub WhereHeld : {S : Type 0} → MakerTold S → (Parts S → Type 0) → Type 0
WhereHeld maker P = IfSome maker.held (λ held. IfSome held P)

-- what holds of the parts that a maker held and those that it holds, where it tells them
abbrev pub WhereBothHeld : {S : Type 0} → MakerTold S → MakerTold S → (Parts S → Parts S → Type 0) → Type 0
WhereBothHeld old new P = WhereHeld old (λ parts. WhereHeld new (λ after. P parts after))

-- The parts that were held are held again, and their stores keep what they hold; where it isn't told what is held, it still
-- isn't.
abbrev pub HeldAgain : {S : Type 0} → (S → Told) → (S → Image → Type 0) → Option (Option (Parts S)) → Option (Option (Parts S)) → Type 0
HeldAgain told images None new = new ≡ None
HeldAgain told images (Some None) new = new ≡ Some None
HeldAgain {S} told images (Some (Some parts)) new = (after : Parts S) × (new ≡ Some (Some after)) × HandedBack told images parts after

-- Of the parts that were held and are held again the count of this lane rose. Where nothing was held no lane can have failed;
-- where it isn't told what is held, this says nothing.
abbrev pub LaneRose : {S : Type 0} → (S → Told) → ℕ → Option (Option (Parts S)) → Option (Option (Parts S)) → Type 0
LaneRose told lane None new = ⊤
LaneRose told lane (Some None) new = ⊥
LaneRose {S} told lane (Some (Some parts)) new = (after : Parts S) × (new ≡ Some (Some after)) × RoseAt lane (counts told parts) (counts told after)

-- the world that the stores of parts hold under a catalog, where they tell it
abbrev pub world_held : {S : Type 0} → (S → Told) → Defined → Parts S → Option (List (List Cells))
world_held told cat parts = world_by (holds told cat) cat parts.lanes

-- and that of the parts that are held
abbrev pub held_world : {S : Type 0} → (S → Told) → Defined → Option (Option (Parts S)) → Option (List (List Cells))
held_world told cat None = None
held_world told cat (Some None) = None
held_world told cat (Some (Some parts)) = world_held told cat parts

-- the parts' DDL deploys over their lanes, this is what it defines, and the contents of each lane keep its rules
pub record Opens {S : Type 0} (told : S → Told) (cat : Defined) (parts : Parts S) : Type 0 where
  pub deploys : Deploys told parts.ddl parts.lanes cat
  pub reads : All (ReadsAs told cat None) parts.lanes

-- no count rose: of the maker, the feed, or where the parts are told of a resource
pub record Quiet {S : Type 0} (told : S → Told) (old new : MakerTold S) (feed feed' : FeedTold) : Type 0 where
  pub maker : new.faults ≡ old.faults
  pub feed_stays : feed'.faults ≡ feed.faults
  pub lanes : WhereBothHeld old new (λ parts after. counts told after ≡ counts told parts)

-- all that a run leaves behind: what was taken from the feed, what the held parts define, and the replies
pub record Trace : Type 0 where
  pub taken : List ℕ
  pub cat : Defined
  pub world : Option (List (List Cells))
  pub replies : List Reply

-- each of these statements was answered, over parts that are for the setup and open
pub record AnsweredAll {S : Type 0} (told : S → Told) (setup : Setup) (old : MakerTold S) (t : Trace) (pieces : List Piece) : Type 0 where
  pub made : WhereHeld old (AreFor setup)
  pub opens : WhereHeld old (Opens told t.cat)
  pub replies : RepliesToAll t.cat t.world pieces t.replies

-- nothing was read, and no statement was answered
pub record Unread (feed feed' : FeedTold) (t : Trace) : Type 0 where
  pub unread : feed' ≡ feed
  pub none : t.replies ≡ []

-- The ending and its cause: the object whose count rose, or none, and how the reading ended.
abbrev pub Ends : {S : Type 0} → (S → Told) → Setup → MakerTold S → MakerTold S → FeedTold → FeedTold → Trace → Ending → Type 0
Ends told setup old new feed feed' t (ending.Usage word) = ⊥
Ends told setup old new feed feed' t ending.MakerFailed = Rose old.faults new.faults × Unread feed feed' t
Ends told setup old new feed feed' t ending.Memory = Quiet told old new feed feed'
Ends told setup old new feed feed' t (ending.Deploy f) =
    Quiet told old new feed feed' × Unread feed feed' t × WhereHeld old (λ parts. AreFor setup parts × IsStartRefusal told parts.ddl parts.lanes f)
Ends told setup old new feed feed' t (ending.LaneFailed lane) =
    (new.faults ≡ old.faults) × LaneRose told lane old.held new.held
Ends told setup old new feed feed' t ending.FeedFailed =
    (new.faults ≡ old.faults) × Rose feed.faults feed'.faults × (length t.taken ≤ script_limit) × AnsweredAll told setup old t (statements_of t.taken false)
Ends told setup old new feed feed' t ending.SinkFailed = new.faults ≡ old.faults
Ends told setup old new feed feed' t ending.TooLong =
    Quiet told old new feed feed' × (length t.taken ≡ script_limit + 1) × AnsweredAll told setup old t (statements_of (take script_limit t.taken) false)
Ends told setup old new feed feed' t (ending.Whole seen) =
    Quiet told old new feed feed' × (length t.taken ≤ script_limit) × IsAtEnd feed'.left × (seen ≡ seen_in t.replies) × AnsweredAll told setup old t (statements_of t.taken true)

-- What a run over words of the form says. The bytes that were taken from the feed are cut into statements. What was printed
-- is the text of the replies to the first of them, which the definitions give over the rows that the held parts told, and
-- then at most one last line; where the sink failed it is the first of that. The status and the last line are those of the
-- ending, whose cause is told; and the stores keep what they hold.
pub record Runs {S : Type 0} (told : S → Told) (images : S → Image → Type 0) (setup : Setup) (old new : MakerTold S) (feed feed' : FeedTold) (out out' : SinkTold) (status : ℕ) : Type 0 where
  pub trace : Trace
  pub end : Ending
  pub ended : Bool
  pub whole : Bool
  pub world_is : trace.world ≡ held_world told trace.cat old.held
  pub took : feed.left ≡ prepended trace.taken feed'.left
  pub each : Replies trace.cat trace.world (statements_of (take script_limit trace.taken) ended) trace.replies
  pub printed : Prints whole out out' (replies_text trace.replies ++ last_line setup.conns end)
  pub status_is : status ≡ (if whole then status_of end else 4)
  pub cut : end ≡ ending.SinkFailed → whole ≡ false
  pub ends : Ends told setup old new feed feed' trace end
  pub kept : HeldAgain told images old.held new.held

-- Words that have no form: their first wrong or missing place is printed, and nobody else is asked anything.
pub record Misused {S : Type 0} (word : ℕ) (old new : MakerTold S) (feed feed' : FeedTold) (out out' : SinkTold) (status : ℕ) : Type 0 where
  pub whole : Bool
  pub printed : Prints whole out out' (last_line [] (ending.Usage word))
  pub status_is : status ≡ (if whole then 2 else 4)
  pub maker : new ≡ old
  pub unread : feed' ≡ feed

-- Memory was wanting for the words alone.
pub record Starved {S : Type 0} (old new : MakerTold S) (feed feed' : FeedTold) (out out' : SinkTold) (status : ℕ) : Type 0 where
  pub whole : Bool
  pub printed : Prints whole out out' (last_line [] ending.Memory)
  pub status_is : status ≡ (if whole then 5 else 4)
  pub maker : new ≡ old
  pub unread : feed' ≡ feed

abbrev pub RunsWords : {S : Type 0} → (S → Told) → (S → Image → Type 0) → Result Setup ℕ → MakerTold S → MakerTold S → FeedTold → FeedTold → SinkTold → SinkTold → ℕ → Type 0
RunsWords told images (Ok setup) old new feed feed' out out' status = Runs told images setup old new feed feed' out out' status
RunsWords told images (Err word) old new feed feed' out out' status = Misused word old new feed feed' out out' status

-- what the program says of its words, or that memory was wanting for them
abbrev pub Headline : {S : Type 0} → (S → Told) → (S → Image → Type 0) → List (List ℕ) → MakerTold S → MakerTold S → FeedTold → FeedTold → SinkTold → SinkTold → ℕ → Type 0
Headline told images words old new feed feed' out out' status =
    RunsWords told images (setup_of words) old new feed feed' out out' status ⊎ Starved old new feed feed' out out' status
