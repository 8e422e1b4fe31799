-- What the statuses say: the cause of each, and what a run answers to which nothing is wanting.
use Rattle.std.specs.Prelude.{◌≡◌, ◌≢◌, ◌⊎◌, ℕ, ◌<◌, ◌≤◌, true, false, if◌then◌else◌, List, [], ◌++◌, length, take, All, Some, Ok, Err}
use Rattle.vdb_base.specs.Counts.{Rose}
use Rattle.vdb_base.specs.Feeding.{FeedTold, prepended}
use Rattle.vdb_base.specs.Printing.{SinkTold, Prints}
use Rattle.vdb_model.specs.declared.reply.DeployFault.{DeployFault}
use Rattle.vdb_model.specs.declared.reply.Reply.{Reply}
use Rattle.vdb_model.specs.declared.table.TableDef.{TableDef}
use Rattle.vdb_model.specs.Defined.{Defined}
use Rattle.vdb_model.specs.Rows.{Cells}
use Rattle.resource.specs.declared.lane.Lane.{Lane}
use Rattle.resource.specs.Reading.{Reading}
use Rattle.resource.specs.Told.{Told}
use Rattle.vdb_session.specs.declared.parts.Parts.{Parts}
use Rattle.vdb_session.specs.Replies.{RepliesToAll, replies_text}
use Rattle.vdb_session.specs.Script.{script_limit, statements_of}
use Rattle.vdb_session.specs.Starting.{NoItems, NoDeployment, BadContents, IsStartRefusal}
use Rattle.vdb.specs.declared.ending.Ending.TheVariants as ending
use Rattle.vdb.specs.declared.words.Setup.{Setup}
use Rattle.vdb.specs.Answering.{seen_in}
use Rattle.vdb.specs.Ending.{last_line}
use Rattle.vdb.specs.Making.{MakerTold, AreFor}
use Rattle.vdb.specs.Words.{setup_of}
use Rattle.vdb.specs.Headline.{WhereHeld, LaneRose, world_held, Opens, Quiet}

-- a count rose: of the maker, the feed, the sink, or where the parts are told of a lane
abbrev pub SomeRose : {S : Type 0} → (S → Told) → MakerTold S → MakerTold S → FeedTold → FeedTold → SinkTold → SinkTold → Type 0
SomeRose told old new feed feed' out out' =
    Rose old.faults new.faults ⊎ (Rose feed.faults feed'.faults ⊎ (Rose out.faults out'.faults
    ⊎ ((lane : ℕ) × LaneRose told lane old.held new.held)))

-- the words have no form
abbrev pub HaveNoForm : List (List ℕ) → Type 0
HaveNoForm words = (word : ℕ) × (setup_of words ≡ Err word)

-- the words have the form, and the held parts are for them and don't deploy, or their contents break a rule
abbrev pub AreRefused : {S : Type 0} → (S → Told) → List (List ℕ) → MakerTold S → Type 0
AreRefused told words old =
    (setup : Setup) × ((setup_of words ≡ Ok setup) × WhereHeld old (λ parts. AreFor setup parts × ((f : DeployFault) × IsStartRefusal told parts.ddl parts.lanes f)))

-- more was taken from the feed than a script may have
abbrev pub IsTooLong : FeedTold → FeedTold → Type 0
IsTooLong feed feed' = (taken : List ℕ) × ((feed.left ≡ prepended taken feed'.left) × (script_limit < length taken))

-- The cause of each status: 2 of the words, 3 of the parts, 4 of a count that rose, 6 of the script's length. With any status
-- but 4 no count moved.
pub record Causes {S : Type 0} (told : S → Told) (words : List (List ℕ)) (old new : MakerTold S) (feed feed' : FeedTold) (out out' : SinkTold) (status : ℕ) : Type 0 where
  pub usage : status ≡ 2 → HaveNoForm words
  pub deploy : status ≡ 3 → AreRefused told words old
  pub rose : status ≡ 4 → SomeRose told old new feed feed' out out'
  pub long : status ≡ 6 → IsTooLong feed feed'
  pub quiet : status ≢ 4 → Quiet told old new feed feed'
  pub sink_stays : status ≢ 4 → out'.faults ≡ out.faults

-- the words have the form, and the parts that are held are told
pub record Given {S : Type 0} (told : S → Told) (words : List (List ℕ)) (old : MakerTold S) : Type 0 where
  pub setup : Setup
  pub form : setup_of words ≡ Ok setup
  pub parts : Parts S
  pub held : old.held ≡ Some (Some parts)

-- the store of each lane tells its contents
abbrev pub TellsContents : {S : Type 0} → (S → Told) → List (Lane S) → Type 0
TellsContents told lanes = All (λ lane. (reads : List TableDef → Reading) × ((told lane.res).reads ≡ Some reads)) lanes

-- the parts are refused with this: by their DDL, or by the contents that their stores tell
abbrev pub Refused : {S : Type 0} → (S → Told) → Parts S → DeployFault → Type 0
Refused told parts f =
    NoItems parts.ddl f ⊎ (NoDeployment told parts.ddl parts.lanes f ⊎ (BadContents told parts.ddl parts.lanes f × TellsContents told parts.lanes))

-- the parts open, their contents are told, and so is the script
pub record Sound {S : Type 0} (told : S → Told) (parts : Parts S) (feed : FeedTold) : Type 0 where
  pub cat : Defined
  pub opens : Opens told cat parts
  pub tells : TellsContents told parts.lanes
  pub script : List ℕ
  pub input : feed.left ≡ Some script

-- Each statement of the script has one reply over the world that the stores hold, none of them MEMORY, and they were printed
-- and nothing else. The status is 1 where one of them is a refusal, else 0.
pub record AnswersWhole {S : Type 0} (told : S → Told) (cat : Defined) (parts : Parts S) (script : List ℕ) (out out' : SinkTold) (status : ℕ) : Type 0 where
  pub world : List (List Cells)
  pub holds_it : world_held told cat parts ≡ Some world
  pub replies : List Reply
  pub each : RepliesToAll cat (Some world) (statements_of script true) replies
  pub printed : Prints true out out' (replies_text replies)
  pub no_memory : (seen_in replies).memory ≡ false
  pub status_is : status ≡ (if (seen_in replies).refused then 1 else 0)

-- each statement that is ended within the limit has one reply over that world, and then the script is refused
pub record AnswersFront {S : Type 0} (told : S → Told) (cat : Defined) (parts : Parts S) (script : List ℕ) (out out' : SinkTold) (status : ℕ) : Type 0 where
  pub world : List (List Cells)
  pub holds_it : world_held told cat parts ≡ Some world
  pub replies : List Reply
  pub each : RepliesToAll cat (Some world) (statements_of (take script_limit script) false) replies
  pub printed : Prints true out out' (replies_text replies ++ last_line [] ending.TooLong)
  pub status_is : status ≡ 6

-- What is answered where nothing is wanting, no fault and no memory: to words without a form the place of the first wrong
-- one; to parts that are refused the line that says why; else the script is answered whole, or up to the limit.
pub record Answers {S : Type 0} (told : S → Told) (words : List (List ℕ)) (old : MakerTold S) (feed feed' : FeedTold) (out out' : SinkTold) (status : ℕ) : Type 0 where
  pub usage : (word : ℕ) → setup_of words ≡ Err word → Prints true out out' (last_line [] (ending.Usage word)) × (status ≡ 2)
  pub deploy : (given : Given told words old) (f : DeployFault) → Refused told given.parts f
      → Prints true out out' (last_line [] (ending.Deploy f)) × ((status ≡ 3) × (feed' ≡ feed))
  pub whole : (given : Given told words old) (s : Sound told given.parts feed) → length s.script ≤ script_limit → AnswersWhole told s.cat given.parts s.script out out' status
  pub front : (given : Given told words old) (s : Sound told given.parts feed) → script_limit < length s.script → AnswersFront told s.cat given.parts s.script out out' status

-- a status but 4 and 5 is that of a run to which nothing was wanting
abbrev pub Complete : {S : Type 0} → (S → Told) → List (List ℕ) → MakerTold S → FeedTold → FeedTold → SinkTold → SinkTold → ℕ → Type 0
Complete told words old feed feed' out out' status = status ≢ 4 → status ≢ 5 → Answers told words old feed feed' out out' status
