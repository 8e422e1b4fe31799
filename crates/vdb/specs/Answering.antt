-- Answering the statements of a script, one after another.
use Rattle.std.specs.Prelude.{◌≡◌, ℕ, Bool, true, false, List, [], ◌∷◌, ◌++◌, Option, Some, None, fold, ⊤}
use Rattle.vdb_base.specs.Printing.{SinkTold, Prints}
use Rattle.vdb_model.specs.declared.reply.Reply.{Reply}
use Rattle.vdb_model.specs.declared.reply.Reply.TheVariants as reply
use Rattle.vdb_model.specs.Defined.{Defined}
use Rattle.vdb_model.specs.Rows.{Cells}
use Rattle.vdb_model.specs.ReplyText.{reply_text}
use Rattle.resource.specs.Told.{Told}
use Rattle.vdb.specs.declared.answering.Seen.{Seen}
use Rattle.vdb.specs.declared.answering.Step.{Step}
use Rattle.vdb.specs.declared.answering.Step.TheVariants as step
use Rattle.vdb.specs.declared.answering.Answers.{Answers}
use Rattle.vdb.specs.declared.answering.Answers.TheVariants as answers
use Rattle.vdb_session.specs.declared.parts.Opened.{Opened}
use Rattle.vdb_session.specs.Answer.{world_of, EngineStays}
use Rattle.vdb_session.specs.Lanes.{LaneCounts, counts}
use Rattle.vdb_session.specs.Meaning.{Done}
use Rattle.vdb_session.specs.Replies.{replies_text}
use Rattle.vdb_session.specs.Script.{Piece}

-- what was seen, after one more reply
abbrev pub noted : Seen → Reply → Seen
noted seen (reply.Refused refusal) = record seen { refused = true }
noted seen reply.Memory = record seen { memory = true }
noted seen (reply.Rows names rows) = seen
noted seen (reply.Updated count) = seen
noted seen reply.Done = seen
noted seen reply.Started = seen
noted seen reply.Committed = seen
noted seen reply.RolledBack = seen
noted seen (reply.Asked asks count) = seen

abbrev pub nothing_seen : Seen
nothing_seen = record { refused = false; memory = false }

-- which replies there are among these
abbrev pub seen_in : List Reply → Seen
seen_in replies = fold noted nothing_seen replies

-- one reply to each of these statements
abbrev pub RepliesAll : Defined → Option (List (List Cells)) → List Piece → List Reply → Type 0
RepliesAll cat world [] [] = ⊤
RepliesAll cat world [] (r ∷ rs) = ⊥
RepliesAll cat world (p ∷ ps) [] = ⊥
RepliesAll cat world (p ∷ ps) (r ∷ rs) = Done cat world p r × RepliesAll cat world ps rs

-- the statement has this reply, and it was printed, whole or cut short
pub record AnswersAndPrints {S : Type 0} (told : S → Told) (piece : Piece) (old new : Opened S) (before after : SinkTold) (whole : Bool) (r : Reply) : Type 0 where
  pub done : Done old.catalog (world_of told old) piece r
  pub printed : Prints whole before after (reply_text r)
  pub stays : EngineStays told old new
  pub counts_stay : counts told new.parts ≡ counts told old.parts

-- a lane failed, and nothing was printed
pub record LaneFails {S : Type 0} (told : S → Told) (old new : Opened S) (before after : SinkTold) (lane : ℕ) : Type 0 where
  pub silent : after ≡ before
  pub stays : EngineStays told old new
  pub rose : LaneCounts (Some lane) (counts told old.parts) (counts told new.parts)

-- what one statement leaves
abbrev pub AnswersOne : {S : Type 0} → (S → Told) → Piece → Opened S → Opened S → SinkTold → SinkTold → Seen → Step → Type 0
AnswersOne told piece old new before after seen (step.Answered now) = (r : Reply) × AnswersAndPrints told piece old new before after true r × (now ≡ noted seen r)
AnswersOne told piece old new before after seen step.SinkFailed = (r : Reply) × AnswersAndPrints told piece old new before after false r
AnswersOne told piece old new before after seen (step.LaneFailed lane) = LaneFails told old new before after lane

-- Of these statements the first ones were answered, and the others are left. What was printed is the text of the
-- replies, whole or cut short; the engine stays, and the count of one lane rose or none.
pub record Answered {S : Type 0} (told : S → Told) (all left : List Piece) (old new : Opened S) (before after : SinkTold) (whole : Bool) (fault : Option ℕ) (seen : Seen) : Type 0 where
  pub first : List Piece
  pub replies : List Reply
  pub split : all ≡ first ++ left
  pub each : RepliesAll old.catalog (world_of told old) first replies
  pub seen_is : seen ≡ seen_in replies
  pub printed : Prints whole before after (replies_text replies)
  pub stays : EngineStays told old new
  pub lanes : LaneCounts fault (counts told old.parts) (counts told new.parts)

-- how the answering of all ended
abbrev pub IsAnswered : {S : Type 0} → (S → Told) → List Piece → Opened S → Opened S → SinkTold → SinkTold → Answers → Type 0
IsAnswered told all old new before after (answers.Whole seen) = Answered told all [] old new before after true None seen
IsAnswered told all old new before after (answers.LaneFailed lane) = (left : List Piece) × (seen : Seen) × Answered told all left old new before after true (Some lane) seen
IsAnswered told all old new before after answers.SinkFailed = (left : List Piece) × (seen : Seen) × Answered told all left old new before after false None seen
