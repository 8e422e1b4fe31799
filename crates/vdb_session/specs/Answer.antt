-- What one answer of an engine says and leaves.
use Rattle.std.specs.Prelude.{◌≡◌, ℕ, ◌≤◌, ◌<◌, Bool, true, List, length, Option, Some, None, Result, Ok, Err, map, ⊤}
use Rattle.catalog_laws.specs.Over.{HasNoPatterns}
use Rattle.vdb_model.specs.declared.rel.Ranked.{Ranked}
use Rattle.vdb_model.specs.declared.reply.Reply.TheVariants as reply
use Rattle.vdb_model.specs.Defined.{Defined}
use Rattle.vdb_model.specs.Rows.{Cells}
use Rattle.resource.specs.declared.lane.Lane.{Lane}
use Rattle.resource.specs.Told.{Told}
use Rattle.resource.specs.Lanes.{labels_of}
use Rattle.vdb_session.specs.declared.answering.Answer.{Answer}
use Rattle.vdb_session.specs.declared.answering.Answer.TheVariants as answer
use Rattle.vdb_session.specs.declared.parts.Opened.{Opened}
use Rattle.vdb_session.specs.declared.fetching.FetchFault.{FetchFault}
use Rattle.vdb_session.specs.declared.fetching.FetchFault.TheVariants as fetch
use Rattle.vdb_session.specs.Fetching.{AreAttached}
use Rattle.vdb_session.specs.Lanes.{attached, lanes_of}
use Rattle.vdb_session.specs.Meaning.{Done}
use Rattle.vdb_session.specs.Querying.{AreRowsOf}
use Rattle.vdb_session.specs.Script.{Piece}
use Rattle.vdb_session.specs.Shown.{world_by, sees}

-- the rows that the engine's lanes see, where they are told
abbrev pub world_of : {S : Type 0} → (S → Told) → Opened S → Option (List (List Cells))
world_of told engine = world_by (sees told) engine.catalog engine.parts.lanes

-- the engine's definitions stay, its lanes, and the rows that they see
pub record EngineStays {S : Type 0} (told : S → Told) (old new : Opened S) : Type 0 where
  pub ddl : new.parts.ddl ≡ old.parts.ddl
  pub labels : labels_of new.parts.lanes ≡ labels_of old.parts.lanes
  pub catalog : new.catalog ≡ old.catalog
  pub lanes : map attached (lanes_of told new.parts) ≡ map attached (lanes_of told old.parts)

-- what an answer says: a reply of the statement, or a lane that failed
abbrev pub IsAnswer : Defined → Option (List (List Cells)) → Piece → ℕ → Answer → Type 0
IsAnswer cat world piece lanes (answer.Reply r) = Done cat world piece r
IsAnswer cat world piece lanes (answer.Fault lane) = lane < lanes

abbrev pub failed_in : Answer → Option ℕ
failed_in (answer.Reply r) = None
failed_in (answer.Fault lane) = Some lane

-- the answer with rows under these names, or with the fault of fetching them
abbrev pub answer_with : List (List ℕ) → Result (List Cells) FetchFault → Answer
answer_with names (Ok rows) = answer.Reply (reply.Rows names rows)
answer_with names (Err (fetch.Failed lane)) = answer.Fault lane
answer_with names (Err fetch.Memory) = answer.Reply reply.Memory

-- what the answer to a query says
abbrev pub AnswersQuery : {S : Type 0} → (S → Told) → Defined → List (Lane S) → Ranked → Answer → Type 0
AnswersQuery told cat lanes q (answer.Reply (reply.Rows names rows)) = (names ≡ q.names) × AreRowsOf told cat lanes q rows
AnswersQuery told cat lanes q (answer.Reply reply.Memory) = ⊤
AnswersQuery told cat lanes q (answer.Reply (reply.Refused refused)) = ⊥
AnswersQuery told cat lanes q (answer.Reply (reply.Updated count)) = ⊥
AnswersQuery told cat lanes q (answer.Reply reply.Done) = ⊥
AnswersQuery told cat lanes q (answer.Reply reply.Started) = ⊥
AnswersQuery told cat lanes q (answer.Reply reply.Committed) = ⊥
AnswersQuery told cat lanes q (answer.Reply reply.RolledBack) = ⊥
AnswersQuery told cat lanes q (answer.Reply (reply.Asked asks count)) = ⊥
AnswersQuery told cat lanes q (answer.Fault lane) = ⊤

-- a fault breaks the engine
abbrev pub is_broken_by : Answer → Bool → Bool
is_broken_by (answer.Reply r) broken = broken
is_broken_by (answer.Fault lane) broken = true

-- what an engine keeps: no table of its catalog has an access pattern, and each lane is attached to the tables of its server
pub record IsReady {S : Type 0} (told : S → Told) (engine : Opened S) : Type 0 where
  pub few : length engine.parts.lanes ≤ 4294967295
  pub patterns : HasNoPatterns engine.catalog
  pub are_attached : AreAttached told engine.catalog engine.parts.lanes
