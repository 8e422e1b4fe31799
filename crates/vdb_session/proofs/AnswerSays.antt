-- What an answer over lanes says, and what an engine keeps.
use Rattle.std.proofs.Common.{◌≡◌, ℕ, ◌<◌, Bool, List, [], Option, Some, None, length, slice_set, slice_index_or, refl, ap, subst, arith}
use Rattle.std.specs.Prelude.{IfSome, IfOk, IsTrue, Result, Ok, Err}
use Rattle.vdb_model.specs.declared.rel.Ranked.{Ranked}
use Rattle.vdb_model.specs.declared.reply.Reply.TheVariants as reply
use Rattle.vdb_model.specs.declared.typed.Typed.TheVariants as typed
use Rattle.vdb_model.specs.Arranged.{Arranged}
use Rattle.vdb_model.specs.Defined.{Defined}
use Rattle.vdb_model.specs.Rows.{Cells}
use Rattle.vdb_model.specs.Stacked.{names_first}
use Rattle.vdb_model.specs.World.{rows_in}
use Rattle.walk_laws.specs.Closed.{StatementsAreClosed}
use Rattle.resource.specs.declared.lane.Lane.{Lane}
use Rattle.resource.specs.Leaves.{unasked}
use Rattle.resource.specs.Told.{Told}
use Rattle.vdb_session.specs.declared.answering.Answer.{Answer}
use Rattle.vdb_session.specs.declared.answering.Answer.TheVariants as answer
use Rattle.vdb_session.specs.declared.fetching.FetchFault.{FetchFault}
use Rattle.vdb_session.specs.declared.fetching.FetchFault.TheVariants as fetch
use Rattle.vdb_session.specs.Answer.{answer_with, failed_in, AnswersQuery, IsAnswer, IsReady}
use Rattle.vdb_session.specs.Fetching.{failed_lane}
use Rattle.vdb_session.specs.Querying.{AreRowsOf}
use Rattle.vdb_session.specs.Lanes.{AreAsked, attached}
use Rattle.vdb_session.specs.Meaning.{MeansQuery}
use Rattle.vdb_session.specs.Script.{Piece}
use Rattle.vdb_session.specs.Shown.{world_by, sees}
use Rattle.vdb_session.proofs.AskedLanes.{asked_at, asked_on}
use Rattle.vdb_session.proofs.SameWorlds.{world_stays, lane_is_there}
use Rattle.vdb_session.proofs.ServedLanes.{attached_stay, as_many}

-- one lane more forgot what it was asked
pub cleared_more : {S : Type 0} (told : S → Told) (at : ℕ) (old now : List (Lane S)) (o a : Lane S) → at < length now → AreAsked told None old now
    → a.name ≡ (slice_index_or now at o).name → a.kind ≡ (slice_index_or now at o).kind → told a.res ≡ unasked (told (slice_index_or now at o).res) → AreAsked told None old (slice_set now at a)
cleared_more told at old now o a h s n k e = asked_on told None old now (slice_set now at a) s (asked_at told now at o a h n k (ap attached e) (ap (λ (t : Told). t.faults) e))

-- a statement's query names only views that are there
pub named : (cat : Defined) (piece : Piece) (q : Ranked) → StatementsAreClosed → MeansQuery cat piece q → IsTrue (names_first (length cat.views) q.rel)
named cat piece q law m = (law cat m.statement (typed.Query q) m.resolves q.rel refl).0.views

-- the answer to a query over lanes that forgot what they were asked is one of its statement
pub answer_of : {S : Type 0} (told : S → Told) (cat : Defined) (piece : Piece) (q : Ranked) (old mid new : List (Lane S)) (a : Answer) → MeansQuery cat piece q → AreAsked told None old mid
    → AreAsked told (failed_in a) mid new → AnswersQuery told cat mid q a → IsAnswer cat (world_by (sees told) cat old) piece (length old) a
answer_of told cat piece q old mid new (answer.Reply (reply.Rows names rows)) m c s h = record {
  query = q;
  means = m;
  names_are = h.0;
  rows_are = subst (λ (w : Option (List (List Cells))). IfSome w (λ w. Arranged q.keys q.offset q.limit (rows_in cat w [] q.rel) rows)) (world_stays told None cat old mid c) h.1;
}
answer_of told cat piece q old mid new (answer.Reply reply.Memory) m c s h = tt
answer_of told cat piece q old mid new (answer.Reply (reply.Refused refused)) m c s h = absurd h
answer_of told cat piece q old mid new (answer.Reply (reply.Updated count)) m c s h = absurd h
answer_of told cat piece q old mid new (answer.Reply reply.Done) m c s h = absurd h
answer_of told cat piece q old mid new (answer.Reply reply.Started) m c s h = absurd h
answer_of told cat piece q old mid new (answer.Reply reply.Committed) m c s h = absurd h
answer_of told cat piece q old mid new (answer.Reply reply.RolledBack) m c s h = absurd h
answer_of told cat piece q old mid new (answer.Reply (reply.Asked asks count)) m c s h = absurd h
answer_of told cat piece q old mid new (answer.Fault lane) m c s h = lane_is_there told lane old new (asked_on told (Some lane) old mid new c s)

-- what the answer with rows says
pub failed_same : (names : List (List ℕ)) (rows : Result (List Cells) FetchFault) → failed_in (answer_with names rows) ≡ failed_lane rows
failed_same names (Ok rows) = refl
failed_same names (Err (fetch.Failed lane)) = refl
failed_same names (Err fetch.Memory) = refl

pub answers_query : {S : Type 0} (told : S → Told) (cat : Defined) (lanes : List (Lane S)) (q : Ranked) (names : List (List ℕ)) (rows : Result (List Cells) FetchFault) → names ≡ q.names
    → IfOk rows (AreRowsOf told cat lanes q) → AnswersQuery told cat lanes q (answer_with names rows)
answers_query told cat lanes q names (Ok rows) e h = (e, h)
answers_query told cat lanes q names (Err (fetch.Failed lane)) e h = tt
answers_query told cat lanes q names (Err fetch.Memory) e h = tt

-- an engine stays ready whatever its lanes are asked
pub ready_stays : {S : Type 0} (told : S → Told) (failed : Option ℕ) (ddl : List ℕ) (cat : Defined) (was is : Bool) (old new : List (Lane S)) → AreAsked told failed old new
    → IsReady told (record { parts = record { ddl = ddl; lanes = old }; catalog = cat; broken = was }) → IsReady told (record { parts = record { ddl = ddl; lanes = new }; catalog = cat; broken = is })
ready_stays told failed ddl cat was is old new a r =
    let many = as_many told failed old new a in
    record {
      few = omega (arith, many, r.few);
      patterns = r.patterns;
      are_attached = attached_stay told failed cat old new a r.are_attached;
    }
