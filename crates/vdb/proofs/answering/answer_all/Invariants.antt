use Rattle.std.proofs.Common.{◌≤◌, ◌-◌, length, true, None}
use Rattle.vdb_session.specs.Script.{statements_of, statements_from}
use Rattle.vdb.specs.Answering.{Answered}
use Rattle.vdb.proofs.answering.answer_all.Given as goal

-- the statements before this place are answered
abbrev pub invariant-statements : goal.invariant-statements
invariant-statements g l = record {
  in_range : l.from ≤ length l.script;
  answered : Answered g.S.Resource.told (statements_of l.script l.ended) (statements_from l.script l.ended l.from) l.fn.engine l.engine (g.O.Sink.told l.fn.out) (g.O.Sink.told l.out) true None l.seen;
}

abbrev pub decreases-statements : goal.decreases-statements
decreases-statements g l = length l.script - l.from
