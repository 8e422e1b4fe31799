use Rattle.std.proofs.Common.{true, false, arith}
use Rattle.vdb_session.specs.Script.{statements_of, statements_from}
use Rattle.vdb.specs.Answering.{noted}
use Rattle.vdb.proofs.AnswerSteps.{answered_none, answered_more}
use Rattle.vdb.proofs.Statements.{one_more, no_more}
use Rattle.vdb.proofs.answering.answer_all.Goals as goal

pub statements-init : goal.statements-init
statements-init g c = record {
  in_range = omega arith;
  answered = answered_none g.S.Resource.told _ _ _;
}

pub returns-in-SinkFailed : goal.returns-in-SinkFailed
returns-in-SinkFailed g c =
    let told = g.S.Resource.told in
    let script = c.args.script.now in
    let found = c.in-Statement in
    let first = one_more script c.args.ended c.statements.from found.start found.end found.next c.statements.invariant.in_range found.ensures.found in
    let before = rw first at c.statements.invariant.answered in
    let step = rw c.piece.ensures at c.in-SinkFailed.ensures in (
      statements_from script c.args.ended found.next,
      noted c.statements.seen step.0,
      answered_more told (statements_of script c.args.ended) _ _ _ _ _ _ _ _ false c.statements.seen step.0 before step.1,
    )

pub statements-preserved : goal.statements-preserved
statements-preserved g c =
    let told = g.S.Resource.told in
    let script = c.args.script.now in
    let found = c.in-Statement in
    let first = one_more script c.args.ended c.statements.from found.start found.end found.next c.statements.invariant.in_range found.ensures.found in
    let before = rw first at c.statements.invariant.answered in
    let step = rw c.piece.ensures at c.in-Answered.ensures in
    record {
      in_range = found.ensures.forth.within;
      answered = rw step.2 (answered_more told (statements_of script c.args.ended) _ _ _ _ _ _ _ _ true c.statements.seen step.0 before step.1);
    }

pub returns : goal.returns
returns g c =
    let none = no_more c.args.script.now c.args.ended c.statements.from c.next_statement.result c.next_statement.ensures.found c.in_default.not-Statement in
    rw none at c.statements.invariant.answered
