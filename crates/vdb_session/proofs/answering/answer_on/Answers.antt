use Rattle.vdb_session.proofs.AnswerSays.{answer_of}
use Rattle.vdb_session.proofs.ServedLanes.{attached_stay}
use Rattle.vdb_session.proofs.answering.answer_on.Goals as goal

pub rows_answer-requires-clause-attached : goal.rows_answer-requires-clause-attached
rows_answer-requires-clause-attached g c = λ κs b. attached_stay g.S.Resource.told _ c.args.cat.now c.args.lanes.now c.clear_lanes.new.lanes c.clear_lanes.ensures c.requires.attached

pub returns-in-Ok-clause-answer : goal.returns-in-Ok-clause-answer
returns-in-Ok-clause-answer g c =
    answer_of g.S.Resource.told c.args.cat.now (record { at = c.args.base; text = c.args.text.now }) c.in-Ok.query c.args.lanes.now c.clear_lanes.new.lanes c.rows_answer.new.lanes c.rows_answer.result
    c.in-Ok.ensures c.clear_lanes.ensures c.rows_answer.ensures.asked c.rows_answer.ensures.answer
