use Rattle.std.proofs.Common.{arith}
use Rattle.vdb_session.proofs.AnswerSays.{cleared_more}
use Rattle.vdb_session.proofs.answering.clear_lanes.Goals as goal

pub loop-lane-preserved : goal.loop-lane-preserved
loop-lane-preserved g c =
    cleared_more g.S.Resource.told c.loop-lane.lane-index _ c.loop-lane.lanes c.lane-item.result c.clear_lane.new.lane (omega (arith, c.loop-lane-test.true, c.loop-lane.auto.lanes)) c.loop-lane.invariant
    c.clear_lane.ensures.name c.clear_lane.ensures.kind c.clear_lane.ensures.told
