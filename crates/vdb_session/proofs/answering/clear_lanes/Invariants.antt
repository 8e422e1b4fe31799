use Rattle.std.proofs.Common.{None}
use Rattle.vdb_session.specs.Lanes.{AreAsked}
use Rattle.vdb_session.proofs.answering.clear_lanes.Given as goal

abbrev pub invariant-loop-lane : goal.invariant-loop-lane
invariant-loop-lane g l = AreAsked g.S.Resource.told None l.fn.lanes l.lanes
