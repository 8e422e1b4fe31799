use Rattle.std.proofs.Common.{◌≡◌, drop}
use Rattle.vdb_session.specs.Shown.{lane_from}
use Rattle.vdb_session.proofs.serving.lane_serving.Given as goal

abbrev pub invariant-loop-at : goal.invariant-loop-at
invariant-loop-at g l = lane_from l.at l.cat l.server (drop l.at l.lanes) ≡ lane_from 0 l.cat l.server l.lanes
