use Rattle.std.proofs.Common.{◌≡◌, drop}
use Rattle.vdb_session.specs.Lanes.{are_here}
use Rattle.vdb_session.proofs.names.are_here.Given as goal

abbrev pub invariant-loop-lane : goal.invariant-loop-lane
invariant-loop-lane g l = are_here g.S.Resource.told (drop l.lane-index l.lanes) ≡ are_here g.S.Resource.told l.fn.lanes
