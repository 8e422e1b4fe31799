use Rattle.std.proofs.Common.{◌≡◌, map, take}
use Rattle.vdb_session.specs.Starting.{connection}
use Rattle.vdb_session.proofs.start.connections.Given as goal

abbrev pub invariant-loop-lane : goal.invariant-loop-lane
invariant-loop-lane g l = l.conns ≡ map (connection g.S.Resource.told) (take l.lane-index l.lanes)
