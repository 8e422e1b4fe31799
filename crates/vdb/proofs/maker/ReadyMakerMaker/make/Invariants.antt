use Rattle.std.proofs.Common.{◌≡◌, ◌&&◌, drop}
use Rattle.vdb_session.specs.Lanes.{are_here}
use Rattle.vdb.proofs.maker.ReadyMakerMaker.make.Given as goal

-- none of the lanes so far is lost, where that still matters
abbrev pub invariant-loop-lane : goal.invariant-loop-lane
invariant-loop-lane g l = (l.here && are_here g.T.Resource.told (drop l.lane-index l.lane-items)) ≡ are_here g.T.Resource.told l.lane-items
