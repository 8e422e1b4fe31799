use Rattle.vdb_session.proofs.AttachedLanes.{AttachedUpTo}
use Rattle.vdb_session.proofs.attaching.attach_lanes.Given as goal

abbrev pub invariant-loop-at : goal.invariant-loop-at
invariant-loop-at g l = AttachedUpTo g.S.Resource.told g.S.Resource.images l.cat l.at l.fn.lanes l.lanes
