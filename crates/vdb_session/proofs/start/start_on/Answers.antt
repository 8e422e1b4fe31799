use Rattle.vdb_session.proofs.FitLanes.{lanes_take}
use Rattle.vdb_session.proofs.start.start_on.Goals as goal

pub attach_lanes-requires-clause-take : goal.attach_lanes-requires-clause-take
attach_lanes-requires-clause-take g c = λ κs b.
    lanes_take g.S.Resource.told c.args.ddl.now c.args.lanes.now c.in-Ok.catalog c.deployed_is_over.ensures c.requires.apart c.requires.here c.is_well_formed.ensures c.in-Ok.ensures
