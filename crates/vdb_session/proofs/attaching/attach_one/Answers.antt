use Rattle.vdb_session.proofs.StartSays.{refused_one}
use Rattle.vdb_session.proofs.attaching.attach_one.Goals as goal

pub returns-clause-attached : goal.returns-clause-attached
returns-clause-attached g c =
    let s = rw c.as_slice.ensures at c.start_fault.ensures in
    refused_one g.S.Resource.told g.S.Resource.images c.args.cat.now c.args.at c.args.lane.now (g.S.Resource.told c.attach.new.self) (g.S.Resource.images c.attach.new.self) c.attach.ensures.stops _ c.in-Err.fault c.start_fault.result c.in-Ok.ensures c.in-Err.ensures.answer c.in-Err.ensures.leaves s
