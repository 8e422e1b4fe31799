use Rattle.std.proofs.Common.{arith}
use Rattle.vdb_session.proofs.AttachedLanes.{attached_none, attached_more, attached_whole, attached_refused}
use Rattle.vdb_session.proofs.FitLanes.{take_here}
use Rattle.vdb_session.proofs.attaching.attach_lanes.Goals as goal

pub attach_one-requires-clause-take : goal.attach_one-requires-clause-take
attach_one-requires-clause-take g c = λ κs b.
    take_here g.S.Resource.told g.S.Resource.images c.args.cat.now c.loop-at.at c.args.lanes.now c.loop-at.lanes c.index-lanes-at.result (omega (arith, c.loop-at-test.true, c.loop-at.auto.lanes)) c.loop-at.invariant c.requires.take

pub loop-at-init : goal.loop-at-init
loop-at-init g c = attached_none g.S.Resource.told g.S.Resource.images c.args.cat.now c.args.lanes.now

pub loop-at-preserved : goal.loop-at-preserved
loop-at-preserved g c =
    attached_more g.S.Resource.told g.S.Resource.images c.args.cat.now c.loop-at.at c.args.lanes.now c.loop-at.lanes c.index-lanes-at.result c.attach_one.new.lane (omega (arith, c.loop-at-test.true, c.loop-at.auto.lanes))
    c.loop-at.invariant c.in-Ok.ensures.name c.in-Ok.ensures.kind c.in-Ok.ensures.attached

pub returns-clause-attached : goal.returns-clause-attached
returns-clause-attached g c =
    attached_whole g.S.Resource.told g.S.Resource.images c.args.cat.now c.loop-at.at c.args.lanes.now c.loop-at.lanes (omega (arith, c.loop-at-test.false, c.loop-at.auto.lanes)) c.loop-at.invariant

pub returns-in-Err-clause-stays : goal.returns-in-Err-clause-stays
returns-in-Err-clause-stays g c =
    (attached_refused g.S.Resource.told g.S.Resource.images c.args.cat.now c.loop-at.at c.args.lanes.now c.loop-at.lanes c.index-lanes-at.result c.attach_one.new.lane (omega (arith, c.loop-at-test.true, c.loop-at.auto.lanes))
    c.loop-at.invariant c.in-Err.ensures.name c.in-Err.ensures.kind c.in-Err.fault c.in-Err.ensures.attached).stays

pub returns-in-Err-clause-attached : goal.returns-in-Err-clause-attached
returns-in-Err-clause-attached g c =
    (attached_refused g.S.Resource.told g.S.Resource.images c.args.cat.now c.loop-at.at c.args.lanes.now c.loop-at.lanes c.index-lanes-at.result c.attach_one.new.lane (omega (arith, c.loop-at-test.true, c.loop-at.auto.lanes))
    c.loop-at.invariant c.in-Err.ensures.name c.in-Err.ensures.kind c.in-Err.fault c.in-Err.ensures.attached).why
