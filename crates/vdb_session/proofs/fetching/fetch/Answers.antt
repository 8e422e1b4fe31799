use Rattle.std.proofs.Common.{sym, subst}
use Rattle.vdb_session.specs.Fetching.{AreRows}
use Rattle.vdb_session.proofs.WholeTables.{no_lane}
use Rattle.vdb_session.proofs.fetching.fetch.Goals as goal

pub returns-in-None-clause-rows : goal.returns-in-None-clause-rows
returns-in-None-clause-rows g c =
    subst (AreRows g.S.Resource.told c.args.cat.now c.args.lanes.now c.args.table.now) (sym c.new.ensures)
    (no_lane g.S.Resource.told c.args.cat.now c.args.table.now c.args.lanes.now _ c.in-None.is (sym c.lane_serving.ensures.lane))
