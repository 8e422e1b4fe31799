use Rattle.vdb_session.proofs.WholeTables.{asked_here}
use Rattle.vdb_session.proofs.fetching.ask.Goals as goal

pub returns-clause-asked : goal.returns-clause-asked
returns-clause-asked g c =
    let told = g.S.Resource.told in
    asked_here c.args.table.now (told c.args.lane.now.res) (told c.query.new.self) _ c.query.result c.in-Ok.ensures c.query.ensures.answer c.query.ensures.world c.query.ensures.leaves
