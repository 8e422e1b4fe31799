use Rattle.vdb_session.proofs.QueryWalks.{reads_query}
use Rattle.vdb_session.proofs.queries.read_query.Goals as goal

pub returns-in-Ok : goal.returns-in-Ok
returns-in-Ok c = reads_query c.args.cat.now c.args.base c.args.text.now c.in-Ok.statement c.query_of.result c.in-Ok.ensures.tree c.query_of.ensures
