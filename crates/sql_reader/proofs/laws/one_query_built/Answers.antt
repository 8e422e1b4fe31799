use Rattle.sql_reader.proofs.Built.{one_query_built}
use Rattle.sql_reader.proofs.laws.one_query_built.Goals as goal

pub returns : goal.returns
returns c = one_query_built
