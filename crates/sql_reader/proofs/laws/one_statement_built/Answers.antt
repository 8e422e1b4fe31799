use Rattle.sql_reader.proofs.Built.{one_statement_built}
use Rattle.sql_reader.proofs.laws.one_statement_built.Goals as goal

pub returns : goal.returns
returns c = one_statement_built
