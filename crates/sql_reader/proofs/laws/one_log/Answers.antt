use Rattle.sql_reader.proofs.OneLog.{statement_log, query_log}
use Rattle.sql_reader.proofs.laws.one_log.Goals as goal

pub returns-clause-statements : goal.returns-clause-statements
returns-clause-statements c = statement_log

pub returns-clause-queries : goal.returns-clause-queries
returns-clause-queries c = query_log
