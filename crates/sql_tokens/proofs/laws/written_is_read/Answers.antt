use Rattle.sql_tokens.proofs.Written.{written_is_read}
use Rattle.sql_tokens.proofs.laws.written_is_read.Goals as goal

pub returns : goal.returns
returns c = written_is_read
