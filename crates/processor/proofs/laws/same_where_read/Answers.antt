use Rattle.processor.proofs.SameWhereRead.{same_where_read}
use Rattle.processor.proofs.laws.same_where_read.Goals as goal

pub returns : goal.returns
returns c = same_where_read
