use Rattle.sql_tokens.proofs.Comments.{comment_ends}
use Rattle.sql_tokens.proofs.laws.comment_ends.Goals as goal

pub returns : goal.returns
returns c = comment_ends
