use Rattle.walk_laws.proofs.ClosedStatements.{queries_are_closed}
use Rattle.walk_laws.proofs.laws.queries_are_closed.Goals as goal

pub returns : goal.returns
returns c = queries_are_closed
