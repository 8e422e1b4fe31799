use Rattle.walk_laws.proofs.ClosedStatements.{statements_are_closed}
use Rattle.walk_laws.proofs.laws.statements_are_closed.Goals as goal

pub returns : goal.returns
returns c = statements_are_closed
