use Rattle.walk_laws.proofs.TypedUpdates.{statements_are_typed}
use Rattle.walk_laws.proofs.laws.statements_are_typed.Goals as goal

pub returns : goal.returns
returns c = statements_are_typed
