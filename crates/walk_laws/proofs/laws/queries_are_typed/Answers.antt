use Rattle.walk_laws.proofs.TypedQueries.{queries_are_typed}
use Rattle.walk_laws.proofs.laws.queries_are_typed.Goals as goal

pub returns : goal.returns
returns c = queries_are_typed
