use Rattle.metadata.proofs.TypedWalk.{typed_walk}
use Rattle.metadata.proofs.walked.ResolverViewWalk.walk_view.Goals as goal

pub returns-in-Ok-clause-typed : goal.returns-in-Ok-clause-typed
returns-in-Ok-clause-typed c = typed_walk c.queries_are_closed.ensures c.queries_are_typed.ensures c.args.cat.now c.args.query.now c.in-Ok.query c.is_well_formed.ensures c.in-Ok.ensures
