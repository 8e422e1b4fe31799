-- What the resolver's walk gives over a well-formed catalog.
use Rattle.std.proofs.Common.{◌≡◌, Ok}
use Rattle.vdb_model.specs.declared.rel.Ranked.{Ranked}
use Rattle.vdb_model.specs.Defined.{Defined}
use Rattle.vdb_model.specs.WellFormed.{IsWellFormed}
use Rattle.sql_reader.specs.declared.tree.query.Query.{Query}
use Rattle.resolver.specs.Queries.{query_walk}
use Rattle.walk_laws.specs.Closed.{QueriesAreClosed}
use Rattle.walk_laws.specs.Typed.{QueriesAreTyped}
use Rattle.metadata.specs.Walked.{IsTypedQuery}

pub typed_walk : QueriesAreClosed → QueriesAreTyped → (cat : Defined) (q : Query) (query : Ranked) → IsWellFormed cat → query_walk cat q ≡ Ok query → IsTypedQuery cat query
typed_walk closed typed cat q query well is = record { closed = closed cat q query is; typed = typed cat well.placed q query is }
