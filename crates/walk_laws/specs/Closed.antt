-- What a walk gives is closed over its catalog.
use Rattle.std.specs.Prelude.{◌≡◌, IsTrue, length, Some, Result, Ok}
use Rattle.vdb_model.specs.declared.rel.Ranked.{Ranked}
use Rattle.vdb_model.specs.declared.rel.Rel.{Rel}
use Rattle.vdb_model.specs.declared.reply.Refusal.{Refusal}
use Rattle.vdb_model.specs.declared.typed.Typed.{Typed}
use Rattle.vdb_model.specs.Closed.{reads_no_variable}
use Rattle.vdb_model.specs.Defined.{Defined}
use Rattle.vdb_model.specs.Sizes.{nodes_of, depth_of, is_within_size}
use Rattle.vdb_model.specs.Stacked.{names_first}
use Rattle.sql_reader.specs.declared.tree.query.Query.{Query}
use Rattle.sql_reader.specs.declared.tree.statement.Statement.{Statement}
use Rattle.resolver.specs.Queries.{query_walk}
use Rattle.resolver.specs.Statements.{resolved, sized_rel}

-- over a catalog: the relation names only views that are there, and reads no variable
pub record IsClosedOver (defined : Defined) (rel : Rel) : Type 0 where
  pub views : IsTrue (names_first (length defined.views) rel)
  pub closed : IsTrue (reads_no_variable rel)

-- whatever a walk of queries gives is closed over the catalog
abbrev pub ClosedQueries : (Defined → Query → Result Ranked Refusal) → Type 0
ClosedQueries walk = (defined : Defined) (q : Query) (r : Ranked) → walk defined q ≡ Ok r → IsClosedOver defined r.rel

abbrev pub QueriesAreClosed : Type 0
QueriesAreClosed = ClosedQueries query_walk

-- and so is the relation of each statement, and it is within the limits of size
abbrev pub StatementsAreClosed : Type 0
StatementsAreClosed = (defined : Defined) (s : Statement) (t : Typed) → resolved defined s ≡ Ok t → (rel : Rel) → sized_rel t ≡ Some rel
    → IsClosedOver defined rel × IsTrue (is_within_size (nodes_of defined.views rel) (depth_of defined.views rel))
