-- What the walk of a query gives is typed over its catalog.
use Rattle.std.specs.Prelude.{◌≡◌, ℕ, Bool, true, ◌&&◌, nat_lt, List, [], ◌∷◌, length, IsTrue, Ok}
use Rattle.vdb_base.specs.declared.value.Ty.{Ty}
use Rattle.vdb_model.specs.declared.rel.Key.{Key}
use Rattle.vdb_model.specs.declared.rel.Ranked.{Ranked}
use Rattle.vdb_model.specs.declared.rel.Rel.{Rel}
use Rattle.vdb_model.specs.Columns.{Columns, columns_of}
use Rattle.vdb_model.specs.Defined.{Defined}
use Rattle.vdb_model.specs.WellFormed.{are_placed, table_types, view_types}
use Rattle.sql_reader.specs.declared.tree.query.Query.{Query}
use Rattle.resolver.specs.Queries.{query_walk}

-- the columns of a relation over the tables and views of a catalog, without variables
abbrev pub columns_over : Defined → Rel → Columns
columns_over defined = columns_of (table_types defined.tables) (view_types defined.views) []

-- columns of these types
pub record AreOf (columns : Columns) (ts : List Ty) : Type 0 where
  pub width : columns.width ≡ length ts
  pub have : IsTrue (columns.have ts)

-- each key is one of so many columns
abbrev pub keys_below : ℕ → List Key → Bool
keys_below count [] = true
keys_below count (key ∷ keys) = nat_lt key.column count && keys_below count keys

-- The columns of the query's relation have its types; each has a name, and its keys are columns of it.
pub record IsTypedOver (defined : Defined) (r : Ranked) : Type 0 where
  pub columns : AreOf (columns_over defined r.rel) r.tys
  pub names : length r.names ≡ length r.tys
  pub keys : IsTrue (keys_below (length r.tys) r.keys)

-- whatever the walk of queries gives is typed over the catalog, where each table's number is its place
abbrev pub QueriesAreTyped : Type 0
QueriesAreTyped = (defined : Defined) → IsTrue (are_placed 0 defined.tables) → (q : Query) (r : Ranked) → query_walk defined q ≡ Ok r → IsTypedOver defined r
