-- CREATE VIEW.
use Rattle.std.specs.Prelude.{ℕ, ◌+◌, Bool, true, not, ◌&&◌, ◌==◌, List, [], ◌∷◌, ◌++◌, length, slice_index_or, Option, Some, None, Result, Ok, Err}
use Rattle.std.specs.List.{list_any}
use Rattle.std.specs.Option.{is_some}
use Rattle.vdb_base.specs.declared.value.Ty.{Ty}
use Rattle.vdb_base.specs.declared.value.Ty.TheVariants.{Boolean}
use Rattle.vdb_model.specs.declared.catalog.ViewDef.{ViewDef}
use Rattle.vdb_model.specs.declared.rel.Ranked.{Ranked}
use Rattle.vdb_model.specs.declared.reply.DeployFault.{DeployFault}
use Rattle.vdb_model.specs.declared.reply.DeployFault.TheVariants.{WrongKind, Columns, Body}
use Rattle.vdb_model.specs.declared.reply.Refusal.{Refusal}
use Rattle.vdb_model.specs.declared.typed.VarDef.{VarDef}
use Rattle.vdb_model.specs.Chains.{chain_below}
use Rattle.vdb_model.specs.Defined.{Defined}
use Rattle.vdb_model.specs.Defs.{same_name}
use Rattle.vdb_model.specs.RefusalText.{refusal_number}
use Rattle.vdb_model.specs.Sizes.{nodes_of, depth_of}
use Rattle.vdb_model.specs.Typed.{goes_into}
use Rattle.sql_reader.specs.declared.tree.name.Name.{Name}
use Rattle.sql_reader.specs.declared.tree.query.Query.{Query}
use Rattle.vdb_ddl.specs.declared.tree.Setting.{Setting}
use Rattle.vdb_ddl.specs.declared.tree.ViewColumn.{ViewColumn}
use Rattle.metadata.specs.declared.options.Owner.TheVariants as owner
use Rattle.metadata.specs.Options.{refused_option, is_updatable}
use Rattle.metadata.specs.declared.so_far.SoFar.{SoFar}
use Rattle.metadata.specs.SoFar.{schema_set, relation_text, no_schema, relation_taken, too_many, too_many_relations, bad_column_count, bad_name}
use Rattle.metadata.specs.Tests.{Test, fails_if, first, unless, next}
use Rattle.metadata.specs.Types.{unknown_type, fractional_type, type_of}

-- the list of columns, empty where none is written
abbrev pub list_of : Option (List ViewColumn) → List ViewColumn
list_of None = []
list_of (Some columns) = columns

abbrev pub if_typed : (Name → Test) → Option Name → Test
if_typed test None = None
if_typed test (Some ty) = test ty

-- 33, 34: the first type of the list that a test refuses
abbrev pub type_in : (Name → Test) → List ViewColumn → Test
type_in test [] = None
type_in test (column ∷ columns) = first (if_typed test column.ty ∷ type_in test columns ∷ [])

-- 37: a view in a schema that isn't virtual
abbrev pub not_virtual : SoFar → Name → Test
not_virtual s name = fails_if (is_some (schema_set s).server) (WrongKind (relation_text s name))

-- 44: the query that the walk of the view's query gives, or that it is refused
abbrev pub walked : SoFar → Name → Result Ranked Refusal → Result Ranked DeployFault
walked s name (Ok query) = Ok query
walked s name (Err refusal) = Err (Body (relation_text s name) (refusal_number refusal))

-- the type of a column of the query
abbrev pub type_at : List Ty → ℕ → Ty
type_at tys at = slice_index_or tys at Boolean

-- a column has the listed type, and else its own
abbrev pub declared : Option Name → Ty → Ty
declared None own = own
declared (Some ty) own = type_of ty

-- the query's columns, from a place on
abbrev pub named_columns : ℕ → List Ty → List (List ℕ) → List VarDef
named_columns at tys [] = []
named_columns at tys (name ∷ names) = record { name = name; ty = type_at tys at } ∷ named_columns (at + 1) tys names

-- the listed columns, from a place on
abbrev pub listed_columns : ℕ → List Ty → List ViewColumn → List VarDef
listed_columns at tys [] = []
listed_columns at tys (column ∷ columns) = record { name = column.name.text; ty = declared column.ty (type_at tys at) } ∷ listed_columns (at + 1) tys columns

-- the columns of a view: those of the list where one is written, and else those of its query
abbrev pub view_columns : Option (List ViewColumn) → Ranked → List VarDef
view_columns None query = named_columns 0 query.tys query.names
view_columns (Some columns) query = listed_columns 0 query.tys columns

abbrev pub is_named : List ℕ → VarDef → Bool
is_named name column = same_name name column.name

abbrev pub are_apart : List VarDef → Bool
are_apart [] = true
are_apart (column ∷ columns) = not (list_any (is_named column.name) columns) && are_apart columns

-- each listed type, from a place on, is the column's or a wider number
abbrev pub are_listed : ℕ → List Ty → List ViewColumn → Bool
are_listed at tys [] = true
are_listed at tys (column ∷ columns) = goes_into (type_at tys at) (declared column.ty (type_at tys at)) && are_listed (at + 1) tys columns

-- a list has as many columns as the query, of its types or wider ones
abbrev pub fits_list : Option (List ViewColumn) → List Ty → Bool
fits_list None tys = true
fits_list (Some columns) tys = length columns == length tys && are_listed 0 tys columns

-- 38: columns of one name, or a list that doesn't go with the query
abbrev pub bad_columns : SoFar → Name → Option (List ViewColumn) → Ranked → Test
bad_columns s name columns query = fails_if (not (fits_list columns query.tys && are_apart (view_columns columns query))) (Columns (relation_text s name))

-- 39: the first name of a column that isn't of 1 to 64 bytes
abbrev pub badly_named_in : List VarDef → Test
badly_named_in [] = None
badly_named_in (column ∷ columns) = first (bad_name column.name ∷ badly_named_in columns ∷ [])

-- how many views stand over one another from this one on, which is one more than the longest chain below it
abbrev pub chain_of : SoFar → Ranked → ℕ
chain_of s query = chain_below s.chains query.rel + 1

-- 39: at most 16 views over one another, 4,096 nodes, and a depth of 512

abbrev pub too_long_a_chain : SoFar → Name → Ranked → Test
too_long_a_chain s name query = too_many 16 (chain_of s query) (relation_text s name)

abbrev pub too_many_nodes : SoFar → Name → Ranked → Test
too_many_nodes s name query = too_many 4096 (nodes_of s.catalog.views query.rel) (relation_text s name)

abbrev pub too_deep : SoFar → Name → Ranked → Test
too_deep s name query = too_many 512 (depth_of s.catalog.views query.rel) (relation_text s name)

-- before the query is walked
abbrev pub view_tests : SoFar → Name → Option (List ViewColumn) → List Setting → List Test
view_tests s name columns options =
    no_schema s name  -- 33
    ∷ type_in unknown_type (list_of columns)  -- 33
    ∷ not_virtual s name  -- 37
    ∷ relation_taken s name  -- 32
    ∷ type_in fractional_type (list_of columns)  -- 34
    ∷ refused_option owner.View options  -- 35
    ∷ []

-- of the query that the walk gives
abbrev pub query_tests : SoFar → Name → Option (List ViewColumn) → Ranked → List Test
query_tests s name columns query =
    bad_columns s name columns query  -- 38
    ∷ too_many_relations s name  -- 39
    ∷ bad_column_count s name (length (view_columns columns query))  -- 39
    ∷ bad_name name.text  -- 39
    ∷ badly_named_in (view_columns columns query)  -- 39
    ∷ too_long_a_chain s name query  -- 39
    ∷ too_many_nodes s name query  -- 39
    ∷ too_deep s name query  -- 39
    ∷ []

abbrev pub view_of : SoFar → Name → Option (List ViewColumn) → List Setting → Ranked → ViewDef
view_of s name columns options query = record {
  name = name.text;
  schema = (schema_set s).name;
  columns = view_columns columns query;
  rel = query.rel;
  nodes = nodes_of s.catalog.views query.rel;
  depth = depth_of s.catalog.views query.rel;
  updatable = is_updatable options;
}

abbrev pub with_view : SoFar → ViewDef → ℕ → SoFar
with_view s view chain = record s {
  catalog = record s.catalog { views = s.catalog.views ++ view ∷ [] };
  chains = s.chains ++ chain ∷ [];
}

abbrev pub view_over : SoFar → Name → Option (List ViewColumn) → List Setting → Ranked → Result SoFar DeployFault
view_over s name columns options query =
    next (unless (query_tests s name columns query) (view_of s name columns options query)) (λ view. Ok (with_view s view (chain_of s query)))

-- the typed query of a view over what is defined, or the first refusal that its walk meets
abbrev pub Walk : Type 0
Walk = Defined → Query → Result Ranked Refusal

abbrev pub create_view : Walk → SoFar → Name → Option (List ViewColumn) → List Setting → Query → Result SoFar DeployFault
create_view walk s name columns options query =
    next (unless (view_tests s name columns options) query) (λ query.
    next (walked s name (walk s.catalog query)) (λ query. view_over s name columns options query))  -- 44
