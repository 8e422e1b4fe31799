-- A well-formed catalog. Blocks aren't spoken of: no item makes a procedure or a trigger yet.
use Rattle.std.specs.Prelude.{ℕ, ◌+◌, Bool, true, false, ◌&&◌, ◌==◌, nat_le, nat_lt, if◌then◌else◌, List, [], ◌∷◌, ◌++◌, length, Option, Some, None, IsTrue}
use Rattle.std.specs.List.{list_any, list_all}
use Rattle.vdb_base.specs.declared.value.Ty.{Ty}
use Rattle.vdb_model.specs.declared.catalog.SchemaDef.{SchemaDef}
use Rattle.vdb_model.specs.declared.catalog.ServerDef.{ServerDef}
use Rattle.vdb_model.specs.declared.catalog.ViewDef.{ViewDef}
use Rattle.vdb_model.specs.declared.table.ColumnDef.{ColumnDef}
use Rattle.vdb_model.specs.declared.table.TableDef.{TableDef}
use Rattle.vdb_model.specs.declared.typed.VarDef.{VarDef}
use Rattle.vdb_model.specs.Chains.{chain_of}
use Rattle.vdb_model.specs.Columns.{columns_of, some_types, all_go_into}
use Rattle.vdb_model.specs.Defined.{Defined}
use Rattle.vdb_model.specs.Defs.{are_fit, same_name}
use Rattle.vdb_model.specs.Sizes.{is_within_size}
use Rattle.vdb_model.specs.Stacked.{are_stacked}
use Rattle.vdb_model.specs.Asking.{types_of}

-- each table's number is its place, counted on from here
abbrev pub are_placed : ℕ → List TableDef → Bool
are_placed n [] = true
are_placed n (d ∷ ds) = d.number == n && are_placed (n + 1) ds

abbrev pub is_below : ℕ → Option ℕ → Bool
is_below count None = true
is_below count (Some n) = nat_lt n count

-- a schema's server is there; a virtual schema has none
abbrev pub names_server : ℕ → SchemaDef → Bool
names_server servers schema = is_below servers schema.server

abbrev pub is_server : Option ℕ → Option ℕ → Bool
is_server None None = true
is_server None (Some n) = false
is_server (Some m) None = false
is_server (Some m) (Some n) = m == n

abbrev pub is_schema_of : Option ℕ → List ℕ → SchemaDef → Bool
is_schema_of server name schema = same_name schema.name name && is_server server schema.server

-- a table stands in a schema of its server, and a view in a virtual one
abbrev pub stands_in_schema : List SchemaDef → Option ℕ → List ℕ → Bool
stands_in_schema schemas server name = list_any (is_schema_of server name) schemas

abbrev pub tables_stand : List SchemaDef → List TableDef → Bool
tables_stand schemas [] = true
tables_stand schemas (d ∷ ds) = stands_in_schema schemas (Some d.server) d.schema && tables_stand schemas ds

abbrev pub views_stand : List SchemaDef → List ViewDef → Bool
views_stand schemas [] = true
views_stand schemas (d ∷ ds) = stands_in_schema schemas None d.schema && views_stand schemas ds

-- the tables of a server
abbrev pub tables_on : ℕ → List TableDef → List TableDef
tables_on server [] = []
tables_on server (d ∷ ds) = if d.server == server then d ∷ tables_on server ds else tables_on server ds

-- the tables of each server, counted on from here, are fit for its capabilities
abbrev pub all_fit_on : ℕ → List ServerDef → List TableDef → Bool
all_fit_on n [] tables = true
all_fit_on n (server ∷ servers) tables = are_fit server.caps (tables_on n tables) && all_fit_on (n + 1) servers tables

abbrev pub table_types : List TableDef → List (List Ty)
table_types [] = []
table_types (d ∷ ds) = types_of d.columns ∷ table_types ds

abbrev pub variable_types : List VarDef → List Ty
variable_types [] = []
variable_types (v ∷ vs) = v.ty ∷ variable_types vs

abbrev pub view_types : List ViewDef → List (List Ty)
view_types [] = []
view_types (d ∷ ds) = variable_types d.columns ∷ view_types ds

-- the view's relation is typed, and each declared type is its column's or a wider number
abbrev pub is_typed_over : List TableDef → List ViewDef → ViewDef → Bool
is_typed_over tables before view = let columns = columns_of (table_types tables) (view_types before) [] view.rel in
    some_types columns.width (λ own. columns.have own && all_go_into own (variable_types view.columns))

-- each view of the list over those before it
abbrev pub are_typed_on : List TableDef → List ViewDef → List ViewDef → Bool
are_typed_on tables before [] = true
are_typed_on tables before (view ∷ views) = is_typed_over tables before view && are_typed_on tables (before ++ view ∷ []) views

-- a name has 1 to 64 bytes
abbrev pub is_name : List ℕ → Bool
is_name name = nat_le 1 (length name) && nat_le (length name) 64

-- a view has at most 256 columns, 4,096 nodes, a depth of 512 and 16 views over one another
abbrev pub are_limited_on : List ViewDef → List ViewDef → Bool
are_limited_on before [] = true
are_limited_on before (view ∷ views) = nat_le (length view.columns) 256 && is_within_size view.nodes view.depth && nat_le (chain_of before view.rel) 16 && are_limited_on (before ++ view ∷ []) views

-- at most 64 servers, 64 schemas, 1,024 relations and 256 procedures; that a table has at most 256 columns is part of being fit
abbrev pub is_limited : Defined → Bool
is_limited cat = nat_le (length cat.servers) 64 && nat_le (length cat.schemas) 64 && nat_le (length cat.tables + length cat.views) 1024
    && nat_le (length cat.procedures) 256 && are_limited_on [] cat.views

abbrev pub is_named_server : ServerDef → Bool
is_named_server server = is_name server.name

abbrev pub is_named_schema : SchemaDef → Bool
is_named_schema schema = is_name schema.name

abbrev pub is_named_column : ColumnDef → Bool
is_named_column column = is_name column.name

abbrev pub is_named_table : TableDef → Bool
is_named_table table = is_name table.name && list_all is_named_column table.columns

abbrev pub is_named_variable : VarDef → Bool
is_named_variable variable = is_name variable.name

abbrev pub is_named_view : ViewDef → Bool
is_named_view view = is_name view.name && list_all is_named_variable view.columns

abbrev pub are_named : Defined → Bool
are_named cat = list_all is_named_server cat.servers && list_all is_named_schema cat.schemas && list_all is_named_table cat.tables && list_all is_named_view cat.views

-- Each definition names only definitions before it, a table's number is its place, the tables of each server are fit for its
-- capabilities, views are typed and count what is kept of them, and the limits hold.
pub record IsWellFormed (cat : Defined) : Type 0 where
  pub schemas : IsTrue (list_all (names_server (length cat.servers)) cat.schemas)
  pub tables : IsTrue (tables_stand cat.schemas cat.tables)
  pub views : IsTrue (views_stand cat.schemas cat.views)
  pub placed : IsTrue (are_placed 0 cat.tables)
  pub fit : IsTrue (all_fit_on 0 cat.servers cat.tables)
  pub stacked : IsTrue (are_stacked cat.views)
  pub typed : IsTrue (are_typed_on cat.tables [] cat.views)
  pub named : IsTrue (are_named cat)
  pub limited : IsTrue (is_limited cat)
