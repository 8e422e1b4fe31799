-- The item that a derivation's actions build.
use Rattle.std.specs.Prelude.{ℕ, Bool, true, false, List, [], ◌∷◌, ◌++◌, ◌-◌, nat_lt, if◌then◌else◌, reverse, slice_index_or, Option, Some, None}
use Rattle.grammar.specs.declared.machine.Event.{Event}
use Rattle.sql_reader.specs.Build as sql
use Rattle.sql_reader.specs.Source.{Source}
use Rattle.sql_reader.specs.Waiting.{rest, made, made2, made3, put, put2}
use Rattle.sql_reader.specs.declared.tree.expr.Literal.{Literal}
use Rattle.sql_reader.specs.declared.tree.name.Name.{Name}
use Rattle.sql_reader.specs.declared.tree.query.Query.{Query}
use Rattle.vdb_ddl.specs.declared.build.Action.{Action}
use Rattle.vdb_ddl.specs.declared.build.Action.TheVariants as action
use Rattle.vdb_ddl.specs.declared.parts.Parts.{Parts}
use Rattle.vdb_ddl.specs.declared.tree.Item.{Item}
use Rattle.vdb_ddl.specs.declared.tree.Item.TheVariants as item
use Rattle.vdb_ddl.specs.declared.tree.Setting.{Setting}
use Rattle.vdb_ddl.specs.declared.tree.TablePart.{TablePart}
use Rattle.vdb_ddl.specs.declared.tree.TablePart.TheVariants as part
use Rattle.vdb_ddl.specs.declared.tree.ViewColumn.{ViewColumn}
use Rattle.vdb_ddl.specs.Actions.{actions}
use Rattle.vdb_ddl.specs.Symbols.{FIRST_DDL_ACTION}
use Rattle.vdb_ddl.specs.Waiting.{Waiting, made_with_two, made4, put_with_two}

abbrev pub setting : Name → Literal → List Setting → List Setting
setting name value settings = settings ++ record { name = name; value = value } ∷ []

abbrev pub column : Bool → List Setting → Name → Name → List TablePart → List TablePart
column not_null options name ty parts = parts ++ part.Column name ty not_null options ∷ []

abbrev pub primary_key : List Name → List TablePart → List TablePart
primary_key columns parts = parts ++ part.PrimaryKey columns ∷ []

abbrev pub typed_column : List Setting → Name → Name → List ViewColumn → List ViewColumn
typed_column options name ty columns = columns ++ record { name = name; ty = Some ty; options = options } ∷ []

abbrev pub untyped_column : Name → List Setting → List ViewColumn → List ViewColumn
untyped_column name options columns = columns ++ record { name = name; ty = None; options = options } ∷ []

abbrev pub create_database : Name → List Setting → Item
create_database name options = item.CreateDatabase name options

abbrev pub use_database : Name → Item
use_database name = item.UseDatabase name

abbrev pub create_server : List Setting → Name → Name → Item
create_server options name wrapper = item.CreateServer name wrapper options

abbrev pub create_schema : List Setting → Name → Name → Item
create_schema options name server = item.CreateSchema name server options

abbrev pub create_virtual_schema : Name → List Setting → Item
create_virtual_schema name options = item.CreateVirtualSchema name options

abbrev pub set_schema : Name → Item
set_schema name = item.SetSchema name

abbrev pub create_table : Name → List TablePart → List Setting → Item
create_table name parts options = item.CreateTable name parts options

abbrev pub create_view : Option (List ViewColumn) → Name → List Setting → Query → Item
create_view columns name options query = item.CreateView name columns options query

abbrev pub create_view_columns : List ViewColumn → Name → List Setting → Query → Item
create_view_columns columns = create_view (Some columns)

-- an action of items
abbrev pub item_on : Action → Waiting → Waiting
item_on action.Nothing w = w
item_on action.Options w = record w { settings = [] ∷ w.settings }
item_on action.Setting w = record w { sql = record w.sql { names = rest w.sql.names; literals = rest w.sql.literals }; settings = put2 setting w.sql.names w.sql.literals w.settings }
item_on action.CreateDatabase w = record w { sql = record w.sql { names = rest w.sql.names }; settings = rest w.settings; items = made2 create_database w.sql.names w.settings w.items }
item_on action.UseDatabase w = record w { sql = record w.sql { names = rest w.sql.names }; items = made use_database w.sql.names w.items }
item_on action.CreateServer w = record w { sql = record w.sql { names = rest (rest w.sql.names) }; settings = rest w.settings; items = made_with_two create_server w.settings w.sql.names w.items }
item_on action.CreateSchema w = record w { sql = record w.sql { names = rest (rest w.sql.names) }; settings = rest w.settings; items = made_with_two create_schema w.settings w.sql.names w.items }
item_on action.CreateVirtualSchema w = record w { sql = record w.sql { names = rest w.sql.names }; settings = rest w.settings; items = made2 create_virtual_schema w.sql.names w.settings w.items }
item_on action.SetSchema w = record w { sql = record w.sql { names = rest w.sql.names }; items = made set_schema w.sql.names w.items }
item_on action.TableParts w = record w { table_parts = [] ∷ w.table_parts }
item_on action.Column w = record w { sql = record w.sql { names = rest (rest w.sql.names) }; settings = rest w.settings; table_parts = put_with_two (column false) w.settings w.sql.names w.table_parts }
item_on action.RequiredColumn w = record w { sql = record w.sql { names = rest (rest w.sql.names) }; settings = rest w.settings; table_parts = put_with_two (column true) w.settings w.sql.names w.table_parts }
item_on action.PrimaryKey w = record w { sql = record w.sql { name_lists = rest w.sql.name_lists }; table_parts = put primary_key w.sql.name_lists w.table_parts }
item_on action.CreateTable w = record w { sql = record w.sql { names = rest w.sql.names }; settings = rest w.settings; table_parts = rest w.table_parts; items = made3 create_table w.sql.names w.table_parts w.settings w.items }
item_on action.ViewColumns w = record w { view_columns = [] ∷ w.view_columns }
item_on action.TypedColumn w = record w { sql = record w.sql { names = rest (rest w.sql.names) }; settings = rest w.settings; view_columns = put_with_two typed_column w.settings w.sql.names w.view_columns }
item_on action.UntypedColumn w = record w { sql = record w.sql { names = rest w.sql.names }; settings = rest w.settings; view_columns = put2 untyped_column w.sql.names w.settings w.view_columns }
item_on action.CreateView w = record w { sql = record w.sql { names = rest w.sql.names; queries = rest w.sql.queries }; settings = rest w.settings; items = made3 (create_view None) w.sql.names w.settings w.sql.queries w.items }
item_on action.CreateViewColumns w = record w { sql = record w.sql { names = rest w.sql.names; queries = rest w.sql.queries }; settings = rest w.settings; view_columns = rest w.view_columns; items = made4 create_view_columns w.view_columns w.sql.names w.settings w.sql.queries w.items }

abbrev pub action_of : ℕ → Action
action_of n = slice_index_or actions (n - FIRST_DDL_ACTION) action.Nothing

-- an action by its number, after so many tokens: one of statements or of items
abbrev pub act_on : Source → ℕ → ℕ → Waiting → Waiting
act_on s at n w = if nat_lt n FIRST_DDL_ACTION then record w { sql = sql.act_on s at (sql.action_of n) w.sql } else item_on (action_of n) w

-- the actions in turn
abbrev pub build : Source → List Event → Waiting → Waiting
build s [] w = w
build s (e ∷ es) w = build s es (act_on s e.at e.action w)

-- what a builder has
abbrev pub waiting : Parts → Waiting
waiting p = record { sql = sql.waiting p.sql; settings = reverse p.settings.items; table_parts = reverse p.table_parts.items; view_columns = reverse p.view_columns.items; items = reverse p.items.items }
