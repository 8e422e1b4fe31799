-- What is built of selects, tables and queries.
use Rattle.std.specs.Prelude.{ℕ, Bool, true, false, List, [], ◌∷◌, ◌++◌, Option, Some, None}
use Rattle.sql_reader.specs.declared.build.QueryAction.{QueryAction}
use Rattle.sql_reader.specs.declared.build.QueryAction.TheVariants as action
use Rattle.sql_reader.specs.declared.tree.expr.Expr.{Expr}
use Rattle.sql_reader.specs.declared.tree.expr.Literal.{Literal}
use Rattle.sql_reader.specs.declared.tree.name.ColumnName.{ColumnName}
use Rattle.sql_reader.specs.declared.tree.name.Name.{Name}
use Rattle.sql_reader.specs.declared.tree.name.RelationName.{RelationName}
use Rattle.sql_reader.specs.declared.tree.query.JoinKind.{JoinKind}
use Rattle.sql_reader.specs.declared.tree.query.JoinKind.TheVariants.{Inner, Left, Cross}
use Rattle.sql_reader.specs.declared.tree.query.KeyTarget.{KeyTarget}
use Rattle.sql_reader.specs.declared.tree.query.KeyTarget.TheVariants as target
use Rattle.sql_reader.specs.declared.tree.query.Query.{Query}
use Rattle.sql_reader.specs.declared.tree.query.Select.{Select}
use Rattle.sql_reader.specs.declared.tree.query.SelectItem.{SelectItem}
use Rattle.sql_reader.specs.declared.tree.query.SelectItem.TheVariants as item
use Rattle.sql_reader.specs.declared.tree.query.SetQuery.{SetQuery}
use Rattle.sql_reader.specs.declared.tree.query.SetQuery.TheVariants as set
use Rattle.sql_reader.specs.declared.tree.query.TableRef.TheVariants.{Named, Derived, Joined}
use Rattle.sql_reader.specs.declared.tree.query.TableRef.{TableRef}
use Rattle.sql_reader.specs.Source.{Source, place_at}
use Rattle.sql_reader.specs.Waiting.{Waiting, rest, on, made, made2, put, put2, joined, with}

-- a select of which SELECT alone is read
abbrev pub bare_select : ℕ → Select
bare_select at = record { distinct = false; items = []; from = []; condition = None; group = []; having = None; at = at }

abbrev pub distinct : Select → Select
distinct s = record s { distinct = true }

abbrev pub add_item : SelectItem → Select → Select
add_item i s = record s { items = s.items ++ i ∷ [] }

abbrev pub all_of : Name → Select → Select
all_of relation = add_item (item.AllOf relation)

abbrev pub plain_item : Expr → Select → Select
plain_item e = add_item (item.Expr e None)

abbrev pub named_item : Name → Expr → Select → Select
named_item name e = add_item (item.Expr e (Some name))

abbrev pub from : TableRef → Select → Select
from t s = record s { from = s.from ++ t ∷ [] }

abbrev pub where_true : Expr → Select → Select
where_true e s = record s { condition = Some e }

abbrev pub group_by : ColumnName → Select → Select
group_by column s = record s { group = s.group ++ column ∷ [] }

abbrev pub having_true : Expr → Select → Select
having_true e s = record s { having = Some e }

abbrev pub one_select : Select → SetQuery
one_select s = set.Select s

abbrev pub union : Bool → Select → SetQuery → SetQuery
union all right left = set.Union left all right

abbrev pub table : RelationName → TableRef
table relation = Named relation None

abbrev pub table_as : RelationName → Name → TableRef
table_as relation alias = Named relation (Some alias)

abbrev pub derived : SetQuery → Name → TableRef
derived query alias = Derived query alias

abbrev pub joined_tables : JoinKind → TableRef → TableRef → TableRef
joined_tables kind left right = Joined left right kind

abbrev pub query : SetQuery → Query
query q = record { set = q; keys = []; limit = None; offset = None }

abbrev pub order_by : Bool → KeyTarget → Query → Query
order_by descending t q = record q { keys = q.keys ++ record { target = t; descending = descending } ∷ [] }

abbrev pub key_name : Bool → Name → Query → Query
key_name descending name = order_by descending (target.Name name)

abbrev pub key_number : Bool → Literal → Query → Query
key_number descending number = order_by descending (target.Number number)

abbrev pub limit : Literal → Query → Query
limit number q = record q { limit = Some number }

abbrev pub offset : Literal → Query → Query
offset number q = record q { offset = Some number }

-- after so many tokens
abbrev pub query_on : Source → ℕ → QueryAction → Waiting → Waiting
query_on s n action.Select w = record w { selects = bare_select (place_at s n) ∷ w.selects }
query_on s n action.Distinct w = record w { selects = on distinct w.selects }
query_on s n action.All w = record w { selects = on (add_item (item.All (place_at s n))) w.selects }
query_on s n action.AllOf w = record w { names = rest w.names; selects = put all_of w.names w.selects }
query_on s n action.Item w = record w { exprs = rest w.exprs; selects = put plain_item w.exprs w.selects }
query_on s n action.ItemAs w = record w { names = rest w.names; exprs = rest w.exprs; selects = put2 named_item w.names w.exprs w.selects }
query_on s n action.From w = record w { tables = rest w.tables; selects = put from w.tables w.selects }
query_on s n action.Where w = record w { exprs = rest w.exprs; selects = put where_true w.exprs w.selects }
query_on s n action.GroupKey w = record w { columns = rest w.columns; selects = put group_by w.columns w.selects }
query_on s n action.Having w = record w { exprs = rest w.exprs; selects = put having_true w.exprs w.selects }
query_on s n action.Selects w = record w { selects = rest w.selects; sets = made one_select w.selects w.sets }
query_on s n (action.Union all) w = record w { selects = rest w.selects; sets = put (union all) w.selects w.sets }
query_on s n action.Table w = record w { relations = rest w.relations; tables = made table w.relations w.tables }
query_on s n action.TableAs w = record w { relations = rest w.relations; names = rest w.names; tables = made2 table_as w.relations w.names w.tables }
query_on s n action.Derived w = record w { sets = rest w.sets; names = rest w.names; tables = made2 derived w.sets w.names w.tables }
query_on s n action.Inner w = record w { exprs = rest w.exprs; tables = with (λ e. joined (joined_tables (Inner e))) w.exprs w.tables }
query_on s n action.Left w = record w { exprs = rest w.exprs; tables = with (λ e. joined (joined_tables (Left e))) w.exprs w.tables }
query_on s n action.Cross w = record w { tables = joined (joined_tables Cross) w.tables }
query_on s n action.Query w = record w { sets = rest w.sets; queries = made query w.sets w.queries }
query_on s n (action.KeyName descending) w = record w { names = rest w.names; queries = put (key_name descending) w.names w.queries }
query_on s n (action.KeyNumber descending) w = record w { literals = rest w.literals; queries = put (key_number descending) w.literals w.queries }
query_on s n action.Limit w = record w { literals = rest w.literals; queries = put limit w.literals w.queries }
query_on s n action.Offset w = record w { literals = rest w.literals; queries = put offset w.literals w.queries }
