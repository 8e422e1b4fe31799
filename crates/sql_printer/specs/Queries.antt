-- What the tokens of queries say.
use Rattle.std.specs.Prelude.{ℕ, Bool, true, false, List, [], ◌∷◌, ◌++◌, Option, Some, None}
use Rattle.sql_reader.specs.declared.tree.expr.Expr.{Expr}
use Rattle.sql_reader.specs.declared.tree.expr.Literal.{Literal}
use Rattle.sql_reader.specs.declared.tree.name.ColumnName.{ColumnName}
use Rattle.sql_reader.specs.declared.tree.query.JoinKind.{JoinKind}
use Rattle.sql_reader.specs.declared.tree.query.JoinKind.TheVariants.{Inner, Left, Cross}
use Rattle.sql_reader.specs.declared.tree.query.Key.{Key}
use Rattle.sql_reader.specs.declared.tree.query.KeyTarget.{KeyTarget}
use Rattle.sql_reader.specs.declared.tree.query.KeyTarget.TheVariants as target
use Rattle.sql_reader.specs.declared.tree.query.Query.{Query}
use Rattle.sql_reader.specs.declared.tree.query.Select.{Select}
use Rattle.sql_reader.specs.declared.tree.query.SelectItem.{SelectItem}
use Rattle.sql_reader.specs.declared.tree.query.SelectItem.TheVariants as item
use Rattle.sql_reader.specs.declared.tree.query.SetQuery.{SetQuery}
use Rattle.sql_reader.specs.declared.tree.query.SetQuery.TheOpen.{SetQuery-F, Select-F, TableRef-F}
use Rattle.sql_reader.specs.declared.tree.query.SetQuery.TheFolds.{fold-SetQuery, fold-Select, fold-TableRef}
use Rattle.sql_reader.specs.declared.tree.query.TableRef.{TableRef}
use Rattle.sql_reader.specs.Symbols as symbol
use Rattle.sql_printer.specs.Said.{Said, word}
use Rattle.sql_printer.specs.Names.{name, relation, column, alias, literal, optional}
use Rattle.sql_printer.specs.Exprs.{expr, in_parens}
use Rattle.sql_printer.specs.Lists.{listed, itself}

abbrev pub item_said : SelectItem → List Said
item_said (item.All at) = word symbol.TIMES
item_said (item.AllOf r) = name r ++ word symbol.DOT ++ word symbol.TIMES
item_said (item.Expr e a) = expr e ++ alias a

-- a word and a condition
abbrev pub condition_said : ℕ → Option Expr → List Said
condition_said kind None = []
condition_said kind (Some e) = word kind ++ expr e

-- between two tables; without INNER and OUTER
abbrev pub join_said : JoinKind → List Said
join_said (Inner e) = word symbol.JOIN
join_said (Left e) = word symbol.LEFT ++ word symbol.JOIN
join_said Cross = word symbol.CROSS ++ word symbol.JOIN

-- and after them
abbrev pub on_said : JoinKind → List Said
on_said (Inner e) = word symbol.ON ++ expr e
on_said (Left e) = word symbol.ON ++ expr e
on_said Cross = []

abbrev pub from : List Said
from = word symbol.FROM

abbrev pub group_by : List Said
group_by = word symbol.GROUP ++ word symbol.BY

abbrev pub order_by : List Said
order_by = word symbol.ORDER ++ word symbol.BY

-- one layer, by what its parts say
abbrev pub set_step : SetQuery-F (List Said) (List Said) (List Said) → List Said
set_step (SetQuery-F.Select s) = s
set_step (SetQuery-F.Union left all right) = left ++ word symbol.UNION ++ optional all symbol.ALL ++ right

abbrev pub select_step : Select-F (List Said) (List Said) (List Said) → List Said
select_step s = word symbol.SELECT ++ optional s.distinct symbol.DISTINCT ++ listed [] item_said s.items ++ listed from itself s.from ++ condition_said symbol.WHERE s.condition ++ listed group_by column s.group ++ condition_said symbol.HAVING s.having

abbrev pub table_step : TableRef-F (List Said) (List Said) (List Said) → List Said
table_step (TableRef-F.Named r a) = relation r ++ alias a
table_step (TableRef-F.Derived query a) = in_parens query ++ name a
table_step (TableRef-F.Joined left right kind) = left ++ join_said kind ++ right ++ on_said kind

unfoldable pub set : SetQuery → List Said
set = fold-SetQuery (List Said) (List Said) (List Said) set_step table_step select_step

unfoldable pub select : Select → List Said
select = fold-Select (List Said) (List Said) (List Said) set_step table_step select_step

unfoldable pub table : TableRef → List Said
table = fold-TableRef (List Said) (List Said) (List Said) set_step table_step select_step

abbrev pub target_said : KeyTarget → List Said
target_said (target.Name n) = name n
target_said (target.Number l) = literal l

-- without ASC
abbrev pub key : Key → List Said
key k = target_said k.target ++ optional k.descending symbol.DESC

-- LIMIT or OFFSET and its number
abbrev pub bound_said : ℕ → Option Literal → List Said
bound_said kind None = []
bound_said kind (Some l) = word kind ++ literal l

abbrev pub printed : Query → List Said
printed q = set q.set ++ listed order_by key q.keys ++ bound_said symbol.LIMIT q.limit ++ bound_said symbol.OFFSET q.offset
