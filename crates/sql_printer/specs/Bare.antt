-- Queries without their places: two are the same but for places where these are equal.
use Rattle.std.specs.Prelude.{ℕ, List, [], ◌∷◌, Option, Some, None, map}
use Rattle.std.specs.Option.{option_map}
use Rattle.sql_reader.specs.declared.tree.name.Name.{Name}
use Rattle.sql_reader.specs.declared.tree.name.RelationName.{RelationName}
use Rattle.sql_reader.specs.declared.tree.name.ColumnName.{ColumnName}
use Rattle.sql_reader.specs.declared.tree.name.ColumnName.TheVariants.{Plain, Of, InSchema}
use Rattle.sql_reader.specs.declared.tree.expr.Arm.{Arm}
use Rattle.sql_reader.specs.declared.tree.expr.Expr.{Expr}
use Rattle.sql_reader.specs.declared.tree.expr.Expr.TheVariants as expr
use Rattle.sql_reader.specs.declared.tree.expr.Expr.TheOpen.{Expr-F, Link-F, Arm-F}
use Rattle.sql_reader.specs.declared.tree.expr.Expr.TheFolds.{fold-Expr}
use Rattle.sql_reader.specs.declared.tree.expr.Link.{Link}
use Rattle.sql_reader.specs.declared.tree.expr.Literal.{Literal}
use Rattle.sql_reader.specs.declared.tree.query.JoinKind.{JoinKind}
use Rattle.sql_reader.specs.declared.tree.query.JoinKind.TheVariants.{Inner, Left, Cross}
use Rattle.sql_reader.specs.declared.tree.query.Key.{Key}
use Rattle.sql_reader.specs.declared.tree.query.KeyTarget.{KeyTarget}
use Rattle.sql_reader.specs.declared.tree.query.KeyTarget.TheVariants as target
use Rattle.sql_reader.specs.declared.tree.query.Query.{Query}
use Rattle.sql_reader.specs.declared.tree.query.Select.{Select}
use Rattle.sql_reader.specs.declared.tree.query.SelectItem.{SelectItem}
use Rattle.sql_reader.specs.declared.tree.query.SelectItem.TheVariants as item
use Rattle.sql_reader.specs.declared.tree.query.SetQuery.{SetQuery}
use Rattle.sql_reader.specs.declared.tree.query.SetQuery.TheVariants as set
use Rattle.sql_reader.specs.declared.tree.query.SetQuery.TheOpen.{SetQuery-F, Select-F, TableRef-F}
use Rattle.sql_reader.specs.declared.tree.query.SetQuery.TheFolds.{fold-SetQuery}
use Rattle.sql_reader.specs.declared.tree.query.TableRef.{TableRef}
use Rattle.sql_reader.specs.declared.tree.query.TableRef.TheVariants.{Named, Derived, Joined}

abbrev pub bare_name : Name → Name
bare_name n = record n { at = 0 }

abbrev pub bare_relation : RelationName → RelationName
bare_relation r = record { schema = option_map bare_name r.schema; name = bare_name r.name }

abbrev pub bare_column : ColumnName → ColumnName
bare_column (Plain n) = Plain (bare_name n)
bare_column (Of r n) = Of (bare_name r) (bare_name n)
bare_column (InSchema s r n) = InSchema (bare_name s) (bare_name r) (bare_name n)

abbrev pub bare_literal : Literal → Literal
bare_literal l = record l { at = 0 }

abbrev pub bare_step : Expr-F Expr Arm Link → Expr
bare_step (Expr-F.Literal l) = expr.Literal (bare_literal l)
bare_step (Expr-F.Column c) = expr.Column (bare_column c)
bare_step (Expr-F.Parens e at) = expr.Parens e 0
bare_step (Expr-F.Negate e at) = expr.Negate e 0
bare_step (Expr-F.Chain first rest) = expr.Chain first rest
bare_step (Expr-F.Not e at) = expr.Not e 0
bare_step (Expr-F.Compare c left right at) = expr.Compare c left right 0
bare_step (Expr-F.IsNull e negated) = expr.IsNull e negated
bare_step (Expr-F.In e negated items at) = expr.In e negated items 0
bare_step (Expr-F.Like e negated pattern at) = expr.Like e negated (bare_literal pattern) 0
bare_step (Expr-F.Between e negated low high at) = expr.Between e negated low high 0
bare_step (Expr-F.CountAll at) = expr.CountAll 0
bare_step (Expr-F.Aggregate a e at) = expr.Aggregate a e 0
bare_step (Expr-F.Coalesce items at) = expr.Coalesce items 0
bare_step (Expr-F.Case arms otherwise at) = expr.Case arms otherwise 0

abbrev pub bare_link : Link-F Expr Arm Link → Link
bare_link l = record { operator = l.operator; operand = l.operand; at = 0 }

abbrev pub bare_arm : Arm-F Expr Arm Link → Arm
bare_arm a = record { condition = a.condition; value = a.value }

unfoldable pub bare_expr : Expr → Expr
bare_expr = fold-Expr Expr Arm Link bare_step bare_arm bare_link

abbrev pub bare_item : SelectItem → SelectItem
bare_item (item.All at) = item.All 0
bare_item (item.AllOf r) = item.AllOf (bare_name r)
bare_item (item.Expr e alias) = item.Expr (bare_expr e) (option_map bare_name alias)

abbrev pub bare_kind : JoinKind → JoinKind
bare_kind (Inner e) = Inner (bare_expr e)
bare_kind (Left e) = Left (bare_expr e)
bare_kind Cross = Cross

abbrev pub bare_set_step : SetQuery-F SetQuery TableRef Select → SetQuery
bare_set_step (SetQuery-F.Select s) = set.Select s
bare_set_step (SetQuery-F.Union left all right) = set.Union left all right

abbrev pub bare_select : Select-F SetQuery TableRef Select → Select
bare_select s = record { distinct = s.distinct; items = map bare_item s.items; from = s.from; condition = option_map bare_expr s.condition; group = map bare_column s.group; having = option_map bare_expr s.having; at = 0 }

abbrev pub bare_table : TableRef-F SetQuery TableRef Select → TableRef
bare_table (TableRef-F.Named r alias) = Named (bare_relation r) (option_map bare_name alias)
bare_table (TableRef-F.Derived query alias) = Derived query (bare_name alias)
bare_table (TableRef-F.Joined left right kind) = Joined left right (bare_kind kind)

unfoldable pub bare_set : SetQuery → SetQuery
bare_set = fold-SetQuery SetQuery TableRef Select bare_set_step bare_table bare_select

abbrev pub bare_target : KeyTarget → KeyTarget
bare_target (target.Name n) = target.Name (bare_name n)
bare_target (target.Number l) = target.Number (bare_literal l)

abbrev pub bare_key : Key → Key
bare_key k = record { target = bare_target k.target; descending = k.descending }

-- every place is 0
abbrev pub bare : Query → Query
bare q = record { set = bare_set q.set; keys = map bare_key q.keys; limit = option_map bare_literal q.limit; offset = option_map bare_literal q.offset }
