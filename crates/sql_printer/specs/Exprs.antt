-- What the tokens of expressions say.
use Rattle.std.specs.Prelude.{ℕ, List, [], ◌∷◌, ◌++◌, Option, Some, None}
use Rattle.sql_reader.specs.declared.tree.expr.Aggregate.{Aggregate}
use Rattle.sql_reader.specs.declared.tree.expr.Aggregate.TheVariants as aggregate
use Rattle.sql_reader.specs.declared.tree.expr.Arm.{Arm}
use Rattle.sql_reader.specs.declared.tree.expr.Comparison.{Comparison}
use Rattle.sql_reader.specs.declared.tree.expr.Comparison.TheVariants as comparison
use Rattle.sql_reader.specs.declared.tree.expr.Expr.{Expr}
use Rattle.sql_reader.specs.declared.tree.expr.Expr.TheOpen.{Expr-F, Link-F, Arm-F}
use Rattle.sql_reader.specs.declared.tree.expr.Expr.TheFolds.{fold-Expr, fold-Link, fold-Arm}
use Rattle.sql_reader.specs.declared.tree.expr.Link.{Link}
use Rattle.sql_reader.specs.declared.tree.expr.Operator.{Operator}
use Rattle.sql_reader.specs.declared.tree.expr.Operator.TheVariants as operator
use Rattle.sql_reader.specs.Symbols as symbol
use Rattle.sql_printer.specs.Said.{Said, word}
use Rattle.sql_printer.specs.Lists.{all, listed, itself}
use Rattle.sql_printer.specs.Names.{column, literal, optional}

abbrev pub operator_kind : Operator → ℕ
operator_kind operator.Or = symbol.OR
operator_kind operator.And = symbol.AND
operator_kind operator.Concat = symbol.BARS
operator_kind operator.Add = symbol.PLUS
operator_kind operator.Subtract = symbol.MINUS
operator_kind operator.Multiply = symbol.TIMES

abbrev pub comparison_kind : Comparison → ℕ
comparison_kind comparison.Equal = symbol.EQUAL
comparison_kind comparison.NotEqual = symbol.NOT_EQUAL
comparison_kind comparison.Less = symbol.LESS
comparison_kind comparison.AtMost = symbol.AT_MOST
comparison_kind comparison.Greater = symbol.GREATER
comparison_kind comparison.AtLeast = symbol.AT_LEAST

abbrev pub aggregate_kind : Aggregate → ℕ
aggregate_kind aggregate.Count = symbol.COUNT
aggregate_kind aggregate.Sum = symbol.SUM
aggregate_kind aggregate.Min = symbol.MIN
aggregate_kind aggregate.Max = symbol.MAX

abbrev pub else_part : Option (List Said) → List Said
else_part None = []
else_part (Some e) = word symbol.ELSE ++ e

abbrev pub in_parens : List Said → List Said
in_parens inner = word symbol.OPEN ++ inner ++ word symbol.CLOSE

-- one layer of an expression, by what its parts say
abbrev pub expr_step : Expr-F (List Said) (List Said) (List Said) → List Said
expr_step (Expr-F.Literal l) = literal l
expr_step (Expr-F.Column c) = column c
expr_step (Expr-F.Parens e at) = in_parens e
expr_step (Expr-F.Negate e at) = word symbol.MINUS ++ e
expr_step (Expr-F.Chain first rest) = first ++ all itself rest
expr_step (Expr-F.Not e at) = word symbol.NOT ++ e
expr_step (Expr-F.Compare c left right at) = left ++ word (comparison_kind c) ++ right
expr_step (Expr-F.IsNull e negated) = e ++ word symbol.IS ++ optional negated symbol.NOT ++ word symbol.NULL
expr_step (Expr-F.In e negated items at) = e ++ optional negated symbol.NOT ++ word symbol.IN ++ in_parens (listed [] itself items)
expr_step (Expr-F.Like e negated pattern at) = e ++ optional negated symbol.NOT ++ word symbol.LIKE ++ literal pattern
expr_step (Expr-F.Between e negated low high at) = e ++ optional negated symbol.NOT ++ word symbol.BETWEEN ++ low ++ word symbol.AND ++ high
expr_step (Expr-F.CountAll at) = word symbol.COUNT ++ in_parens (word symbol.TIMES)
expr_step (Expr-F.Aggregate a e at) = word (aggregate_kind a) ++ in_parens e
expr_step (Expr-F.Coalesce items at) = word symbol.COALESCE ++ in_parens (listed [] itself items)
expr_step (Expr-F.Case arms otherwise at) = word symbol.CASE ++ all itself arms ++ else_part otherwise ++ word symbol.END

-- an operator and the operand after it
abbrev pub link_step : Link-F (List Said) (List Said) (List Said) → List Said
link_step l = word (operator_kind l.operator) ++ l.operand

abbrev pub arm_step : Arm-F (List Said) (List Said) (List Said) → List Said
arm_step a = word symbol.WHEN ++ a.condition ++ word symbol.THEN ++ a.value

unfoldable pub expr : Expr → List Said
expr = fold-Expr (List Said) (List Said) (List Said) expr_step arm_step link_step

unfoldable pub link : Link → List Said
link = fold-Link (List Said) (List Said) (List Said) expr_step arm_step link_step

unfoldable pub arm : Arm → List Said
arm = fold-Arm (List Said) (List Said) (List Said) expr_step arm_step link_step

-- with commas between them
abbrev pub exprs : List Expr → List Said
exprs es = listed [] expr es
