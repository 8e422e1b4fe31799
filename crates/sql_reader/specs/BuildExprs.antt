-- What is built of expressions.
use Rattle.std.specs.Prelude.{ℕ, Bool, List, [], ◌∷◌, ◌++◌, Option, Some, None}
use Rattle.sql_reader.specs.declared.build.ExprAction.{ExprAction}
use Rattle.sql_reader.specs.declared.build.ExprAction.TheVariants as action
use Rattle.sql_reader.specs.declared.tree.expr.Aggregate.{Aggregate}
use Rattle.sql_reader.specs.declared.tree.expr.Arm.{Arm}
use Rattle.sql_reader.specs.declared.tree.expr.Comparison.{Comparison}
use Rattle.sql_reader.specs.declared.tree.expr.Expr.{Expr}
use Rattle.sql_reader.specs.declared.tree.expr.Expr.TheVariants as expr
use Rattle.sql_reader.specs.declared.tree.expr.Link.{Link}
use Rattle.sql_reader.specs.declared.tree.expr.Literal.{Literal}
use Rattle.sql_reader.specs.declared.tree.expr.Operator.{Operator}
use Rattle.sql_reader.specs.Waiting.{Waiting, rest, on, made, made2, put, put2, put_two, joined, joined3, with}

abbrev pub constant : Literal → Expr
constant literal = expr.Literal literal

abbrev pub parens : ℕ → Expr → Expr
parens at e = expr.Parens e at

abbrev pub negate : ℕ → Expr → Expr
negate at e = expr.Negate e at

abbrev pub not_expr : ℕ → Expr → Expr
not_expr at e = expr.Not e at

abbrev pub add_link : Operator → ℕ → Expr → List Link → List Link
add_link op at e links = links ++ record { operator = op; operand = e; at = at } ∷ []

abbrev pub chain : List Link → Expr → Expr
chain links e = expr.Chain e links

abbrev pub compare : Comparison → ℕ → Expr → Expr → Expr
compare c at left right = expr.Compare c left right at

abbrev pub is_null : Bool → Expr → Expr
is_null negated e = expr.IsNull e negated

abbrev pub add : Expr → List Expr → List Expr
add e es = es ++ e ∷ []

abbrev pub in_list : Bool → ℕ → List Expr → Expr → Expr
in_list negated at items e = expr.In e negated items at

abbrev pub like : Bool → ℕ → Literal → Expr → Expr
like negated at pattern e = expr.Like e negated pattern at

abbrev pub between : Bool → ℕ → Expr → Expr → Expr → Expr
between negated at e low high = expr.Between e negated low high at

abbrev pub aggregate : Aggregate → ℕ → Expr → Expr
aggregate a at e = expr.Aggregate a e at

abbrev pub coalesce : ℕ → List Expr → Expr
coalesce at items = expr.Coalesce items at

abbrev pub add_arm : Expr → Expr → List Arm → List Arm
add_arm condition value arms = arms ++ record { condition = condition; value = value } ∷ []

abbrev pub case : ℕ → List Arm → Expr
case at arms = expr.Case arms None at

abbrev pub case_else : ℕ → List Arm → Expr → Expr
case_else at arms e = expr.Case arms (Some e) at

abbrev pub expr_on : ExprAction → Waiting → Waiting
expr_on action.Constant w = record w { literals = rest w.literals; exprs = made constant w.literals w.exprs }
expr_on action.Column w = record w { columns = rest w.columns; exprs = made expr.Column w.columns w.exprs }
expr_on action.Parens w = record w { places = rest w.places; exprs = put parens w.places w.exprs }
expr_on action.Negate w = record w { places = rest w.places; exprs = put negate w.places w.exprs }
expr_on action.Not w = record w { places = rest w.places; exprs = put not_expr w.places w.exprs }
expr_on action.Links w = record w { links = [] ∷ w.links }
expr_on (action.Link op) w = record w { places = rest w.places; exprs = rest w.exprs; links = put2 (add_link op) w.places w.exprs w.links }
expr_on action.Chain w = record w { links = rest w.links; exprs = put chain w.links w.exprs }
expr_on (action.Compare c) w = record w { places = rest w.places; exprs = with (λ at. joined (compare c at)) w.places w.exprs }
expr_on (action.IsNull negated) w = record w { exprs = on (is_null negated) w.exprs }
expr_on action.List w = record w { lists = [] ∷ w.lists }
expr_on action.Add w = record w { exprs = rest w.exprs; lists = put add w.exprs w.lists }
expr_on (action.In negated) w = record w { places = rest w.places; lists = rest w.lists; exprs = put2 (in_list negated) w.places w.lists w.exprs }
expr_on (action.Like negated) w = record w { places = rest w.places; literals = rest w.literals; exprs = put2 (like negated) w.places w.literals w.exprs }
expr_on (action.Between negated) w = record w { places = rest w.places; exprs = with (λ at. joined3 (between negated at)) w.places w.exprs }
expr_on action.CountAll w = record w { places = rest w.places; exprs = made expr.CountAll w.places w.exprs }
expr_on (action.Aggregate a) w = record w { places = rest w.places; exprs = put (aggregate a) w.places w.exprs }
expr_on action.Coalesce w = record w { places = rest w.places; lists = rest w.lists; exprs = made2 coalesce w.places w.lists w.exprs }
expr_on action.Arms w = record w { arms = [] ∷ w.arms }
expr_on action.Arm w = record w { exprs = rest (rest w.exprs); arms = put_two add_arm w.exprs w.arms }
expr_on action.Case w = record w { places = rest w.places; arms = rest w.arms; exprs = made2 case w.places w.arms w.exprs }
expr_on action.CaseElse w = record w { places = rest w.places; arms = rest w.arms; exprs = put2 case_else w.places w.arms w.exprs }
