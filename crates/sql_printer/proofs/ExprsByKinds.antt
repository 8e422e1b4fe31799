-- What each kind of expression says, by what its parts say, and its text after others.
--
use Rattle.std.proofs.Common.{◌≡◌, ◌∙◌, Bool, List, [], ◌∷◌, ◌++◌, Option, Some, None, ℕ, map, ap, sym, refl, append-nil}
use Rattle.sql_reader.specs.declared.tree.expr.Aggregate.{Aggregate as AnAggregate}
use Rattle.sql_reader.specs.declared.tree.expr.Arm.{Arm}
use Rattle.sql_reader.specs.declared.tree.expr.Comparison.{Comparison}
use Rattle.sql_reader.specs.declared.tree.expr.Expr.{Expr}
use Rattle.sql_reader.specs.declared.tree.expr.Expr.TheVariants.{Literal, Column, Parens, Negate, Chain, Not, Compare, IsNull, In, Like, Between, CountAll, Aggregate, Coalesce, Case, rolls-Literal, rolls-Column, rolls-Parens, rolls-Negate, rolls-Chain, rolls-Not, rolls-Compare, rolls-IsNull, rolls-In, rolls-Like, rolls-Between, rolls-CountAll, rolls-Aggregate, rolls-Coalesce, rolls-Case}
use Rattle.sql_reader.specs.declared.tree.expr.Expr.TheOpen.{Expr-F}
use Rattle.sql_reader.specs.declared.tree.expr.Expr.TheFolds.{fold-roll-Expr, fold_out-Link, fold_out-Arm}
use Rattle.sql_reader.specs.declared.tree.expr.Expr.TheViews.{out-Link, out-Arm}
use Rattle.sql_reader.specs.declared.tree.expr.Link.{Link}
use Rattle.sql_reader.specs.declared.tree.expr.Literal.{Literal as ALiteral}
use Rattle.sql_reader.specs.declared.tree.name.ColumnName.{ColumnName}
use Rattle.sql_reader.specs.Symbols as symbol
use Rattle.sql_printer.specs.Said.{Said, word}
use Rattle.sql_printer.specs.Spelled.{spelled}
use Rattle.sql_printer.specs.Lists.{all, listed, itself}
use Rattle.sql_printer.specs.Names.{column, literal, optional}
use Rattle.sql_printer.specs.Exprs.{operator_kind, comparison_kind, aggregate_kind, else_part, in_parens, expr_step, link_step, arm_step, expr, link, arm}
use Rattle.sql_printer.proofs.Texts.{step, all_same, listed_same}

pub link_is : (l : Link) → link l ≡ word (operator_kind l.operator) ++ expr l.operand
unfolding expr link arm
link_is l = fold_out-Link (List Said) (List Said) (List Said) expr_step arm_step link_step l

pub text-link_is : (o : List ℕ) (l : Link) → o ++ spelled (link l) ≡ (o ++ spelled (word (operator_kind l.operator))) ++ spelled (expr l.operand)
text-link_is o l = ap (λ x. o ++ spelled x) (link_is l) ∙ step o (word (operator_kind l.operator)) (expr l.operand)

pub arm_is : (a : Arm) → arm a ≡ word symbol.WHEN ++ expr a.condition ++ word symbol.THEN ++ expr a.value
unfolding expr link arm
arm_is a = fold_out-Arm (List Said) (List Said) (List Said) expr_step arm_step link_step a

pub text-arm_is : (o : List ℕ) (a : Arm) → o ++ spelled (arm a) ≡ (((o ++ spelled (word symbol.WHEN)) ++ spelled (expr a.condition)) ++ spelled (word symbol.THEN)) ++ spelled (expr a.value)
text-arm_is o a = ap (λ x. o ++ spelled x) (arm_is a) ∙ step o (word symbol.WHEN ++ expr a.condition ++ word symbol.THEN) (expr a.value) ∙ ap (λ x. x ++ spelled (expr a.value)) (step o (word symbol.WHEN ++ expr a.condition) (word symbol.THEN) ∙ ap (λ x. x ++ spelled (word symbol.THEN)) (step o (word symbol.WHEN) (expr a.condition)))

pub expr-Literal : (l : ALiteral) → expr (Literal l) ≡ literal l
unfolding expr link arm
expr-Literal l =
    ap (λ x. expr x) (sym (rolls-Literal l)) ∙ fold-roll-Expr (List Said) (List Said) (List Said) expr_step arm_step link_step (Expr-F.Literal l)

pub text-expr-Literal : (o : List ℕ) (l : ALiteral) → o ++ spelled (expr (Literal l)) ≡ o ++ spelled (literal l)
text-expr-Literal o l = ap (λ x. o ++ spelled x) (expr-Literal l)

pub expr-Column : (c : ColumnName) → expr (Column c) ≡ column c
unfolding expr link arm
expr-Column c =
    ap (λ x. expr x) (sym (rolls-Column c)) ∙ fold-roll-Expr (List Said) (List Said) (List Said) expr_step arm_step link_step (Expr-F.Column c)

pub text-expr-Column : (o : List ℕ) (c : ColumnName) → o ++ spelled (expr (Column c)) ≡ o ++ spelled (column c)
text-expr-Column o c = ap (λ x. o ++ spelled x) (expr-Column c)

pub expr-Parens : (e : Expr) (at : ℕ) → expr (Parens e at) ≡ in_parens (expr e)
unfolding expr link arm
expr-Parens e at =
    ap (λ x. expr x) (sym (rolls-Parens e at)) ∙ fold-roll-Expr (List Said) (List Said) (List Said) expr_step arm_step link_step (Expr-F.Parens e at)

pub text-expr-Parens : (o : List ℕ) (e : Expr) (at : ℕ) → o ++ spelled (expr (Parens e at)) ≡ ((o ++ spelled (word symbol.OPEN)) ++ spelled (expr e)) ++ spelled (word symbol.CLOSE)
text-expr-Parens o e at = ap (λ x. o ++ spelled x) (expr-Parens e at) ∙ step o (word symbol.OPEN ++ expr e) (word symbol.CLOSE) ∙ ap (λ x. x ++ spelled (word symbol.CLOSE)) (step o (word symbol.OPEN) (expr e))

pub expr-Negate : (e : Expr) (at : ℕ) → expr (Negate e at) ≡ word symbol.MINUS ++ expr e
unfolding expr link arm
expr-Negate e at =
    ap (λ x. expr x) (sym (rolls-Negate e at)) ∙ fold-roll-Expr (List Said) (List Said) (List Said) expr_step arm_step link_step (Expr-F.Negate e at)

pub text-expr-Negate : (o : List ℕ) (e : Expr) (at : ℕ) → o ++ spelled (expr (Negate e at)) ≡ (o ++ spelled (word symbol.MINUS)) ++ spelled (expr e)
text-expr-Negate o e at = ap (λ x. o ++ spelled x) (expr-Negate e at) ∙ step o (word symbol.MINUS) (expr e)

pub expr-Chain : (e : Expr) (ls : List Link) → expr (Chain e ls) ≡ expr e ++ all link ls
unfolding expr link arm
expr-Chain e ls =
    ap (λ x. expr x) (sym (rolls-Chain e ls)) ∙ fold-roll-Expr (List Said) (List Said) (List Said) expr_step arm_step link_step (Expr-F.Chain e ls) ∙ ap (λ x. expr e ++ x) (all_same link ls)

pub text-expr-Chain : (o : List ℕ) (e : Expr) (ls : List Link) → o ++ spelled (expr (Chain e ls)) ≡ (o ++ spelled (expr e)) ++ spelled (all link ls)
text-expr-Chain o e ls = ap (λ x. o ++ spelled x) (expr-Chain e ls) ∙ step o (expr e) (all link ls)

pub expr-Not : (e : Expr) (at : ℕ) → expr (Not e at) ≡ word symbol.NOT ++ expr e
unfolding expr link arm
expr-Not e at =
    ap (λ x. expr x) (sym (rolls-Not e at)) ∙ fold-roll-Expr (List Said) (List Said) (List Said) expr_step arm_step link_step (Expr-F.Not e at)

pub text-expr-Not : (o : List ℕ) (e : Expr) (at : ℕ) → o ++ spelled (expr (Not e at)) ≡ (o ++ spelled (word symbol.NOT)) ++ spelled (expr e)
text-expr-Not o e at = ap (λ x. o ++ spelled x) (expr-Not e at) ∙ step o (word symbol.NOT) (expr e)

pub expr-Compare : (c : Comparison) (a b : Expr) (at : ℕ) → expr (Compare c a b at) ≡ expr a ++ word (comparison_kind c) ++ expr b
unfolding expr link arm
expr-Compare c a b at =
    ap (λ x. expr x) (sym (rolls-Compare c a b at)) ∙ fold-roll-Expr (List Said) (List Said) (List Said) expr_step arm_step link_step (Expr-F.Compare c a b at)

pub text-expr-Compare : (o : List ℕ) (c : Comparison) (a b : Expr) (at : ℕ) → o ++ spelled (expr (Compare c a b at)) ≡ ((o ++ spelled (expr a)) ++ spelled (word (comparison_kind c))) ++ spelled (expr b)
text-expr-Compare o c a b at = ap (λ x. o ++ spelled x) (expr-Compare c a b at) ∙ step o (expr a ++ word (comparison_kind c)) (expr b) ∙ ap (λ x. x ++ spelled (expr b)) (step o (expr a) (word (comparison_kind c)))

pub expr-IsNull : (e : Expr) (negated : Bool) → expr (IsNull e negated) ≡ expr e ++ word symbol.IS ++ optional negated symbol.NOT ++ word symbol.NULL
unfolding expr link arm
expr-IsNull e negated =
    ap (λ x. expr x) (sym (rolls-IsNull e negated)) ∙ fold-roll-Expr (List Said) (List Said) (List Said) expr_step arm_step link_step (Expr-F.IsNull e negated)

pub text-expr-IsNull : (o : List ℕ) (e : Expr) (negated : Bool) → o ++ spelled (expr (IsNull e negated)) ≡ (((o ++ spelled (expr e)) ++ spelled (word symbol.IS)) ++ spelled (optional negated symbol.NOT)) ++ spelled (word symbol.NULL)
text-expr-IsNull o e negated = ap (λ x. o ++ spelled x) (expr-IsNull e negated) ∙ step o (expr e ++ word symbol.IS ++ optional negated symbol.NOT) (word symbol.NULL) ∙ ap (λ x. x ++ spelled (word symbol.NULL)) (step o (expr e ++ word symbol.IS) (optional negated symbol.NOT) ∙ ap (λ x. x ++ spelled (optional negated symbol.NOT)) (step o (expr e) (word symbol.IS)))

pub expr-In : (e : Expr) (negated : Bool) (es : List Expr) (at : ℕ) → expr (In e negated es at) ≡ expr e ++ optional negated symbol.NOT ++ word symbol.IN ++ in_parens (listed [] expr es)
unfolding expr link arm
expr-In e negated es at =
    ap (λ x. expr x) (sym (rolls-In e negated es at)) ∙ fold-roll-Expr (List Said) (List Said) (List Said) expr_step arm_step link_step (Expr-F.In e negated es at) ∙ ap (λ x. expr e ++ optional negated symbol.NOT ++ word symbol.IN ++ in_parens x) (listed_same [] expr es)

pub text-expr-In : (o : List ℕ) (e : Expr) (negated : Bool) (es : List Expr) (at : ℕ) → o ++ spelled (expr (In e negated es at)) ≡ (((((o ++ spelled (expr e)) ++ spelled (optional negated symbol.NOT)) ++ spelled (word symbol.IN)) ++ spelled (word symbol.OPEN)) ++ spelled (listed [] expr es)) ++ spelled (word symbol.CLOSE)
text-expr-In o e negated es at = ap (λ x. o ++ spelled x) (expr-In e negated es at) ∙ step o (expr e ++ optional negated symbol.NOT ++ word symbol.IN) (in_parens (listed [] expr es)) ∙ ap (λ x. x ++ spelled (in_parens (listed [] expr es))) (step o (expr e ++ optional negated symbol.NOT) (word symbol.IN) ∙ ap (λ x. x ++ spelled (word symbol.IN)) (step o (expr e) (optional negated symbol.NOT))) ∙ step (((o ++ spelled (expr e)) ++ spelled (optional negated symbol.NOT)) ++ spelled (word symbol.IN)) (word symbol.OPEN ++ listed [] expr es) (word symbol.CLOSE) ∙ ap (λ x. x ++ spelled (word symbol.CLOSE)) (step (((o ++ spelled (expr e)) ++ spelled (optional negated symbol.NOT)) ++ spelled (word symbol.IN)) (word symbol.OPEN) (listed [] expr es))

pub expr-Like : (e : Expr) (negated : Bool) (l : ALiteral) (at : ℕ) → expr (Like e negated l at) ≡ expr e ++ optional negated symbol.NOT ++ word symbol.LIKE ++ literal l
unfolding expr link arm
expr-Like e negated l at =
    ap (λ x. expr x) (sym (rolls-Like e negated l at)) ∙ fold-roll-Expr (List Said) (List Said) (List Said) expr_step arm_step link_step (Expr-F.Like e negated l at)

pub text-expr-Like : (o : List ℕ) (e : Expr) (negated : Bool) (l : ALiteral) (at : ℕ) → o ++ spelled (expr (Like e negated l at)) ≡ (((o ++ spelled (expr e)) ++ spelled (optional negated symbol.NOT)) ++ spelled (word symbol.LIKE)) ++ spelled (literal l)
text-expr-Like o e negated l at = ap (λ x. o ++ spelled x) (expr-Like e negated l at) ∙ step o (expr e ++ optional negated symbol.NOT ++ word symbol.LIKE) (literal l) ∙ ap (λ x. x ++ spelled (literal l)) (step o (expr e ++ optional negated symbol.NOT) (word symbol.LIKE) ∙ ap (λ x. x ++ spelled (word symbol.LIKE)) (step o (expr e) (optional negated symbol.NOT)))

pub expr-Between : (e : Expr) (negated : Bool) (a b : Expr) (at : ℕ) → expr (Between e negated a b at) ≡ expr e ++ optional negated symbol.NOT ++ word symbol.BETWEEN ++ expr a ++ word symbol.AND ++ expr b
unfolding expr link arm
expr-Between e negated a b at =
    ap (λ x. expr x) (sym (rolls-Between e negated a b at)) ∙ fold-roll-Expr (List Said) (List Said) (List Said) expr_step arm_step link_step (Expr-F.Between e negated a b at)

pub text-expr-Between : (o : List ℕ) (e : Expr) (negated : Bool) (a b : Expr) (at : ℕ) → o ++ spelled (expr (Between e negated a b at)) ≡ (((((o ++ spelled (expr e)) ++ spelled (optional negated symbol.NOT)) ++ spelled (word symbol.BETWEEN)) ++ spelled (expr a)) ++ spelled (word symbol.AND)) ++ spelled (expr b)
text-expr-Between o e negated a b at = ap (λ x. o ++ spelled x) (expr-Between e negated a b at) ∙ step o (expr e ++ optional negated symbol.NOT ++ word symbol.BETWEEN ++ expr a ++ word symbol.AND) (expr b) ∙ ap (λ x. x ++ spelled (expr b)) (step o (expr e ++ optional negated symbol.NOT ++ word symbol.BETWEEN ++ expr a) (word symbol.AND) ∙ ap (λ x. x ++ spelled (word symbol.AND)) (step o (expr e ++ optional negated symbol.NOT ++ word symbol.BETWEEN) (expr a) ∙ ap (λ x. x ++ spelled (expr a)) (step o (expr e ++ optional negated symbol.NOT) (word symbol.BETWEEN) ∙ ap (λ x. x ++ spelled (word symbol.BETWEEN)) (step o (expr e) (optional negated symbol.NOT)))))

pub expr-CountAll : (at : ℕ) → expr (CountAll at) ≡ word symbol.COUNT ++ in_parens (word symbol.TIMES)
unfolding expr link arm
expr-CountAll at =
    ap (λ x. expr x) (sym (rolls-CountAll at)) ∙ fold-roll-Expr (List Said) (List Said) (List Said) expr_step arm_step link_step (Expr-F.CountAll at)

pub text-expr-CountAll : (o : List ℕ) (at : ℕ) → o ++ spelled (expr (CountAll at)) ≡ (((o ++ spelled (word symbol.COUNT)) ++ spelled (word symbol.OPEN)) ++ spelled (word symbol.TIMES)) ++ spelled (word symbol.CLOSE)
text-expr-CountAll o at = ap (λ x. o ++ spelled x) (expr-CountAll at) ∙ step o (word symbol.COUNT) (in_parens (word symbol.TIMES)) ∙ step (o ++ spelled (word symbol.COUNT)) (word symbol.OPEN ++ word symbol.TIMES) (word symbol.CLOSE) ∙ ap (λ x. x ++ spelled (word symbol.CLOSE)) (step (o ++ spelled (word symbol.COUNT)) (word symbol.OPEN) (word symbol.TIMES))

pub expr-Aggregate : (a : AnAggregate) (e : Expr) (at : ℕ) → expr (Aggregate a e at) ≡ word (aggregate_kind a) ++ in_parens (expr e)
unfolding expr link arm
expr-Aggregate a e at =
    ap (λ x. expr x) (sym (rolls-Aggregate a e at)) ∙ fold-roll-Expr (List Said) (List Said) (List Said) expr_step arm_step link_step (Expr-F.Aggregate a e at)

pub text-expr-Aggregate : (o : List ℕ) (a : AnAggregate) (e : Expr) (at : ℕ) → o ++ spelled (expr (Aggregate a e at)) ≡ (((o ++ spelled (word (aggregate_kind a))) ++ spelled (word symbol.OPEN)) ++ spelled (expr e)) ++ spelled (word symbol.CLOSE)
text-expr-Aggregate o a e at = ap (λ x. o ++ spelled x) (expr-Aggregate a e at) ∙ step o (word (aggregate_kind a)) (in_parens (expr e)) ∙ step (o ++ spelled (word (aggregate_kind a))) (word symbol.OPEN ++ expr e) (word symbol.CLOSE) ∙ ap (λ x. x ++ spelled (word symbol.CLOSE)) (step (o ++ spelled (word (aggregate_kind a))) (word symbol.OPEN) (expr e))

pub expr-Coalesce : (es : List Expr) (at : ℕ) → expr (Coalesce es at) ≡ word symbol.COALESCE ++ in_parens (listed [] expr es)
unfolding expr link arm
expr-Coalesce es at =
    ap (λ x. expr x) (sym (rolls-Coalesce es at)) ∙ fold-roll-Expr (List Said) (List Said) (List Said) expr_step arm_step link_step (Expr-F.Coalesce es at) ∙ ap (λ x. word symbol.COALESCE ++ in_parens x) (listed_same [] expr es)

pub text-expr-Coalesce : (o : List ℕ) (es : List Expr) (at : ℕ) → o ++ spelled (expr (Coalesce es at)) ≡ (((o ++ spelled (word symbol.COALESCE)) ++ spelled (word symbol.OPEN)) ++ spelled (listed [] expr es)) ++ spelled (word symbol.CLOSE)
text-expr-Coalesce o es at = ap (λ x. o ++ spelled x) (expr-Coalesce es at) ∙ step o (word symbol.COALESCE) (in_parens (listed [] expr es)) ∙ step (o ++ spelled (word symbol.COALESCE)) (word symbol.OPEN ++ listed [] expr es) (word symbol.CLOSE) ∙ ap (λ x. x ++ spelled (word symbol.CLOSE)) (step (o ++ spelled (word symbol.COALESCE)) (word symbol.OPEN) (listed [] expr es))

pub expr-Case-none : (ls : List Arm) (at : ℕ) → expr (Case ls None at) ≡ word symbol.CASE ++ all arm ls ++ else_part None ++ word symbol.END
unfolding expr link arm
expr-Case-none ls at =
    ap (λ x. expr x) (sym (rolls-Case ls None at)) ∙ fold-roll-Expr (List Said) (List Said) (List Said) expr_step arm_step link_step (Expr-F.Case ls None at) ∙ ap (λ x. word symbol.CASE ++ x ++ else_part None ++ word symbol.END) (all_same arm ls)

pub expr-Case-some : (ls : List Arm) (e : Expr) (at : ℕ) → expr (Case ls (Some e) at) ≡ word symbol.CASE ++ all arm ls ++ else_part (Some (expr e)) ++ word symbol.END
unfolding expr link arm
expr-Case-some ls e at =
    ap (λ x. expr x) (sym (rolls-Case ls (Some e) at)) ∙ fold-roll-Expr (List Said) (List Said) (List Said) expr_step arm_step link_step (Expr-F.Case ls (Some e) at) ∙ ap (λ x. word symbol.CASE ++ x ++ else_part (Some (expr e)) ++ word symbol.END) (all_same arm ls)

-- ELSE and what it says, where it is written
unfoldable pub else_said : Option Expr → List Said
else_said None = []
else_said (Some e) = word symbol.ELSE ++ expr e

pub expr-Case : (ls : List Arm) (x : Option Expr) (at : ℕ) → expr (Case ls x at) ≡ word symbol.CASE ++ all arm ls ++ else_said x ++ word symbol.END
unfolding else_said
expr-Case ls None at = expr-Case-none ls at
expr-Case ls (Some e) at = expr-Case-some ls e at

pub text-else-none : (o : List ℕ) → o ++ spelled (else_said None) ≡ o
unfolding else_said
text-else-none o = append-nil o

pub text-else-some : (o : List ℕ) (e : Expr) → o ++ spelled (else_said (Some e)) ≡ (o ++ spelled (word symbol.ELSE)) ++ spelled (expr e)
unfolding else_said
text-else-some o e = step o (word symbol.ELSE) (expr e)

pub text-expr-Case : (o : List ℕ) (ls : List Arm) (other : Option Expr) (at : ℕ) → o ++ spelled (expr (Case ls other at)) ≡ (((o ++ spelled (word symbol.CASE)) ++ spelled (all arm ls)) ++ spelled (else_said other)) ++ spelled (word symbol.END)
text-expr-Case o ls other at = ap (λ x. o ++ spelled x) (expr-Case ls other at) ∙ step o (word symbol.CASE ++ all arm ls ++ else_said other) (word symbol.END) ∙ ap (λ x. x ++ spelled (word symbol.END)) (step o (word symbol.CASE ++ all arm ls) (else_said other) ∙ ap (λ x. x ++ spelled (else_said other)) (step o (word symbol.CASE) (all arm ls)))

pub ruleset exprs_by_kinds = (link_is, arm_is, expr-Literal, expr-Column, expr-Parens, expr-Negate, expr-Chain, expr-Not, expr-Compare, expr-IsNull, expr-In, expr-Like, expr-Between, expr-CountAll, expr-Aggregate, expr-Coalesce, expr-Case)

pub ruleset expr_texts = (text-link_is, text-arm_is, text-expr-Literal, text-expr-Column, text-expr-Parens, text-expr-Negate, text-expr-Chain, text-expr-Not, text-expr-Compare, text-expr-IsNull, text-expr-In, text-expr-Like, text-expr-Between, text-expr-CountAll, text-expr-Aggregate, text-expr-Coalesce, text-expr-Case, text-else-none, text-else-some)
