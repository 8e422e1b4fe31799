-- The equations of `has_aggregate` and `column_name`, one for each kind of expression.
use Rattle.std.proofs.Common.{◌≡◌, ◌∙◌, ◌||◌, Bool, true, false, List, [], ◌∷◌, ℕ, map, ap, sym, refl, Option, Some, None}
use Rattle.sql_reader.specs.declared.tree.expr.Aggregate.{Aggregate}
use Rattle.sql_reader.specs.declared.tree.expr.Arm.{Arm, out-Arm}
use Rattle.sql_reader.specs.declared.tree.expr.Comparison.{Comparison}
use Rattle.sql_reader.specs.declared.tree.expr.Expr.{Expr}
use Rattle.sql_reader.specs.declared.tree.expr.Expr.TheVariants as tree
use Rattle.sql_reader.specs.declared.tree.expr.Expr.TheOpen.{Expr-F}
use Rattle.sql_reader.specs.declared.tree.expr.Expr.TheFolds.{fold-Arm, fold-Link, fold-roll-Expr, fold_out-Arm, fold_out-Link}
use Rattle.sql_reader.specs.declared.tree.expr.Link.{Link, out-Link}
use Rattle.sql_reader.specs.declared.tree.expr.Literal.{Literal}
use Rattle.sql_reader.specs.declared.tree.name.ColumnName.{ColumnName}
use Rattle.expr_resolver.specs.Scope.{last_name}
use Rattle.resolver.specs.Items.{any_true, aggregate_step, link_aggregate, arm_aggregate, has_aggregate, any_has, any_link_has, any_arm_has, last_has, no_name, name_step, column_name}

abbrev link_flag : Link → Bool
link_flag = fold-Link Bool Bool Bool aggregate_step arm_aggregate link_aggregate

abbrev arm_flag : Arm → Bool
arm_flag = fold-Arm Bool Bool Bool aggregate_step arm_aggregate link_aggregate

all_have : (es : List Expr) → any_true (map has_aggregate es) ≡ any_has es
all_have [] = refl
all_have (e ∷ es) = ap (λ z. has_aggregate e || z) (all_have es)

link_has : (link : Link) → link_flag link ≡ has_aggregate (out-Link link).operand
unfolding has_aggregate
link_has link = fold_out-Link Bool Bool Bool aggregate_step arm_aggregate link_aggregate link

links_have : (links : List Link) → any_true (map link_flag links) ≡ any_link_has links
links_have [] = refl
links_have (link ∷ links) = ap (λ z. z || any_true (map link_flag links)) (link_has link) ∙ ap (λ z. has_aggregate (out-Link link).operand || z) (links_have links)

arm_has : (arm : Arm) → arm_flag arm ≡ (has_aggregate (out-Arm arm).condition || has_aggregate (out-Arm arm).value)
unfolding has_aggregate
arm_has arm = fold_out-Arm Bool Bool Bool aggregate_step arm_aggregate link_aggregate arm

arms_have : (arms : List Arm) → any_true (map arm_flag arms) ≡ any_arm_has arms
arms_have [] = refl
arms_have (arm ∷ arms) = ap (λ z. z || any_true (map arm_flag arms)) (arm_has arm) ∙ ap (λ z. (has_aggregate (out-Arm arm).condition || has_aggregate (out-Arm arm).value) || z) (arms_have arms)

pub aggregate-Literal : (literal : Literal) → has_aggregate (tree.Literal literal) ≡ (false)
unfolding has_aggregate
aggregate-Literal literal = ap has_aggregate (sym (tree.rolls-Literal literal)) ∙ fold-roll-Expr Bool Bool Bool aggregate_step arm_aggregate link_aggregate (Expr-F.Literal literal)

pub name-Literal : (literal : Literal) → column_name (tree.Literal literal) ≡ None
unfolding column_name
name-Literal literal = ap column_name (sym (tree.rolls-Literal literal)) ∙ fold-roll-Expr (Option (List ℕ)) (Option (List ℕ)) (Option (List ℕ)) name_step no_name no_name (Expr-F.Literal literal)

pub aggregate-Column : (c : ColumnName) → has_aggregate (tree.Column c) ≡ (false)
unfolding has_aggregate
aggregate-Column c = ap has_aggregate (sym (tree.rolls-Column c)) ∙ fold-roll-Expr Bool Bool Bool aggregate_step arm_aggregate link_aggregate (Expr-F.Column c)

pub name-Column : (c : ColumnName) → column_name (tree.Column c) ≡ Some (last_name c)
unfolding column_name
name-Column c = ap column_name (sym (tree.rolls-Column c)) ∙ fold-roll-Expr (Option (List ℕ)) (Option (List ℕ)) (Option (List ℕ)) name_step no_name no_name (Expr-F.Column c)

pub aggregate-Parens : (inner : Expr) (at : ℕ) → has_aggregate (tree.Parens inner at) ≡ (has_aggregate inner)
unfolding has_aggregate
aggregate-Parens inner at = ap has_aggregate (sym (tree.rolls-Parens inner at)) ∙ fold-roll-Expr Bool Bool Bool aggregate_step arm_aggregate link_aggregate (Expr-F.Parens inner at)

pub name-Parens : (inner : Expr) (at : ℕ) → column_name (tree.Parens inner at) ≡ column_name inner
unfolding column_name
name-Parens inner at = ap column_name (sym (tree.rolls-Parens inner at)) ∙ fold-roll-Expr (Option (List ℕ)) (Option (List ℕ)) (Option (List ℕ)) name_step no_name no_name (Expr-F.Parens inner at)

pub aggregate-Negate : (operand : Expr) (at : ℕ) → has_aggregate (tree.Negate operand at) ≡ (has_aggregate operand)
unfolding has_aggregate
aggregate-Negate operand at = ap has_aggregate (sym (tree.rolls-Negate operand at)) ∙ fold-roll-Expr Bool Bool Bool aggregate_step arm_aggregate link_aggregate (Expr-F.Negate operand at)

pub name-Negate : (operand : Expr) (at : ℕ) → column_name (tree.Negate operand at) ≡ None
unfolding column_name
name-Negate operand at = ap column_name (sym (tree.rolls-Negate operand at)) ∙ fold-roll-Expr (Option (List ℕ)) (Option (List ℕ)) (Option (List ℕ)) name_step no_name no_name (Expr-F.Negate operand at)

pub aggregate-Chain : (first : Expr) (rest : List Link) → has_aggregate (tree.Chain first rest) ≡ (has_aggregate first || any_link_has rest)
unfolding has_aggregate
aggregate-Chain first rest = ap has_aggregate (sym (tree.rolls-Chain first rest)) ∙ fold-roll-Expr Bool Bool Bool aggregate_step arm_aggregate link_aggregate (Expr-F.Chain first rest) ∙ ap (λ z. has_aggregate first || z) (links_have rest)

pub name-Chain : (first : Expr) (rest : List Link) → column_name (tree.Chain first rest) ≡ None
unfolding column_name
name-Chain first rest = ap column_name (sym (tree.rolls-Chain first rest)) ∙ fold-roll-Expr (Option (List ℕ)) (Option (List ℕ)) (Option (List ℕ)) name_step no_name no_name (Expr-F.Chain first rest)

pub aggregate-Not : (operand : Expr) (at : ℕ) → has_aggregate (tree.Not operand at) ≡ (has_aggregate operand)
unfolding has_aggregate
aggregate-Not operand at = ap has_aggregate (sym (tree.rolls-Not operand at)) ∙ fold-roll-Expr Bool Bool Bool aggregate_step arm_aggregate link_aggregate (Expr-F.Not operand at)

pub name-Not : (operand : Expr) (at : ℕ) → column_name (tree.Not operand at) ≡ None
unfolding column_name
name-Not operand at = ap column_name (sym (tree.rolls-Not operand at)) ∙ fold-roll-Expr (Option (List ℕ)) (Option (List ℕ)) (Option (List ℕ)) name_step no_name no_name (Expr-F.Not operand at)

pub aggregate-Compare : (c : Comparison) (left right : Expr) (at : ℕ) → has_aggregate (tree.Compare c left right at) ≡ (has_aggregate left || has_aggregate right)
unfolding has_aggregate
aggregate-Compare c left right at = ap has_aggregate (sym (tree.rolls-Compare c left right at)) ∙ fold-roll-Expr Bool Bool Bool aggregate_step arm_aggregate link_aggregate (Expr-F.Compare c left right at)

pub name-Compare : (c : Comparison) (left right : Expr) (at : ℕ) → column_name (tree.Compare c left right at) ≡ None
unfolding column_name
name-Compare c left right at = ap column_name (sym (tree.rolls-Compare c left right at)) ∙ fold-roll-Expr (Option (List ℕ)) (Option (List ℕ)) (Option (List ℕ)) name_step no_name no_name (Expr-F.Compare c left right at)

pub aggregate-IsNull : (operand : Expr) (negated : Bool) → has_aggregate (tree.IsNull operand negated) ≡ (has_aggregate operand)
unfolding has_aggregate
aggregate-IsNull operand negated = ap has_aggregate (sym (tree.rolls-IsNull operand negated)) ∙ fold-roll-Expr Bool Bool Bool aggregate_step arm_aggregate link_aggregate (Expr-F.IsNull operand negated)

pub name-IsNull : (operand : Expr) (negated : Bool) → column_name (tree.IsNull operand negated) ≡ None
unfolding column_name
name-IsNull operand negated = ap column_name (sym (tree.rolls-IsNull operand negated)) ∙ fold-roll-Expr (Option (List ℕ)) (Option (List ℕ)) (Option (List ℕ)) name_step no_name no_name (Expr-F.IsNull operand negated)

pub aggregate-In : (operand : Expr) (negated : Bool) (list : List Expr) (at : ℕ) → has_aggregate (tree.In operand negated list at) ≡ (has_aggregate operand || any_has list)
unfolding has_aggregate
aggregate-In operand negated list at = ap has_aggregate (sym (tree.rolls-In operand negated list at)) ∙ fold-roll-Expr Bool Bool Bool aggregate_step arm_aggregate link_aggregate (Expr-F.In operand negated list at) ∙ ap (λ z. has_aggregate operand || z) (all_have list)

pub name-In : (operand : Expr) (negated : Bool) (list : List Expr) (at : ℕ) → column_name (tree.In operand negated list at) ≡ None
unfolding column_name
name-In operand negated list at = ap column_name (sym (tree.rolls-In operand negated list at)) ∙ fold-roll-Expr (Option (List ℕ)) (Option (List ℕ)) (Option (List ℕ)) name_step no_name no_name (Expr-F.In operand negated list at)

pub aggregate-Like : (operand : Expr) (negated : Bool) (pattern : Literal) (at : ℕ) → has_aggregate (tree.Like operand negated pattern at) ≡ (has_aggregate operand)
unfolding has_aggregate
aggregate-Like operand negated pattern at = ap has_aggregate (sym (tree.rolls-Like operand negated pattern at)) ∙ fold-roll-Expr Bool Bool Bool aggregate_step arm_aggregate link_aggregate (Expr-F.Like operand negated pattern at)

pub name-Like : (operand : Expr) (negated : Bool) (pattern : Literal) (at : ℕ) → column_name (tree.Like operand negated pattern at) ≡ None
unfolding column_name
name-Like operand negated pattern at = ap column_name (sym (tree.rolls-Like operand negated pattern at)) ∙ fold-roll-Expr (Option (List ℕ)) (Option (List ℕ)) (Option (List ℕ)) name_step no_name no_name (Expr-F.Like operand negated pattern at)

pub aggregate-Between : (operand : Expr) (negated : Bool) (low high : Expr) (at : ℕ) → has_aggregate (tree.Between operand negated low high at) ≡ (has_aggregate operand || has_aggregate low || has_aggregate high)
unfolding has_aggregate
aggregate-Between operand negated low high at = ap has_aggregate (sym (tree.rolls-Between operand negated low high at)) ∙ fold-roll-Expr Bool Bool Bool aggregate_step arm_aggregate link_aggregate (Expr-F.Between operand negated low high at)

pub name-Between : (operand : Expr) (negated : Bool) (low high : Expr) (at : ℕ) → column_name (tree.Between operand negated low high at) ≡ None
unfolding column_name
name-Between operand negated low high at = ap column_name (sym (tree.rolls-Between operand negated low high at)) ∙ fold-roll-Expr (Option (List ℕ)) (Option (List ℕ)) (Option (List ℕ)) name_step no_name no_name (Expr-F.Between operand negated low high at)

pub aggregate-CountAll : (at : ℕ) → has_aggregate (tree.CountAll at) ≡ (true)
unfolding has_aggregate
aggregate-CountAll at = ap has_aggregate (sym (tree.rolls-CountAll at)) ∙ fold-roll-Expr Bool Bool Bool aggregate_step arm_aggregate link_aggregate (Expr-F.CountAll at)

pub name-CountAll : (at : ℕ) → column_name (tree.CountAll at) ≡ None
unfolding column_name
name-CountAll at = ap column_name (sym (tree.rolls-CountAll at)) ∙ fold-roll-Expr (Option (List ℕ)) (Option (List ℕ)) (Option (List ℕ)) name_step no_name no_name (Expr-F.CountAll at)

pub aggregate-Aggregate : (a : Aggregate) (operand : Expr) (at : ℕ) → has_aggregate (tree.Aggregate a operand at) ≡ (true)
unfolding has_aggregate
aggregate-Aggregate a operand at = ap has_aggregate (sym (tree.rolls-Aggregate a operand at)) ∙ fold-roll-Expr Bool Bool Bool aggregate_step arm_aggregate link_aggregate (Expr-F.Aggregate a operand at)

pub name-Aggregate : (a : Aggregate) (operand : Expr) (at : ℕ) → column_name (tree.Aggregate a operand at) ≡ None
unfolding column_name
name-Aggregate a operand at = ap column_name (sym (tree.rolls-Aggregate a operand at)) ∙ fold-roll-Expr (Option (List ℕ)) (Option (List ℕ)) (Option (List ℕ)) name_step no_name no_name (Expr-F.Aggregate a operand at)

pub aggregate-Coalesce : (list : List Expr) (at : ℕ) → has_aggregate (tree.Coalesce list at) ≡ (any_has list)
unfolding has_aggregate
aggregate-Coalesce list at = ap has_aggregate (sym (tree.rolls-Coalesce list at)) ∙ fold-roll-Expr Bool Bool Bool aggregate_step arm_aggregate link_aggregate (Expr-F.Coalesce list at) ∙ all_have list

pub name-Coalesce : (list : List Expr) (at : ℕ) → column_name (tree.Coalesce list at) ≡ None
unfolding column_name
name-Coalesce list at = ap column_name (sym (tree.rolls-Coalesce list at)) ∙ fold-roll-Expr (Option (List ℕ)) (Option (List ℕ)) (Option (List ℕ)) name_step no_name no_name (Expr-F.Coalesce list at)

pub aggregate-Case : (arms : List Arm) (otherwise : Option Expr) (at : ℕ) → has_aggregate (tree.Case arms otherwise at) ≡ (any_arm_has arms || last_has otherwise)
unfolding has_aggregate
aggregate-Case arms None at = ap has_aggregate (sym (tree.rolls-Case arms None at)) ∙ fold-roll-Expr Bool Bool Bool aggregate_step arm_aggregate link_aggregate (Expr-F.Case arms None at) ∙ ap (λ z. z || false) (arms_have arms)
aggregate-Case arms (Some e) at = ap has_aggregate (sym (tree.rolls-Case arms (Some e) at)) ∙ fold-roll-Expr Bool Bool Bool aggregate_step arm_aggregate link_aggregate (Expr-F.Case arms (Some e) at) ∙ ap (λ z. z || has_aggregate e) (arms_have arms)

pub name-Case : (arms : List Arm) (otherwise : Option Expr) (at : ℕ) → column_name (tree.Case arms otherwise at) ≡ None
unfolding column_name
name-Case arms otherwise at = ap column_name (sym (tree.rolls-Case arms otherwise at)) ∙ fold-roll-Expr (Option (List ℕ)) (Option (List ℕ)) (Option (List ℕ)) name_step no_name no_name (Expr-F.Case arms otherwise at)

pub ruleset aggregate_of_kinds = (aggregate-Literal, aggregate-Column, aggregate-Parens, aggregate-Negate, aggregate-Chain, aggregate-Not, aggregate-Compare, aggregate-IsNull, aggregate-In, aggregate-Like, aggregate-Between, aggregate-CountAll, aggregate-Aggregate, aggregate-Coalesce, aggregate-Case)

pub ruleset name_of_kinds = (name-Literal, name-Column, name-Parens, name-Negate, name-Chain, name-Not, name-Compare, name-IsNull, name-In, name-Like, name-Between, name-CountAll, name-Aggregate, name-Coalesce, name-Case)
