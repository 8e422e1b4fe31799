-- Induction over the expressions of trees, one case for each kind.
use Rattle.std.proofs.Common.{Bool, List, [], ◌∷◌, ℕ, Option, Some, None, map, sym, subst}
use Rattle.std.specs.List.{AllByRecursion}
use Rattle.sql_reader.specs.declared.tree.expr.Aggregate.{Aggregate}
use Rattle.sql_reader.specs.declared.tree.expr.Arm.{Arm, out-Arm}
use Rattle.sql_reader.specs.declared.tree.expr.Comparison.{Comparison}
use Rattle.sql_reader.specs.declared.tree.expr.Expr.{Expr}
use Rattle.sql_reader.specs.declared.tree.expr.Expr.TheVariants as tree
use Rattle.sql_reader.specs.declared.tree.expr.Expr.TheOpen.{Expr-F}
use Rattle.sql_reader.specs.declared.tree.expr.Expr.TheFolds.{ind-Expr, map-Expr}
use Rattle.sql_reader.specs.declared.tree.expr.Expr.TheViews.{roll-Expr}
use Rattle.sql_reader.specs.declared.tree.expr.Link.{Link, out-Link}
use Rattle.sql_reader.specs.declared.tree.expr.Literal.{Literal}
use Rattle.sql_reader.specs.declared.tree.name.ColumnName.{ColumnName}

module _ (P : Expr → Type 0) where
  abbrev pub OfArm : Arm → Type 0
  OfArm arm = P (out-Arm arm).condition × P (out-Arm arm).value

  abbrev pub OfLink : Link → Type 0
  OfLink link = P (out-Link link).operand

  abbrev pub OfLast : Option Expr → Type 0
  OfLast None = Unit {0}
  OfLast (Some e) = P e

  pub record Cases : Type 0 where
    pub onLiteral : (literal : Literal) → P (tree.Literal literal)
    pub onColumn : (c : ColumnName) → P (tree.Column c)
    pub onParens : (inner : Expr) (at : ℕ) → P inner → P (tree.Parens inner at)
    pub onNegate : (operand : Expr) (at : ℕ) → P operand → P (tree.Negate operand at)
    pub onChain : (first : Expr) (rest : List Link) → P first → AllByRecursion OfLink rest → P (tree.Chain first rest)
    pub onNot : (operand : Expr) (at : ℕ) → P operand → P (tree.Not operand at)
    pub onCompare : (c : Comparison) (left right : Expr) (at : ℕ) → P left → P right → P (tree.Compare c left right at)
    pub onIsNull : (operand : Expr) (negated : Bool) → P operand → P (tree.IsNull operand negated)
    pub onIn : (operand : Expr) (negated : Bool) (list : List Expr) (at : ℕ) → P operand → AllByRecursion P list → P (tree.In operand negated list at)
    pub onLike : (operand : Expr) (negated : Bool) (pattern : Literal) (at : ℕ) → P operand → P (tree.Like operand negated pattern at)
    pub onBetween : (operand : Expr) (negated : Bool) (low high : Expr) (at : ℕ) → P operand → P low → P high → P (tree.Between operand negated low high at)
    pub onCountAll : (at : ℕ) → P (tree.CountAll at)
    pub onAggregate : (a : Aggregate) (operand : Expr) (at : ℕ) → P operand → P (tree.Aggregate a operand at)
    pub onCoalesce : (list : List Expr) (at : ℕ) → AllByRecursion P list → P (tree.Coalesce list at)
    pub onCase : (arms : List Arm) (otherwise : Option Expr) (at : ℕ) → AllByRecursion OfArm arms → OfLast otherwise → P (tree.Case arms otherwise at)

  abbrev Known : Type 0
  Known = (e : Expr) × P e

  abbrev KnownArm : Type 0
  KnownArm = (arm : Arm) × OfArm arm

  abbrev KnownLink : Type 0
  KnownLink = (link : Link) × OfLink link

  known : (es : List Known) → AllByRecursion P (map (λ e. e.0) es)
  known [] = tt
  known (e ∷ es) = (e.1, known es)

  known_arms : (arms : List KnownArm) → AllByRecursion OfArm (map (λ arm. arm.0) arms)
  known_arms [] = tt
  known_arms (arm ∷ arms) = (arm.1, known_arms arms)

  known_links : (links : List KnownLink) → AllByRecursion OfLink (map (λ link. link.0) links)
  known_links [] = tt
  known_links (link ∷ links) = (link.1, known_links links)

  module _ (c : Cases) where
    layer : (y : Expr-F Known KnownArm KnownLink) → P (roll-Expr (map-Expr Known KnownArm KnownLink Expr Arm Link (λ e. e.0) (λ e. e.0) (λ e. e.0) y))
    layer (Expr-F.Literal literal) = subst P (sym (tree.rolls-Literal literal)) (c.onLiteral literal)
    layer (Expr-F.Column name) = subst P (sym (tree.rolls-Column name)) (c.onColumn name)
    layer (Expr-F.Parens inner at) = subst P (sym (tree.rolls-Parens inner.0 at)) (c.onParens inner.0 at inner.1)
    layer (Expr-F.Negate operand at) = subst P (sym (tree.rolls-Negate operand.0 at)) (c.onNegate operand.0 at operand.1)
    layer (Expr-F.Chain first rest) = subst P (sym (tree.rolls-Chain first.0 (map (λ link. link.0) rest))) (c.onChain first.0 (map (λ link. link.0) rest) first.1 (known_links rest))
    layer (Expr-F.Not operand at) = subst P (sym (tree.rolls-Not operand.0 at)) (c.onNot operand.0 at operand.1)
    layer (Expr-F.Compare comparison left right at) = subst P (sym (tree.rolls-Compare comparison left.0 right.0 at)) (c.onCompare comparison left.0 right.0 at left.1 right.1)
    layer (Expr-F.IsNull operand negated) = subst P (sym (tree.rolls-IsNull operand.0 negated)) (c.onIsNull operand.0 negated operand.1)
    layer (Expr-F.In operand negated list at) = subst P (sym (tree.rolls-In operand.0 negated (map (λ e. e.0) list) at)) (c.onIn operand.0 negated (map (λ e. e.0) list) at operand.1 (known list))
    layer (Expr-F.Like operand negated pattern at) = subst P (sym (tree.rolls-Like operand.0 negated pattern at)) (c.onLike operand.0 negated pattern at operand.1)
    layer (Expr-F.Between operand negated low high at) = subst P (sym (tree.rolls-Between operand.0 negated low.0 high.0 at)) (c.onBetween operand.0 negated low.0 high.0 at operand.1 low.1 high.1)
    layer (Expr-F.CountAll at) = subst P (sym (tree.rolls-CountAll at)) (c.onCountAll at)
    layer (Expr-F.Aggregate a operand at) = subst P (sym (tree.rolls-Aggregate a operand.0 at)) (c.onAggregate a operand.0 at operand.1)
    layer (Expr-F.Coalesce list at) = subst P (sym (tree.rolls-Coalesce (map (λ e. e.0) list) at)) (c.onCoalesce (map (λ e. e.0) list) at (known list))
    layer (Expr-F.Case arms None at) = subst P (sym (tree.rolls-Case (map (λ arm. arm.0) arms) None at)) (c.onCase (map (λ arm. arm.0) arms) None at (known_arms arms) tt)
    layer (Expr-F.Case arms (Some last) at) = subst P (sym (tree.rolls-Case (map (λ arm. arm.0) arms) (Some last.0) at)) (c.onCase (map (λ arm. arm.0) arms) (Some last.0) at (known_arms arms) last.1)

    pub by_kinds : (e : Expr) → P e
    by_kinds = ind-Expr P OfArm OfLink (λ x y is. subst (λ z. P (roll-Expr z)) is (layer y))
        (λ x y is. subst (λ z. P z.condition × P z.value) is (y.condition.1, y.value.1))
        (λ x y is. subst (λ z. P z.operand) is y.operand.1)
