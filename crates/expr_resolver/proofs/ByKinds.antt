-- The equations of `walk`, one for each kind of expression.
use Rattle.std.proofs.Common.{◌≡◌, ◌∙◌, Bool, List, [], ◌∷◌, ℕ, map, length, ap, sym, refl, Option, Some, None}
use Rattle.vdb_model.specs.declared.rel.Agg.{Agg}
use Rattle.sql_reader.specs.declared.tree.expr.Aggregate.{Aggregate}
use Rattle.sql_reader.specs.declared.tree.expr.Arm.{Arm}
use Rattle.sql_reader.specs.declared.tree.expr.Comparison.{Comparison}
use Rattle.sql_reader.specs.declared.tree.expr.Expr.{Expr}
use Rattle.sql_reader.specs.declared.tree.expr.Expr.TheVariants as tree
use Rattle.sql_reader.specs.declared.tree.expr.Expr.TheOpen.{Expr-F}
use Rattle.sql_reader.specs.declared.tree.expr.Expr.TheFolds.{fold-Arm, fold-Link, fold-roll-Expr, fold_out-Arm, fold_out-Link}
use Rattle.sql_reader.specs.declared.tree.expr.Link.{Link}
use Rattle.sql_reader.specs.declared.tree.expr.Literal.{Literal}
use Rattle.sql_reader.specs.declared.tree.name.ColumnName.{ColumnName}
use Rattle.expr_resolver.specs.declared.scope.Names.{Names}
use Rattle.expr_resolver.specs.declared.scope.Over.{Over}
use Rattle.expr_resolver.specs.declared.scope.Over.TheVariants.{Rows}
use Rattle.expr_resolver.specs.Walking.{next, given, in_turn, one, two, three, all}
use Rattle.expr_resolver.specs.Scope.{column_seen, first_place}
use Rattle.expr_resolver.specs.Operators as op
use Rattle.expr_resolver.specs.Exprs.{Part, ArmPart, LinkPart, walk_step, arm_step, link_step, walk, walks, items, chain, arms_in, last_in, parts_of, link_of, links_of, arm_of, arms_of, part_of}

module _ (names : Names) where
  abbrev link_part : Link → LinkPart
  link_part = fold-Link Part ArmPart LinkPart (walk_step names) arm_step link_step

  abbrev arm_part : Arm → ArmPart
  arm_part = fold-Arm Part ArmPart LinkPart (walk_step names) arm_step link_step

  pub parts_same : (es : List Expr) → map (walk names) es ≡ parts_of names es
  parts_same [] = refl
  parts_same (e ∷ es) = ap (λ z. walk names e ∷ z) (parts_same es)

  link_same : (link : Link) → link_part link ≡ link_of names link
  unfolding walk
  link_same link = fold_out-Link Part ArmPart LinkPart (walk_step names) arm_step link_step link

  pub links_same : (links : List Link) → map link_part links ≡ links_of names links
  links_same [] = refl
  links_same (link ∷ links) = ap (λ z. z ∷ map link_part links) (link_same link) ∙ ap (λ z. link_of names link ∷ z) (links_same links)

  arm_same : (arm : Arm) → arm_part arm ≡ arm_of names arm
  unfolding walk
  arm_same arm = fold_out-Arm Part ArmPart LinkPart (walk_step names) arm_step link_step arm

  pub arms_same : (arms : List Arm) → map arm_part arms ≡ arms_of names arms
  arms_same [] = refl
  arms_same (arm ∷ arms) = ap (λ z. z ∷ map arm_part arms) (arm_same arm) ∙ ap (λ z. arm_of names arm ∷ z) (arms_same arms)

module _ (names : Names) (over : Over) (aggs : List Agg) where
  pub walk-Literal : (literal : Literal) → walk names (tree.Literal literal) over aggs ≡ given (op.literal_of literal) aggs
  unfolding walk
  walk-Literal literal =
      ap (λ e. walk names e over aggs) (sym (tree.rolls-Literal literal)) ∙ ap (λ p. p over aggs) (fold-roll-Expr Part ArmPart LinkPart (walk_step names) arm_step link_step (Expr-F.Literal literal))

  pub walk-Column : (c : ColumnName) → walk names (tree.Column c) over aggs ≡ given (next (column_seen names over c) (op.column_at (first_place c))) aggs
  unfolding walk
  walk-Column c =
      ap (λ e. walk names e over aggs) (sym (tree.rolls-Column c)) ∙ ap (λ p. p over aggs) (fold-roll-Expr Part ArmPart LinkPart (walk_step names) arm_step link_step (Expr-F.Column c))

  pub walk-Parens : (inner : Expr) (at : ℕ) → walk names (tree.Parens inner at) over aggs ≡ one (walk names inner over) (op.in_parens at) aggs
  unfolding walk
  walk-Parens inner at =
      ap (λ e. walk names e over aggs) (sym (tree.rolls-Parens inner at)) ∙ ap (λ p. p over aggs) (fold-roll-Expr Part ArmPart LinkPart (walk_step names) arm_step link_step (Expr-F.Parens inner at))

  pub walk-Negate : (operand : Expr) (at : ℕ) → walk names (tree.Negate operand at) over aggs ≡ one (walk names operand over) (op.negative at) aggs
  unfolding walk
  walk-Negate operand at =
      ap (λ e. walk names e over aggs) (sym (tree.rolls-Negate operand at)) ∙ ap (λ p. p over aggs) (fold-roll-Expr Part ArmPart LinkPart (walk_step names) arm_step link_step (Expr-F.Negate operand at))

  pub walk-Chain : (first : Expr) (rest : List Link) → walk names (tree.Chain first rest) over aggs ≡ in_turn (walk names first over) (chain over (links_of names rest)) aggs
  unfolding walk
  walk-Chain first rest =
      ap (λ e. walk names e over aggs) (sym (tree.rolls-Chain first rest)) ∙ ap (λ p. p over aggs) (fold-roll-Expr Part ArmPart LinkPart (walk_step names) arm_step link_step (Expr-F.Chain first rest)) ∙ ap (λ z. in_turn (walk names first over) (chain over z) aggs) (links_same names rest)

  pub walk-Not : (operand : Expr) (at : ℕ) → walk names (tree.Not operand at) over aggs ≡ one (walk names operand over) (op.not_of at) aggs
  unfolding walk
  walk-Not operand at =
      ap (λ e. walk names e over aggs) (sym (tree.rolls-Not operand at)) ∙ ap (λ p. p over aggs) (fold-roll-Expr Part ArmPart LinkPart (walk_step names) arm_step link_step (Expr-F.Not operand at))

  pub walk-Compare : (c : Comparison) (left right : Expr) (at : ℕ) → walk names (tree.Compare c left right at) over aggs ≡ two (walk names left over) (walk names right over) (op.compared c at) aggs
  unfolding walk
  walk-Compare c left right at =
      ap (λ e. walk names e over aggs) (sym (tree.rolls-Compare c left right at)) ∙ ap (λ p. p over aggs) (fold-roll-Expr Part ArmPart LinkPart (walk_step names) arm_step link_step (Expr-F.Compare c left right at))

  pub walk-IsNull : (operand : Expr) (negated : Bool) → walk names (tree.IsNull operand negated) over aggs ≡ one (walk names operand over) (op.null_test negated) aggs
  unfolding walk
  walk-IsNull operand negated =
      ap (λ e. walk names e over aggs) (sym (tree.rolls-IsNull operand negated)) ∙ ap (λ p. p over aggs) (fold-roll-Expr Part ArmPart LinkPart (walk_step names) arm_step link_step (Expr-F.IsNull operand negated))

  pub walk-In : (operand : Expr) (negated : Bool) (list : List Expr) (at : ℕ) → walk names (tree.In operand negated list at) over aggs ≡ two (walk names operand over) (all (items over (parts_of names list)) []) (op.in_list negated at) aggs
  unfolding walk
  walk-In operand negated list at =
      ap (λ e. walk names e over aggs) (sym (tree.rolls-In operand negated list at)) ∙ ap (λ p. p over aggs) (fold-roll-Expr Part ArmPart LinkPart (walk_step names) arm_step link_step (Expr-F.In operand negated list at)) ∙ ap (λ z. two (walk names operand over) (all (items over z) []) (op.in_list negated at) aggs) (parts_same names list)

  pub walk-Like : (operand : Expr) (negated : Bool) (pattern : Literal) (at : ℕ) → walk names (tree.Like operand negated pattern at) over aggs ≡ one (walk names operand over) (op.like_test negated at pattern) aggs
  unfolding walk
  walk-Like operand negated pattern at =
      ap (λ e. walk names e over aggs) (sym (tree.rolls-Like operand negated pattern at)) ∙ ap (λ p. p over aggs) (fold-roll-Expr Part ArmPart LinkPart (walk_step names) arm_step link_step (Expr-F.Like operand negated pattern at))

  pub walk-Between : (operand : Expr) (negated : Bool) (low high : Expr) (at : ℕ) → walk names (tree.Between operand negated low high at) over aggs ≡ three (walk names operand over) (walk names low over) (walk names high over) (op.between negated at) aggs
  unfolding walk
  walk-Between operand negated low high at =
      ap (λ e. walk names e over aggs) (sym (tree.rolls-Between operand negated low high at)) ∙ ap (λ p. p over aggs) (fold-roll-Expr Part ArmPart LinkPart (walk_step names) arm_step link_step (Expr-F.Between operand negated low high at))

  pub walk-CountAll : (at : ℕ) → walk names (tree.CountAll at) over aggs ≡ op.count_all over (length names.keys) at aggs
  unfolding walk
  walk-CountAll at =
      ap (λ e. walk names e over aggs) (sym (tree.rolls-CountAll at)) ∙ ap (λ p. p over aggs) (fold-roll-Expr Part ArmPart LinkPart (walk_step names) arm_step link_step (Expr-F.CountAll at))

  pub walk-Aggregate : (a : Aggregate) (operand : Expr) (at : ℕ) → walk names (tree.Aggregate a operand at) over aggs ≡ in_turn (walk names operand Rows) (op.aggregate_of over (length names.keys) a at) aggs
  unfolding walk
  walk-Aggregate a operand at =
      ap (λ e. walk names e over aggs) (sym (tree.rolls-Aggregate a operand at)) ∙ ap (λ p. p over aggs) (fold-roll-Expr Part ArmPart LinkPart (walk_step names) arm_step link_step (Expr-F.Aggregate a operand at))

  pub walk-Coalesce : (list : List Expr) (at : ℕ) → walk names (tree.Coalesce list at) over aggs ≡ one (all (walks over (parts_of names list)) []) (op.first_of at) aggs
  unfolding walk
  walk-Coalesce list at =
      ap (λ e. walk names e over aggs) (sym (tree.rolls-Coalesce list at)) ∙ ap (λ p. p over aggs) (fold-roll-Expr Part ArmPart LinkPart (walk_step names) arm_step link_step (Expr-F.Coalesce list at)) ∙ ap (λ z. one (all (walks over z) []) (op.first_of at) aggs) (parts_same names list)

  pub walk-Case : (arms : List Arm) (otherwise : Option Expr) (at : ℕ) → walk names (tree.Case arms otherwise at) over aggs ≡ two (all (arms_in over (arms_of names arms)) []) (last_in over at (part_of names otherwise)) (op.case_of at) aggs
  unfolding walk
  walk-Case arms None at =
      ap (λ e. walk names e over aggs) (sym (tree.rolls-Case arms None at)) ∙ ap (λ p. p over aggs) (fold-roll-Expr Part ArmPart LinkPart (walk_step names) arm_step link_step (Expr-F.Case arms None at)) ∙ ap (λ z. two (all (arms_in over z) []) (last_in over at None) (op.case_of at) aggs) (arms_same names arms)
  walk-Case arms (Some e) at =
      ap (λ e. walk names e over aggs) (sym (tree.rolls-Case arms (Some e) at)) ∙ ap (λ p. p over aggs) (fold-roll-Expr Part ArmPart LinkPart (walk_step names) arm_step link_step (Expr-F.Case arms (Some e) at)) ∙ ap (λ z. two (all (arms_in over z) []) (last_in over at (Some (walk names e))) (op.case_of at) aggs) (arms_same names arms)

pub ruleset walk_of_kinds = (walk-Literal, walk-Column, walk-Parens, walk-Negate, walk-Chain, walk-Not, walk-Compare, walk-IsNull, walk-In, walk-Like, walk-Between, walk-CountAll, walk-Aggregate, walk-Coalesce, walk-Case)
