-- The equations of `form`, one for each kind of expression.
use Rattle.std.proofs.Common.{◌≡◌, ◌∙◌, List, [], ◌∷◌, ℕ, map, ap, sym, refl, Bool, false, ◌&&◌}
use Rattle.vdb_base.specs.declared.value.Value.{Value}
use Rattle.vdb_model.specs.declared.expr.Expr.{Expr}
use Rattle.vdb_model.specs.declared.expr.Arm.{Arm}
use Rattle.vdb_model.specs.declared.expr.CmpOp.{CmpOp}
use Rattle.vdb_model.specs.declared.expr.ArithOp.{ArithOp}
use Rattle.vdb_model.specs.declared.expr.Expr.TheVariants.{Col, Var, Const, Not, And, Or, Cmp, IsNull, In, Like, Arith, Neg, Concat, Case, Coalesce, rolls-Col, rolls-Var, rolls-Const, rolls-Not, rolls-And, rolls-Or, rolls-Cmp, rolls-IsNull, rolls-In, rolls-Like, rolls-Arith, rolls-Neg, rolls-Concat, rolls-Case, rolls-Coalesce}
use Rattle.vdb_model.specs.declared.expr.Expr.TheOpen.{Expr-F}
use Rattle.vdb_model.specs.declared.expr.Expr.TheFolds.{fold-roll-Expr}
use Rattle.std.specs.Prelude.{◌||◌, nat_le, length, Some, None}
use Rattle.vdb_model.specs.declared.source.Caps.{Caps}
use Rattle.vdb_model.specs.Can.{Form, criterion, is_column, good_constant, compares, is_equality, far, any_form, all_allowed, all_constants, form_step, no_arm, form, forms}

module _ (caps : Caps) (widths : List ℕ) where
  same_list : (es : List Expr) → map (form caps widths) es ≡ forms caps widths es
  same_list [] = refl
  same_list (e ∷ es) = ap (λ fs. form caps widths e ∷ fs) (same_list es)

  pub form-Col : (at : ℕ) → form caps widths (Col at) ≡ record { column = Some at; constant = None; allowed = false }
  unfolding form
  form-Col at = ap (form caps widths) (sym (rolls-Col at)) ∙ fold-roll-Expr Form Bool (form_step caps widths) no_arm (Expr-F.Col at)

  pub form-Var : (at : ℕ) → form caps widths (Var at) ≡ criterion false
  unfolding form
  form-Var at = ap (form caps widths) (sym (rolls-Var at)) ∙ fold-roll-Expr Form Bool (form_step caps widths) no_arm (Expr-F.Var at)

  pub form-Const : (v : Value) → form caps widths (Const v) ≡ record { column = None; constant = Some v; allowed = false }
  unfolding form
  form-Const v = ap (form caps widths) (sym (rolls-Const v)) ∙ fold-roll-Expr Form Bool (form_step caps widths) no_arm (Expr-F.Const v)

  pub form-Not : (e : Expr) → form caps widths (Not e) ≡ criterion (caps.not && (form caps widths e).allowed)
  unfolding form
  form-Not e = ap (form caps widths) (sym (rolls-Not e)) ∙ fold-roll-Expr Form Bool (form_step caps widths) no_arm (Expr-F.Not e)

  pub form-And : (es : List Expr) → form caps widths (And es) ≡ criterion (any_form (forms caps widths es) && all_allowed (forms caps widths es))
  unfolding form
  form-And es = ap (form caps widths) (sym (rolls-And es)) ∙ fold-roll-Expr Form Bool (form_step caps widths) no_arm (Expr-F.And es) ∙ ap (λ z. criterion (any_form z && all_allowed z)) (same_list es)

  pub form-Or : (es : List Expr) → form caps widths (Or es) ≡ criterion (caps.or && any_form (forms caps widths es) && all_allowed (forms caps widths es))
  unfolding form
  form-Or es = ap (form caps widths) (sym (rolls-Or es)) ∙ fold-roll-Expr Form Bool (form_step caps widths) no_arm (Expr-F.Or es) ∙ ap (λ z. criterion (caps.or && any_form z && all_allowed z)) (same_list es)

  pub form-Cmp : (op : CmpOp) (a : Expr) (b : Expr) → form caps widths (Cmp op a b) ≡ criterion ((is_column (form caps widths a) && good_constant caps (form caps widths b) && compares caps op) || (is_equality op && caps.joins && far widths (form caps widths a).column (form caps widths b).column))
  unfolding form
  form-Cmp op a b = ap (form caps widths) (sym (rolls-Cmp op a b)) ∙ fold-roll-Expr Form Bool (form_step caps widths) no_arm (Expr-F.Cmp op a b)

  pub form-IsNull : (e : Expr) → form caps widths (IsNull e) ≡ criterion (is_column (form caps widths e) && caps.is_null)
  unfolding form
  form-IsNull e = ap (form caps widths) (sym (rolls-IsNull e)) ∙ fold-roll-Expr Form Bool (form_step caps widths) no_arm (Expr-F.IsNull e)

  pub form-In : (e : Expr) (es : List Expr) → form caps widths (In e es) ≡ criterion (is_column (form caps widths e) && any_form (forms caps widths es) && nat_le (length (forms caps widths es)) caps.in_max && all_constants caps (forms caps widths es))
  unfolding form
  form-In e es = ap (form caps widths) (sym (rolls-In e es)) ∙ fold-roll-Expr Form Bool (form_step caps widths) no_arm (Expr-F.In e es) ∙ ap (λ z. criterion (is_column (form caps widths e) && any_form z && nat_le (length z) caps.in_max && all_constants caps z)) (same_list es)

  pub form-Like : (e : Expr) (pattern : List ℕ) → form caps widths (Like e pattern) ≡ criterion (is_column (form caps widths e) && caps.like)
  unfolding form
  form-Like e pattern = ap (form caps widths) (sym (rolls-Like e pattern)) ∙ fold-roll-Expr Form Bool (form_step caps widths) no_arm (Expr-F.Like e pattern)

  pub form-Arith : (op : ArithOp) (a : Expr) (b : Expr) → form caps widths (Arith op a b) ≡ criterion false
  unfolding form
  form-Arith op a b = ap (form caps widths) (sym (rolls-Arith op a b)) ∙ fold-roll-Expr Form Bool (form_step caps widths) no_arm (Expr-F.Arith op a b)

  pub form-Neg : (e : Expr) → form caps widths (Neg e) ≡ criterion false
  unfolding form
  form-Neg e = ap (form caps widths) (sym (rolls-Neg e)) ∙ fold-roll-Expr Form Bool (form_step caps widths) no_arm (Expr-F.Neg e)

  pub form-Concat : (es : List Expr) → form caps widths (Concat es) ≡ criterion false
  unfolding form
  form-Concat es = ap (form caps widths) (sym (rolls-Concat es)) ∙ fold-roll-Expr Form Bool (form_step caps widths) no_arm (Expr-F.Concat es)

  pub form-Case : (arms : List Arm) (last : Expr) → form caps widths (Case arms last) ≡ criterion false
  unfolding form
  form-Case arms last = ap (form caps widths) (sym (rolls-Case arms last)) ∙ fold-roll-Expr Form Bool (form_step caps widths) no_arm (Expr-F.Case arms last)

  pub form-Coalesce : (es : List Expr) → form caps widths (Coalesce es) ≡ criterion false
  unfolding form
  form-Coalesce es = ap (form caps widths) (sym (rolls-Coalesce es)) ∙ fold-roll-Expr Form Bool (form_step caps widths) no_arm (Expr-F.Coalesce es)

pub ruleset form_of_kinds = (form-Col, form-Var, form-Const, form-Not, form-And, form-Or, form-Cmp, form-IsNull, form-In, form-Like, form-Arith, form-Neg, form-Concat, form-Case, form-Coalesce)
