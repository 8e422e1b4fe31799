-- The equations of `has_type`, one for each kind of expression that a walk gives.
use Rattle.std.proofs.Common.{◌≡◌, ◌∙◌, ℕ, ◌&&◌, List, [], ◌∷◌, map, slice_get, ap, sym, refl}
use Rattle.std.specs.List.{list_any}
use Rattle.vdb_base.specs.declared.value.Ty.{Ty}
use Rattle.vdb_base.specs.declared.value.Ty.TheVariants.{Boolean, Str as Text}
use Rattle.vdb_base.specs.declared.value.Value.{Value}
use Rattle.vdb_model.specs.declared.expr.ArithOp.{ArithOp}
use Rattle.vdb_model.specs.declared.expr.Arm.{Arm, out-Arm}
use Rattle.vdb_model.specs.declared.expr.CmpOp.{CmpOp}
use Rattle.vdb_model.specs.declared.expr.Expr.{Expr}
use Rattle.vdb_model.specs.declared.expr.Expr.TheFolds.{fold-Arm, fold-roll-Expr, fold_out-Arm}
use Rattle.vdb_model.specs.declared.expr.Expr.TheOpen.{Expr-F}
use Rattle.vdb_model.specs.declared.expr.Expr.TheVariants.{Col, Const, Not, And, Or, Cmp, IsNull, In, Like, Arith, Neg, Concat, Case, Coalesce, rolls-Col, rolls-Const, rolls-Not, rolls-And, rolls-Or, rolls-Cmp, rolls-IsNull, rolls-In, rolls-Like, rolls-Arith, rolls-Neg, rolls-Concat, rolls-Case, rolls-Coalesce}
use Rattle.vdb_model.specs.Typed.{Types, types, is_of, is_some_type, same_type, within, alike, all_within, all_alike, arms_within, widened, typed_step, arm_types, has_type}

module _ (cols vars : List Ty) where
  abbrev pub arm_type : Arm → Types × Types
  arm_type arm = (has_type cols vars (out-Arm arm).when, has_type cols vars (out-Arm arm).gives)

  abbrev folded : Arm → Types × Types
  folded = fold-Arm Types (Types × Types) (typed_step cols vars) arm_types

  each_arm : (arms : List Arm) → map folded arms ≡ map arm_type arms
  unfolding has_type
  each_arm [] = refl
  each_arm (arm ∷ arms) = ap (λ z. z ∷ map folded arms) (fold_out-Arm Types (Types × Types) (typed_step cols vars) arm_types arm) ∙ ap (λ z. arm_type arm ∷ z) (each_arm arms)

  pub types-Col : (at : ℕ) (t : Ty) → has_type cols vars (Col at) t ≡ (is_some_type t (slice_get cols at))
  unfolding has_type
  types-Col at t =
      ap (λ e. has_type cols vars e t) (sym (rolls-Col at)) ∙ ap (λ (f : Types). f t) (fold-roll-Expr Types (Types × Types) (typed_step cols vars) arm_types (Expr-F.Col at))

  pub types-Const : (v : Value) (t : Ty) → has_type cols vars (Const v) t ≡ (is_of t v)
  unfolding has_type
  types-Const v t =
      ap (λ e. has_type cols vars e t) (sym (rolls-Const v)) ∙ ap (λ (f : Types). f t) (fold-roll-Expr Types (Types × Types) (typed_step cols vars) arm_types (Expr-F.Const v))

  pub types-Not : (e : Expr) (t : Ty) → has_type cols vars (Not e) t ≡ (same_type Boolean t && has_type cols vars e Boolean)
  unfolding has_type
  types-Not e t =
      ap (λ e. has_type cols vars e t) (sym (rolls-Not e)) ∙ ap (λ (f : Types). f t) (fold-roll-Expr Types (Types × Types) (typed_step cols vars) arm_types (Expr-F.Not e))

  pub types-And : (es : List Expr) (t : Ty) → has_type cols vars (And es) t ≡ (same_type Boolean t && all_within Boolean (map (has_type cols vars) es))
  unfolding has_type
  types-And es t =
      ap (λ e. has_type cols vars e t) (sym (rolls-And es)) ∙ ap (λ (f : Types). f t) (fold-roll-Expr Types (Types × Types) (typed_step cols vars) arm_types (Expr-F.And es))

  pub types-Or : (es : List Expr) (t : Ty) → has_type cols vars (Or es) t ≡ (same_type Boolean t && all_within Boolean (map (has_type cols vars) es))
  unfolding has_type
  types-Or es t =
      ap (λ e. has_type cols vars e t) (sym (rolls-Or es)) ∙ ap (λ (f : Types). f t) (fold-roll-Expr Types (Types × Types) (typed_step cols vars) arm_types (Expr-F.Or es))

  pub types-Cmp : (op : CmpOp) (a b : Expr) (t : Ty) → has_type cols vars (Cmp op a b) t ≡ (same_type Boolean t && alike (has_type cols vars a) (has_type cols vars b))
  unfolding has_type
  types-Cmp op a b t =
      ap (λ e. has_type cols vars e t) (sym (rolls-Cmp op a b)) ∙ ap (λ (f : Types). f t) (fold-roll-Expr Types (Types × Types) (typed_step cols vars) arm_types (Expr-F.Cmp op a b))

  pub types-IsNull : (e : Expr) (t : Ty) → has_type cols vars (IsNull e) t ≡ (same_type Boolean t && list_any (has_type cols vars e) types)
  unfolding has_type
  types-IsNull e t =
      ap (λ e. has_type cols vars e t) (sym (rolls-IsNull e)) ∙ ap (λ (f : Types). f t) (fold-roll-Expr Types (Types × Types) (typed_step cols vars) arm_types (Expr-F.IsNull e))

  pub types-In : (e : Expr) (es : List Expr) (t : Ty) → has_type cols vars (In e es) t ≡ (same_type Boolean t && all_alike (has_type cols vars e) (map (has_type cols vars) es))
  unfolding has_type
  types-In e es t =
      ap (λ e. has_type cols vars e t) (sym (rolls-In e es)) ∙ ap (λ (f : Types). f t) (fold-roll-Expr Types (Types × Types) (typed_step cols vars) arm_types (Expr-F.In e es))

  pub types-Like : (e : Expr) (pattern : List ℕ) (t : Ty) → has_type cols vars (Like e pattern) t ≡ (same_type Boolean t && has_type cols vars e Text)
  unfolding has_type
  types-Like e pattern t =
      ap (λ e. has_type cols vars e t) (sym (rolls-Like e pattern)) ∙ ap (λ (f : Types). f t) (fold-roll-Expr Types (Types × Types) (typed_step cols vars) arm_types (Expr-F.Like e pattern))

  pub types-Arith : (op : ArithOp) (a b : Expr) (t : Ty) → has_type cols vars (Arith op a b) t ≡ (widened (λ s. within s (has_type cols vars a) && within s (has_type cols vars b)) t)
  unfolding has_type
  types-Arith op a b t =
      ap (λ e. has_type cols vars e t) (sym (rolls-Arith op a b)) ∙ ap (λ (f : Types). f t) (fold-roll-Expr Types (Types × Types) (typed_step cols vars) arm_types (Expr-F.Arith op a b))

  pub types-Neg : (e : Expr) (t : Ty) → has_type cols vars (Neg e) t ≡ (widened (λ s. within s (has_type cols vars e)) t)
  unfolding has_type
  types-Neg e t =
      ap (λ e. has_type cols vars e t) (sym (rolls-Neg e)) ∙ ap (λ (f : Types). f t) (fold-roll-Expr Types (Types × Types) (typed_step cols vars) arm_types (Expr-F.Neg e))

  pub types-Concat : (es : List Expr) (t : Ty) → has_type cols vars (Concat es) t ≡ (same_type Text t && all_within Text (map (has_type cols vars) es))
  unfolding has_type
  types-Concat es t =
      ap (λ e. has_type cols vars e t) (sym (rolls-Concat es)) ∙ ap (λ (f : Types). f t) (fold-roll-Expr Types (Types × Types) (typed_step cols vars) arm_types (Expr-F.Concat es))

  pub types-Case : (arms : List Arm) (last : Expr) (t : Ty) → has_type cols vars (Case arms last) t ≡ (arms_within t (map arm_type arms) && within t (has_type cols vars last))
  unfolding has_type
  types-Case arms last t =
      ap (λ e. has_type cols vars e t) (sym (rolls-Case arms last)) ∙ ap (λ (f : Types). f t) (fold-roll-Expr Types (Types × Types) (typed_step cols vars) arm_types (Expr-F.Case arms last)) ∙ ap (λ z. arms_within t z && within t (has_type cols vars last)) (each_arm arms)

  pub types-Coalesce : (es : List Expr) (t : Ty) → has_type cols vars (Coalesce es) t ≡ (all_within t (map (has_type cols vars) es))
  unfolding has_type
  types-Coalesce es t =
      ap (λ e. has_type cols vars e t) (sym (rolls-Coalesce es)) ∙ ap (λ (f : Types). f t) (fold-roll-Expr Types (Types × Types) (typed_step cols vars) arm_types (Expr-F.Coalesce es))
