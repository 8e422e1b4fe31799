-- The conditions of the worked queries are conditions over an integer and a text.
use Rattle.std.proofs.Common.{◌≡◌, ◌∙◌, ℕ, ◌&&◌, true, List, [], ◌∷◌, slice_get, pos, ap, sym, refl}
use Rattle.vdb_base.specs.declared.value.Ty.{Ty}
use Rattle.vdb_base.specs.declared.value.Ty.TheVariants.{Boolean, Integer, Str as Text}
use Rattle.vdb_base.specs.declared.value.Value.{Value}
use Rattle.vdb_base.specs.declared.value.Value.TheVariants.{Num, Str}
use Rattle.vdb_model.specs.declared.expr.CmpOp.{CmpOp}
use Rattle.vdb_model.specs.declared.expr.CmpOp.TheVariants.{Eq, Lt}
use Rattle.vdb_model.specs.declared.expr.Expr.{Expr}
use Rattle.vdb_model.specs.declared.expr.Expr.TheFolds.{fold-roll-Expr}
use Rattle.vdb_model.specs.declared.expr.Expr.TheOpen.{Expr-F}
use Rattle.vdb_model.specs.declared.expr.Expr.TheVariants.{Col, Const, Cmp, rolls-Col, rolls-Const, rolls-Cmp}
use Rattle.vdb_model.specs.Typed.{Types, is_of, is_some_type, alike, typed_step, arm_types, has_type}
use Rattle.vdb_model.specs.Asking.{all_conditions}

abbrev columns : List Ty
columns = Integer ∷ Text ∷ []

column_types : (at : ℕ) → has_type columns [] (Col at) ≡ (λ t. is_some_type t (slice_get columns at))
unfolding has_type
column_types at = ap (has_type columns []) (sym (rolls-Col at)) ∙ fold-roll-Expr Types (Types × Types) (typed_step columns []) arm_types (Expr-F.Col at)

constant_types : (v : Value) → has_type columns [] (Const v) ≡ (λ t. is_of t v)
unfolding has_type
constant_types v = ap (has_type columns []) (sym (rolls-Const v)) ∙ fold-roll-Expr Types (Types × Types) (typed_step columns []) arm_types (Expr-F.Const v)

compared_types : (o : CmpOp) (a b : Expr) → has_type columns [] (Cmp o a b) Boolean ≡ alike (has_type columns [] a) (has_type columns [] b)
unfolding has_type
compared_types o a b =
    ap (λ e. has_type columns [] e Boolean) (sym (rolls-Cmp o a b)) ∙ ap (λ (f : Types). f Boolean) (fold-roll-Expr Types (Types × Types) (typed_step columns []) arm_types (Expr-F.Cmp o a b))

one_condition : (o : CmpOp) (at : ℕ) (v : Value) → all_conditions columns (Cmp o (Col at) (Const v) ∷ []) ≡ (alike (λ t. is_some_type t (slice_get columns at)) (λ t. is_of t v) && true)
one_condition o at v =
    ap (λ b. b && true) (compared_types o (Col at) (Const v) ∙ ap (λ a. alike a (has_type columns [] (Const v))) (column_types at) ∙ ap (alike (λ t. is_some_type t (slice_get columns at))) (constant_types v))

pub name_is_typed : (name : List ℕ) → all_conditions (Integer ∷ Text ∷ []) (Cmp Eq (Col 1) (Const (Str name)) ∷ []) ≡ true
name_is_typed name = one_condition Eq 1 (Str name) ∙ refl

pub id_is_typed : all_conditions (Integer ∷ Text ∷ []) (Cmp Lt (Col 0) (Const (Num (pos 3))) ∷ []) ≡ true
id_is_typed = one_condition Lt 0 (Num (pos 3)) ∙ refl
