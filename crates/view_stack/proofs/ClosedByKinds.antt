-- The equations of `is_closed`, one for each kind of expression.
use Rattle.std.proofs.Common.{◌≡◌, ◌∙◌, Bool, true, false, ◌&&◌, List, [], ◌∷◌, ℕ, map, ap, sym, refl}
use Rattle.vdb_base.specs.declared.value.Value.{Value}
use Rattle.vdb_model.specs.declared.expr.Expr.{Expr}
use Rattle.vdb_model.specs.declared.expr.Arm.{Arm, out-Arm}
use Rattle.vdb_model.specs.declared.expr.CmpOp.{CmpOp}
use Rattle.vdb_model.specs.declared.expr.ArithOp.{ArithOp}
use Rattle.vdb_model.specs.declared.expr.Expr.TheVariants.{Col, Var, Const, Not, And, Or, Cmp, IsNull, In, Like, Arith, Neg, Concat, Case, Coalesce, rolls-Col, rolls-Var, rolls-Const, rolls-Not, rolls-And, rolls-Or, rolls-Cmp, rolls-IsNull, rolls-In, rolls-Like, rolls-Arith, rolls-Neg, rolls-Concat, rolls-Case, rolls-Coalesce}
use Rattle.vdb_model.specs.declared.expr.Expr.TheOpen.{Expr-F}
use Rattle.vdb_model.specs.declared.expr.Expr.TheFolds.{fold-Arm, fold-roll-Expr, fold_out-Arm}
use Rattle.vdb_model.specs.Closed.{all_true, closed_step, closed_arm, is_closed, are_closed}

abbrev pub are_closed_arms : List Arm → Bool
are_closed_arms [] = true
are_closed_arms (arm ∷ arms) = (is_closed (out-Arm arm).when && is_closed (out-Arm arm).gives) && are_closed_arms arms

each : (es : List Expr) → all_true (map is_closed es) ≡ are_closed es
each [] = refl
each (e ∷ es) = ap (λ b. is_closed e && b) (each es)

each_arm : (arms : List Arm) → all_true (map (fold-Arm Bool Bool closed_step closed_arm) arms) ≡ are_closed_arms arms
unfolding is_closed
each_arm [] = refl
each_arm (arm ∷ arms) = ap (λ b. b && all_true (map (fold-Arm Bool Bool closed_step closed_arm) arms)) (fold_out-Arm Bool Bool closed_step closed_arm arm) ∙ ap (λ b. (is_closed (out-Arm arm).when && is_closed (out-Arm arm).gives) && b) (each_arm arms)

pub closed-Col : (at : ℕ) → is_closed (Col at) ≡ true
unfolding is_closed
closed-Col at = ap is_closed (sym (rolls-Col at)) ∙ fold-roll-Expr Bool Bool closed_step closed_arm (Expr-F.Col at)

pub closed-Var : (at : ℕ) → is_closed (Var at) ≡ false
unfolding is_closed
closed-Var at = ap is_closed (sym (rolls-Var at)) ∙ fold-roll-Expr Bool Bool closed_step closed_arm (Expr-F.Var at)

pub closed-Const : (v : Value) → is_closed (Const v) ≡ true
unfolding is_closed
closed-Const v = ap is_closed (sym (rolls-Const v)) ∙ fold-roll-Expr Bool Bool closed_step closed_arm (Expr-F.Const v)

pub closed-Not : (e : Expr) → is_closed (Not e) ≡ is_closed e
unfolding is_closed
closed-Not e = ap is_closed (sym (rolls-Not e)) ∙ fold-roll-Expr Bool Bool closed_step closed_arm (Expr-F.Not e)

pub closed-And : (es : List Expr) → is_closed (And es) ≡ are_closed es
unfolding is_closed
closed-And es = ap is_closed (sym (rolls-And es)) ∙ fold-roll-Expr Bool Bool closed_step closed_arm (Expr-F.And es) ∙ each es

pub closed-Or : (es : List Expr) → is_closed (Or es) ≡ are_closed es
unfolding is_closed
closed-Or es = ap is_closed (sym (rolls-Or es)) ∙ fold-roll-Expr Bool Bool closed_step closed_arm (Expr-F.Or es) ∙ each es

pub closed-Cmp : (op : CmpOp) (a : Expr) (b : Expr) → is_closed (Cmp op a b) ≡ (is_closed a && is_closed b)
unfolding is_closed
closed-Cmp op a b = ap is_closed (sym (rolls-Cmp op a b)) ∙ fold-roll-Expr Bool Bool closed_step closed_arm (Expr-F.Cmp op a b)

pub closed-IsNull : (e : Expr) → is_closed (IsNull e) ≡ is_closed e
unfolding is_closed
closed-IsNull e = ap is_closed (sym (rolls-IsNull e)) ∙ fold-roll-Expr Bool Bool closed_step closed_arm (Expr-F.IsNull e)

pub closed-In : (e : Expr) (es : List Expr) → is_closed (In e es) ≡ (is_closed e && are_closed es)
unfolding is_closed
closed-In e es = ap is_closed (sym (rolls-In e es)) ∙ fold-roll-Expr Bool Bool closed_step closed_arm (Expr-F.In e es) ∙ ap (λ b. is_closed e && b) (each es)

pub closed-Like : (e : Expr) (pattern : List ℕ) → is_closed (Like e pattern) ≡ is_closed e
unfolding is_closed
closed-Like e pattern = ap is_closed (sym (rolls-Like e pattern)) ∙ fold-roll-Expr Bool Bool closed_step closed_arm (Expr-F.Like e pattern)

pub closed-Arith : (op : ArithOp) (a : Expr) (b : Expr) → is_closed (Arith op a b) ≡ (is_closed a && is_closed b)
unfolding is_closed
closed-Arith op a b = ap is_closed (sym (rolls-Arith op a b)) ∙ fold-roll-Expr Bool Bool closed_step closed_arm (Expr-F.Arith op a b)

pub closed-Neg : (e : Expr) → is_closed (Neg e) ≡ is_closed e
unfolding is_closed
closed-Neg e = ap is_closed (sym (rolls-Neg e)) ∙ fold-roll-Expr Bool Bool closed_step closed_arm (Expr-F.Neg e)

pub closed-Concat : (es : List Expr) → is_closed (Concat es) ≡ are_closed es
unfolding is_closed
closed-Concat es = ap is_closed (sym (rolls-Concat es)) ∙ fold-roll-Expr Bool Bool closed_step closed_arm (Expr-F.Concat es) ∙ each es

pub closed-Case : (arms : List Arm) (last : Expr) → is_closed (Case arms last) ≡ (are_closed_arms arms && is_closed last)
unfolding is_closed
closed-Case arms last = ap is_closed (sym (rolls-Case arms last)) ∙ fold-roll-Expr Bool Bool closed_step closed_arm (Expr-F.Case arms last) ∙ ap (λ b. b && is_closed last) (each_arm arms)

pub closed-Coalesce : (es : List Expr) → is_closed (Coalesce es) ≡ are_closed es
unfolding is_closed
closed-Coalesce es = ap is_closed (sym (rolls-Coalesce es)) ∙ fold-roll-Expr Bool Bool closed_step closed_arm (Expr-F.Coalesce es) ∙ each es

pub ruleset closed_of_kinds = (closed-Col, closed-Var, closed-Const, closed-Not, closed-And, closed-Or, closed-Cmp, closed-IsNull, closed-In, closed-Like, closed-Arith, closed-Neg, closed-Concat, closed-Case, closed-Coalesce)
