-- Each operator makes an expression that reads no variable of such ones.
use Rattle.std.proofs.Common.{◌≡◌, ◌∙◌, ℕ, Bool, true, false, List, [], ◌∷◌, ◌++◌, Option, Some, None, Result, Ok, Err, refl}
use Rattle.std.specs.List.{AllByRecursion}
use Rattle.std.specs.Cmp.Derive.{both_true}
use Rattle.vdb_base.specs.declared.value.Value.TheVariants as value
use Rattle.vdb_base.specs.declared.value.Ty.{Ty}
use Rattle.vdb_base.specs.declared.value.Ty.TheVariants.{Boolean, Str as Text}
use Rattle.vdb_model.specs.declared.expr.ArithOp.{ArithOp}
use Rattle.vdb_model.specs.declared.expr.CmpOp.TheVariants.{Ge, Le}
use Rattle.vdb_model.specs.declared.expr.Expr.{Expr}
use Rattle.vdb_model.specs.declared.expr.Expr.TheVariants.{Cmp, IsNull, In, Like}
use Rattle.vdb_model.specs.declared.rel.Agg.{Agg}
use Rattle.vdb_model.specs.declared.reply.Refusal.{Refusal}
use Rattle.vdb_model.specs.declared.reply.Refusal.TheVariants.{Mismatch, Fractional, TooWide}
use Rattle.vdb_model.specs.Closed.{is_closed, are_closed, is_closed_agg, are_closed_aggs}
use Rattle.view_stack.proofs.ClosedByKinds.{are_closed_arms, closed-Col, closed-Const, closed-Not, closed-And, closed-Or, closed-Cmp, closed-IsNull, closed-In, closed-Like, closed-Arith, closed-Neg, closed-Concat, closed-Case, closed-Coalesce}
use Rattle.view_stack.proofs.NoVariables.{both}
use Rattle.sql_reader.specs.declared.tree.expr.Aggregate.{Aggregate}
use Rattle.sql_reader.specs.declared.tree.expr.Aggregate.TheVariants as aggregate
use Rattle.sql_reader.specs.declared.tree.expr.Comparison.{Comparison}
use Rattle.sql_reader.specs.declared.tree.expr.Constant.{Constant}
use Rattle.sql_reader.specs.declared.tree.expr.Constant.TheVariants as constant
use Rattle.sql_reader.specs.declared.tree.expr.Literal.{Literal}
use Rattle.sql_reader.specs.declared.tree.expr.Operator.{Operator}
use Rattle.sql_reader.specs.declared.tree.expr.Operator.TheVariants as operator
use Rattle.expr_resolver.specs.declared.known.Known.{Known}
use Rattle.expr_resolver.specs.declared.known.KnownArm.{KnownArm}
use Rattle.expr_resolver.specs.declared.scope.Over.{Over}
use Rattle.expr_resolver.specs.declared.scope.Over.TheVariants.{Rows, Groups}
use Rattle.expr_resolver.specs.Operators as op
use Rattle.expr_resolver.specs.Types.{is_a, is_held, common_of, as_number, widened, computed_type, aggregate_type}
use Rattle.walk_laws.proofs.Gives.{Gives, gives, refuses, gives_if_else, gives_unless, gives_next}
use Rattle.walk_laws.proofs.WalkClosed.{AndClosed, Walks}

-- its expression reads no variable
abbrev pub Shut : Known → Type 0
Shut k = is_closed k.expr ≡ true

abbrev pub ShutArm : KnownArm → Type 0
ShutArm arm = Shut arm.condition × Shut arm.value

pub exprs_shut : (ks : List Known) → AllByRecursion Shut ks → are_closed (op.exprs_of ks) ≡ true
exprs_shut [] all = refl
exprs_shut (k ∷ ks) all = both_true all.0 (exprs_shut ks all.1)

arms_shut : (arms : List KnownArm) → AllByRecursion ShutArm arms → are_closed_arms (op.arms_of arms) ≡ true
arms_shut [] all = refl
arms_shut (arm ∷ arms) all = both_true (both_true all.0.0 all.0.1) (arms_shut arms all.1)

constant_shut : (at : ℕ) (c : Constant) → Gives (op.constant_of at c) Shut
constant_shut at (constant.Value v) = gives_if_else Shut (is_held v) _ (TooWide at) (gives Shut _ (closed-Const v))
constant_shut at constant.Fraction = refuses Shut (Fractional at)
constant_shut at constant.TooLong = refuses Shut (TooWide at)

pub literal_shut : (literal : Literal) → Gives (op.literal_of literal) Shut
literal_shut literal = constant_shut literal.at literal.constant

pub column_shut : (first : ℕ) (column : ℕ × Ty) → Gives (op.column_at first column) Shut
column_shut first column = gives Shut _ (closed-Col column.0)

pub parens_shut : (at : ℕ) (k : Known) → Shut k → Gives (op.in_parens at k) Shut
parens_shut at k h = gives Shut _ h

pub needs_shut : (t : Ty) (at : ℕ) (k : Known) → Shut k → Gives (op.needs t at k) Shut
needs_shut t at k h = gives_if_else Shut (is_a t k.ty) (Ok k) (Mismatch at) (gives Shut k h)

pub condition_shut : (k : Known) → Shut k → Gives (op.condition k) Shut
condition_shut k h = needs_shut Boolean k.first k h

of_type_shut : (r : Result Ty Refusal) (f : Ty → Known) → ((t : Ty) → Shut (f t)) → Gives (op.of_type r f) Shut
of_type_shut (Ok t) f h = gives Shut (f t) (h t)
of_type_shut (Err refusal) f h = refuses Shut refusal

alike_shut : (at : ℕ) (t : Option (Option Ty)) (k : Known) → Shut k → Gives (op.alike at t k) Shut
alike_shut at None k h = refuses Shut (Mismatch at)
alike_shut at (Some t) k h = gives Shut k h

in_type_shut : (at : ℕ) (t : Option (Option Ty)) (f : Ty → Known) → ((t : Ty) → Shut (f t)) → Gives (op.in_type at t f) Shut
in_type_shut at None f h = refuses Shut (Mismatch at)
in_type_shut at (Some t) f h = gives Shut _ (h _)

pub negative_shut : (at : ℕ) (k : Known) → Shut k → Gives (op.negative at k) Shut
negative_shut at k h = of_type_shut (widened at (as_number k.ty)) _ (λ t. closed-Neg k.expr ∙ h)

pub arithmetic_shut : (o : Option ArithOp) (at : ℕ) (a b : Known) → Shut a → Shut b → Gives (op.arithmetic o at a b) Shut
arithmetic_shut None at a b h k = refuses Shut (Mismatch at)
arithmetic_shut (Some o) at a b h k = of_type_shut (computed_type at (common_of (a.ty ∷ b.ty ∷ []))) _ (λ t. closed-Arith o a.expr b.expr ∙ both_true h k)

chain_shut : (o : Operator) (es : List Expr) → are_closed es ≡ true → is_closed (op.chain_of o es) ≡ true
chain_shut operator.Or es h = closed-Or es ∙ h
chain_shut operator.And es h = closed-And es ∙ h
chain_shut operator.Concat es h = closed-Concat es ∙ h
chain_shut operator.Add es h = closed-Concat es ∙ h
chain_shut operator.Subtract es h = closed-Concat es ∙ h
chain_shut operator.Multiply es h = closed-Concat es ∙ h

pub chained_shut : (o : Operator) (first : ℕ) (ks : List Known) → AllByRecursion Shut ks → Gives (op.chained o first ks) Shut
chained_shut o first ks all = gives Shut _ (chain_shut o (op.exprs_of ks) (exprs_shut ks all))

pub not_shut : (at : ℕ) (k : Known) → Shut k → Gives (op.not_of at k) Shut
not_shut at k h = gives_next (needs_shut Boolean at k h) (λ j i. gives Shut _ (closed-Not j.expr ∙ i))

around_shut : (negated : Bool) (e : Expr) → is_closed e ≡ true → is_closed (op.around negated e) ≡ true
around_shut false e h = h
around_shut true e h = closed-Not e ∙ h

pub compared_shut : (c : Comparison) (at : ℕ) (a b : Known) → Shut a → Shut b → Gives (op.compared c at a b) Shut
compared_shut c at a b h k = alike_shut at (common_of (a.ty ∷ b.ty ∷ [])) _ (closed-Cmp (op.cmp_op c) a.expr b.expr ∙ both_true h k)

pub null_shut : (negated : Bool) (k : Known) → Shut k → Gives (op.null_test negated k) Shut
null_shut negated k h = gives Shut _ (around_shut negated (IsNull k.expr) (closed-IsNull k.expr ∙ h))

pub item_shut : (k : Known) → Shut k → Gives (op.item_of k) Shut
item_shut k h = gives_unless Shut k.column (Mismatch k.first) (Ok k) (gives Shut k h)

pub in_shut : (negated : Bool) (at : ℕ) (k : Known) (items : List Known) → Shut k → AllByRecursion Shut items → Gives (op.in_list negated at k items) Shut
in_shut negated at k items h all = alike_shut at (common_of (k.ty ∷ op.types_of items)) _ (around_shut negated (In k.expr (op.exprs_of items)) (closed-In k.expr (op.exprs_of items) ∙ both_true h (exprs_shut items all)))

pub like_shut : (negated : Bool) (at : ℕ) (pattern : Literal) (k : Known) → Shut k → Gives (op.like_test negated at pattern k) Shut
like_shut negated at pattern k h =
    let text = op.pattern_of pattern.constant in
    gives_next (needs_shut Text at k h) (λ j i. gives Shut _ (around_shut negated (Like j.expr text) (closed-Like j.expr text ∙ i)))

within_shut : (e low high : Expr) → is_closed e ≡ true → is_closed low ≡ true → is_closed high ≡ true → is_closed (op.within e low high) ≡ true
within_shut e low high h l k = closed-And (Cmp Ge e low ∷ Cmp Le e high ∷ []) ∙ both_true (closed-Cmp Ge e low ∙ both_true h l) (both_true (closed-Cmp Le e high ∙ both_true h k) refl)

pub between_shut : (negated : Bool) (at : ℕ) (k low high : Known) → Shut k → Shut low → Shut high → Gives (op.between negated at k low high) Shut
between_shut negated at k low high h l i =
    gives_unless Shut k.between (Mismatch at) _
    (alike_shut at (common_of (k.ty ∷ low.ty ∷ high.ty ∷ [])) _ (around_shut negated (op.within k.expr low.expr high.expr) (within_shut k.expr low.expr high.expr h l i)))

pub first_shut : (at : ℕ) (ks : List Known) → AllByRecursion Shut ks → Gives (op.first_of at ks) Shut
first_shut at ks all = in_type_shut at (common_of (op.types_of ks)) _ (λ t. closed-Coalesce (op.exprs_of ks) ∙ exprs_shut ks all)

pub arm_shut : (c v : Known) → Shut c → Shut v → Gives (op.arm_of c v) ShutArm
arm_shut c v h k = gives ShutArm _ (h, k)

pub case_shut : (at : ℕ) (arms : List KnownArm) (last : Known) → AllByRecursion ShutArm arms → Shut last → Gives (op.case_of at arms last) Shut
case_shut at arms last all h = in_type_shut at (common_of (op.types_of (op.values_of arms ++ last ∷ []))) _ (λ t. closed-Case (op.arms_of arms) last.expr ∙ both_true (arms_shut arms all) h)

pub nothing_shut : (at : ℕ) → Shut (op.nothing at)
nothing_shut at = closed-Const value.Null

aggs_one_more : (aggs : List Agg) (agg : Agg) → are_closed_aggs aggs ≡ true → is_closed_agg agg ≡ true → are_closed_aggs (aggs ++ agg ∷ []) ≡ true
aggs_one_more [] agg all h = both_true h refl
aggs_one_more (a ∷ aggs) agg all h = let c = both (is_closed_agg a) (are_closed_aggs aggs) all in both_true c.0 (aggs_one_more aggs agg c.1 h)

add_agg_shut : (keys at : ℕ) (between : Bool) (agg : Agg) (t : Ty) → is_closed_agg agg ≡ true → Walks (op.add_agg keys at between agg t) Shut
add_agg_shut keys at between agg t h = record { each = λ aggs all. gives (AndClosed Shut) _ (closed-Col _, aggs_one_more aggs agg all h) }

pub count_all_shut : (over : Over) (keys at : ℕ) → Walks (op.count_all over keys at) Shut
count_all_shut Rows keys at = record { each = λ aggs all. refuses (AndClosed Shut) (Mismatch at) }
count_all_shut Groups keys at = add_agg_shut keys at false _ _ refl

agg_shut : (a : Aggregate) (e : Expr) → is_closed e ≡ true → is_closed_agg (op.agg_of a e) ≡ true
agg_shut aggregate.Count e h = h
agg_shut aggregate.Sum e h = h
agg_shut aggregate.Min e h = h
agg_shut aggregate.Max e h = h

with_type_shut : (keys at : ℕ) (a : Aggregate) (k : Known) (r : Result Ty Refusal) → Shut k → Walks (op.with_type keys at a k r) Shut
with_type_shut keys at a k (Ok t) h = add_agg_shut keys at k.between (op.agg_of a k.expr) t (agg_shut a k.expr h)
with_type_shut keys at a k (Err refusal) h = record { each = λ aggs all. refuses (AndClosed Shut) refusal }

pub aggregate_shut : (over : Over) (keys : ℕ) (a : Aggregate) (at : ℕ) (k : Known) → Shut k → Walks (op.aggregate_of over keys a at k) Shut
aggregate_shut Rows keys a at k h = record { each = λ aggs all. refuses (AndClosed Shut) (Mismatch at) }
aggregate_shut Groups keys a at k h = with_type_shut keys at a k (aggregate_type a at k.ty) h
