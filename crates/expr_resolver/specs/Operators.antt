-- What each operator makes of its operands, or the refusal at the sign or the word that needs a type.
use Rattle.std.specs.Prelude.{ℕ, ◌+◌, Bool, true, false, ◌||◌, if◌then◌else◌, List, [], ◌∷◌, ◌++◌, length, Option, Some, None, Result, Ok, Err}
use Rattle.vdb_base.specs.declared.value.Value.TheVariants as value
use Rattle.vdb_base.specs.declared.value.Ty.{Ty}
use Rattle.vdb_base.specs.declared.value.Ty.TheVariants.{Boolean, Long, Str as Text}
use Rattle.vdb_model.specs.declared.expr.ArithOp.{ArithOp}
use Rattle.vdb_model.specs.declared.expr.ArithOp.TheVariants as arith
use Rattle.vdb_model.specs.declared.expr.Arm.{Arm}
use Rattle.vdb_model.specs.declared.expr.CmpOp.{CmpOp}
use Rattle.vdb_model.specs.declared.expr.CmpOp.TheVariants.{Eq, Ne, Lt, Le, Gt, Ge}
use Rattle.vdb_model.specs.declared.expr.Expr.{Expr}
use Rattle.vdb_model.specs.declared.expr.Expr.TheVariants.{Col, Const, Not, And, Or, Cmp, IsNull, In, Like, Arith, Neg, Concat, Case, Coalesce}
use Rattle.vdb_model.specs.declared.rel.Agg.{Agg}
use Rattle.vdb_model.specs.declared.rel.Agg.TheVariants as agg
use Rattle.vdb_model.specs.declared.reply.Refusal.{Refusal}
use Rattle.vdb_model.specs.declared.reply.Refusal.TheVariants.{Mismatch, Fractional, TooWide}
use Rattle.sql_reader.specs.declared.tree.expr.Aggregate.{Aggregate}
use Rattle.sql_reader.specs.declared.tree.expr.Aggregate.TheVariants as aggregate
use Rattle.sql_reader.specs.declared.tree.expr.Comparison.{Comparison}
use Rattle.sql_reader.specs.declared.tree.expr.Comparison.TheVariants as comparison
use Rattle.sql_reader.specs.declared.tree.expr.Constant.{Constant}
use Rattle.sql_reader.specs.declared.tree.expr.Constant.TheVariants as constant
use Rattle.sql_reader.specs.declared.tree.expr.Literal.{Literal}
use Rattle.sql_reader.specs.declared.tree.expr.Operator.{Operator}
use Rattle.sql_reader.specs.declared.tree.expr.Operator.TheVariants as operator
use Rattle.expr_resolver.specs.declared.known.Known.{Known}
use Rattle.expr_resolver.specs.declared.known.KnownArm.{KnownArm}
use Rattle.expr_resolver.specs.declared.scope.Over.{Over}
use Rattle.expr_resolver.specs.declared.scope.Over.TheVariants.{Rows, Groups}
use Rattle.expr_resolver.specs.Walking.{next, Walk}
use Rattle.expr_resolver.specs.Types.{type_of, is_held, is_a, common_of, settled, as_number, widened, computed_type, aggregate_type}

abbrev pub exprs_of : List Known → List Expr
exprs_of [] = []
exprs_of (k ∷ ks) = k.expr ∷ exprs_of ks

abbrev pub types_of : List Known → List (Option Ty)
types_of [] = []
types_of (k ∷ ks) = k.ty ∷ types_of ks

abbrev pub any_column : List Known → Bool
any_column [] = false
any_column (k ∷ ks) = k.column || any_column ks

abbrev pub any_between : List Known → Bool
any_between [] = false
any_between (k ∷ ks) = k.between || any_between ks

-- what is made of parts
abbrev pub made_of : Expr → Ty → ℕ → List Known → Known
made_of e t first parts = record { expr = e; ty = Some t; first = first; column = any_column parts; between = any_between parts }

-- a fraction, and a number past 128 bits, are refused at the literal
abbrev pub constant_of : ℕ → Constant → Result Known Refusal
constant_of at (constant.Value v) = if is_held v then Ok (record { expr = Const v; ty = type_of v; first = at; column = false; between = false }) else Err (TooWide at)
constant_of at constant.Fraction = Err (Fractional at)
constant_of at constant.TooLong = Err (TooWide at)

abbrev pub literal_of : Literal → Result Known Refusal
literal_of literal = constant_of literal.at literal.constant

-- a column over the rows or the groups
abbrev pub column_at : ℕ → ℕ × Ty → Result Known Refusal
column_at first column = Ok (record { expr = Col column.0; ty = Some column.1; first = first; column = true; between = false })

abbrev pub in_parens : ℕ → Known → Result Known Refusal
in_parens at k = Ok (record k { first = at })

-- of the type, which the sign or the word needs
abbrev pub needs : Ty → ℕ → Known → Result Known Refusal
needs t at k = if is_a t k.ty then Ok k else Err (Mismatch at)

-- a condition is refused at its first token
abbrev pub condition : Known → Result Known Refusal
condition k = needs Boolean k.first k

abbrev pub of_type : Result Ty Refusal → (Ty → Known) → Result Known Refusal
of_type (Ok t) f = Ok (f t)
of_type (Err refusal) f = Err refusal

abbrev pub negative : ℕ → Known → Result Known Refusal
negative at k = of_type (widened at (as_number k.ty)) (λ t. made_of (Neg k.expr) t at (k ∷ []))

abbrev pub arith_op : Operator → Option ArithOp
arith_op operator.Or = None
arith_op operator.And = None
arith_op operator.Concat = None
arith_op operator.Add = Some arith.Add
arith_op operator.Subtract = Some arith.Sub
arith_op operator.Multiply = Some arith.Mul

abbrev pub arithmetic : Option ArithOp → ℕ → Known → Known → Result Known Refusal
arithmetic None at a b = Err (Mismatch at)
arithmetic (Some op) at a b = of_type (computed_type at (common_of (a.ty ∷ b.ty ∷ []))) (λ t. made_of (Arith op a.expr b.expr) t a.first (a ∷ b ∷ []))

-- the operands of a chain of OR, of AND or of `||`
abbrev pub chain_of : Operator → List Expr → Expr
chain_of operator.Or es = Or es
chain_of operator.And es = And es
chain_of operator.Concat es = Concat es
chain_of operator.Add es = Concat es
chain_of operator.Subtract es = Concat es
chain_of operator.Multiply es = Concat es

abbrev pub chain_type : Operator → Ty
chain_type operator.Or = Boolean
chain_type operator.And = Boolean
chain_type operator.Concat = Text
chain_type operator.Add = Text
chain_type operator.Subtract = Text
chain_type operator.Multiply = Text

abbrev pub chained : Operator → ℕ → List Known → Result Known Refusal
chained op first ks = Ok (made_of (chain_of op (exprs_of ks)) (chain_type op) first ks)

abbrev pub not_of : ℕ → Known → Result Known Refusal
not_of at k = next (needs Boolean at k) (λ k. Ok (made_of (Not k.expr) Boolean at (k ∷ [])))

-- NOT before the word is a Not around the rest
abbrev pub around : Bool → Expr → Expr
around false e = e
around true e = Not e

abbrev pub test : Bool → Expr → ℕ → List Known → Known
test negated e first parts = made_of (around negated e) Boolean first parts

-- where all go together in one type
abbrev pub alike : ℕ → Option (Option Ty) → Known → Result Known Refusal
alike at None k = Err (Mismatch at)
alike at (Some t) k = Ok k

abbrev pub cmp_op : Comparison → CmpOp
cmp_op comparison.Equal = Eq
cmp_op comparison.NotEqual = Ne
cmp_op comparison.Less = Lt
cmp_op comparison.AtMost = Le
cmp_op comparison.Greater = Gt
cmp_op comparison.AtLeast = Ge

abbrev pub compared : Comparison → ℕ → Known → Known → Result Known Refusal
compared c at a b = alike at (common_of (a.ty ∷ b.ty ∷ [])) (test false (Cmp (cmp_op c) a.expr b.expr) a.first (a ∷ b ∷ []))

abbrev pub null_test : Bool → Known → Result Known Refusal
null_test negated k = Ok (test negated (IsNull k.expr) k.first (k ∷ []))

-- an item of IN has no column, and is refused at its first token
abbrev pub item_of : Known → Result Known Refusal
item_of k = if k.column then Err (Mismatch k.first) else Ok k

abbrev pub in_list : Bool → ℕ → Known → List Known → Result Known Refusal
in_list negated at k items = alike at (common_of (k.ty ∷ types_of items)) (test negated (In k.expr (exprs_of items)) k.first (k ∷ items))

abbrev pub pattern_of : Constant → List ℕ
pattern_of (constant.Value value.Null) = []
pattern_of (constant.Value (value.Bool b)) = []
pattern_of (constant.Value (value.Num n)) = []
pattern_of (constant.Value (value.Str s)) = s
pattern_of constant.Fraction = []
pattern_of constant.TooLong = []

abbrev pub like_test : Bool → ℕ → Literal → Known → Result Known Refusal
like_test negated at pattern k = next (needs Text at k) (λ k. Ok (test negated (Like k.expr (pattern_of pattern.constant)) k.first (k ∷ [])))

-- `a BETWEEN b AND c` is the And of `a >= b` and `a <= c`
abbrev pub within : Expr → Expr → Expr → Expr
within e low high = And (Cmp Ge e low ∷ Cmp Le e high ∷ [])

-- the first operand has no BETWEEN in it
abbrev pub between : Bool → ℕ → Known → Known → Known → Result Known Refusal
between negated at k low high =
    if k.between then Err (Mismatch at)
    else alike at (common_of (k.ty ∷ low.ty ∷ high.ty ∷ [])) (record (test negated (within k.expr low.expr high.expr) k.first (k ∷ low ∷ high ∷ [])) { between = true })

abbrev pub in_type : ℕ → Option (Option Ty) → (Ty → Known) → Result Known Refusal
in_type at None f = Err (Mismatch at)
in_type at (Some t) f = Ok (f (settled t))

abbrev pub first_of : ℕ → List Known → Result Known Refusal
first_of at ks = in_type at (common_of (types_of ks)) (λ t. made_of (Coalesce (exprs_of ks)) t at ks)

abbrev pub arm_of : Known → Known → Result KnownArm Refusal
arm_of c v = Ok (record { condition = c; value = v })

abbrev pub arms_of : List KnownArm → List Arm
arms_of [] = []
arms_of (arm ∷ arms) = record { when = arm.condition.expr; gives = arm.value.expr } ∷ arms_of arms

abbrev pub values_of : List KnownArm → List Known
values_of [] = []
values_of (arm ∷ arms) = arm.value ∷ values_of arms

abbrev pub parts_of : List KnownArm → List Known
parts_of [] = []
parts_of (arm ∷ arms) = arm.condition ∷ arm.value ∷ parts_of arms

-- the values of the arms and the last one go together
abbrev pub case_of : ℕ → List KnownArm → Known → Result Known Refusal
case_of at arms last = in_type at (common_of (types_of (values_of arms ++ last ∷ []))) (λ t. made_of (Case (arms_of arms) last.expr) t at (parts_of arms ++ last ∷ []))

-- a CASE without ELSE ends with NULL
abbrev pub nothing : ℕ → Known
nothing at = record { expr = Const value.Null; ty = None; first = at; column = false; between = false }

abbrev pub agg_of : Aggregate → Expr → Agg
agg_of aggregate.Count e = agg.Count e
agg_of aggregate.Sum e = agg.Sum e
agg_of aggregate.Min e = agg.Min e
agg_of aggregate.Max e = agg.Max e

-- an aggregate stands behind the keys and those that were met before it
abbrev pub add_agg : ℕ → ℕ → Bool → Agg → Ty → Walk Known
add_agg keys at between agg t aggs = Ok (record { expr = Col (keys + length aggs); ty = Some t; first = at; column = true; between = between }, aggs ++ agg ∷ [])

-- over the rows it is refused at its first token
abbrev pub count_all : Over → ℕ → ℕ → Walk Known
count_all Rows keys at aggs = Err (Mismatch at)
count_all Groups keys at aggs = add_agg keys at false agg.CountStar Long aggs

abbrev pub with_type : ℕ → ℕ → Aggregate → Known → Result Ty Refusal → Walk Known
with_type keys at a k (Ok t) aggs = add_agg keys at k.between (agg_of a k.expr) t aggs
with_type keys at a k (Err refusal) aggs = Err refusal

abbrev pub aggregate_of : Over → ℕ → Aggregate → ℕ → Known → Walk Known
aggregate_of Rows keys a at k aggs = Err (Mismatch at)
aggregate_of Groups keys a at k aggs = with_type keys at a k (aggregate_type a at k.ty) aggs
