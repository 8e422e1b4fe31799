-- What each operator gives of typed operands is typed.
use Rattle.std.proofs.Common.{◌≡◌, ◌∙◌, ℕ, Bool, true, false, ◌&&◌, if◌then◌else◌, List, [], ◌∷◌, ◌++◌, map, Option, Some, None, Result, Ok, Err, ℤ, refl}
use Rattle.std.specs.List.{AllByRecursion}
use Rattle.std.specs.Cmp.Derive.{both_true}
use Rattle.vdb_base.specs.declared.value.Ty.{Ty}
use Rattle.vdb_base.specs.declared.value.Ty.TheVariants.{Boolean, Integer, Long, BigInteger, Str as Text}
use Rattle.vdb_base.specs.declared.value.Value.{Value}
use Rattle.vdb_base.specs.declared.value.Value.TheVariants.{Null, Bool as Truth, Num, Str}
use Rattle.vdb_model.specs.declared.expr.ArithOp.{ArithOp}
use Rattle.vdb_model.specs.declared.expr.CmpOp.{CmpOp}
use Rattle.vdb_model.specs.declared.expr.CmpOp.TheVariants.{Ge, Le}
use Rattle.vdb_model.specs.declared.expr.Expr.{Expr}
use Rattle.vdb_model.specs.declared.expr.Expr.TheVariants.{Const, Cmp, IsNull, In, Like}
use Rattle.vdb_model.specs.declared.reply.Refusal.{Refusal}
use Rattle.vdb_model.specs.declared.reply.Refusal.TheVariants.{Mismatch, Fractional, TooWide}
use Rattle.vdb_model.specs.Typed.{is_of, has_type, within, all_within, arms_within}
use Rattle.sql_reader.specs.declared.tree.expr.Comparison.{Comparison}
use Rattle.sql_reader.specs.declared.tree.expr.Constant.{Constant}
use Rattle.sql_reader.specs.declared.tree.expr.Constant.TheVariants as constant
use Rattle.sql_reader.specs.declared.tree.expr.Literal.{Literal}
use Rattle.sql_reader.specs.declared.tree.expr.Operator.{Operator}
use Rattle.sql_reader.specs.declared.tree.expr.Operator.TheVariants as operator
use Rattle.expr_resolver.specs.declared.known.Known.{Known}
use Rattle.expr_resolver.specs.declared.known.KnownArm.{KnownArm}
use Rattle.expr_resolver.specs.Operators as op
use Rattle.expr_resolver.specs.Types.{type_of, is_held, is_a, common_of, as_number, settled, widened, computed_type}
use Rattle.walk_laws.proofs.Gives.{Gives, gives, refuses, gives_unless, gives_where, gives_next}
use Rattle.walk_laws.proofs.KnownTypes.{Has, AllGo, GoesOn, some_type, has_some, has_asked, within_self, within_of, goes_settled, goes_number, goes_as_number, common_of_goes, widened_of, computed_of}
use Rattle.walk_laws.proofs.TypesByKinds.{arm_type, types-Const, types-Not, types-And, types-Or, types-Cmp, types-IsNull, types-In, types-Like, types-Arith, types-Neg, types-Concat, types-Case, types-Coalesce}

null_of : (t : Ty) → is_of t Null ≡ true
null_of Boolean = refl
null_of Integer = refl
null_of Long = refl
null_of BigInteger = refl
null_of Text = refl

-- a numeral is of the first type that holds it
first_type : (n : ℤ) (b c : Bool) → is_of Integer (Num n) ≡ b → is_of Long (Num n) ≡ c → is_of BigInteger (Num n) ≡ true → is_of (if b then Integer else if c then Long else BigInteger) (Num n) ≡ true
first_type n true c p q h = p
first_type n false true p q h = q
first_type n false false p q h = h

module _ (cols : List Ty) where
  abbrev types_of : Expr → Ty → Bool
  types_of = has_type cols []

  -- it has the type that is known of it
  abbrev pub IsTyped : Known → Type 0
  IsTyped k = Has (has_type cols [] k.expr) k.ty

  -- it has this type
  abbrev pub IsOf : Ty → Known → Type 0
  IsOf t k = has_type cols [] k.expr t ≡ true

  -- an arm's condition is a boolean
  abbrev pub ArmIsTyped : KnownArm → Type 0
  ArmIsTyped arm = IsOf Boolean arm.condition × IsTyped arm.value

  of_constant : (v : Value) → is_held v ≡ true → Has (types_of (Const v)) (type_of v)
  of_constant Null held = λ t. types-Const cols [] Null t ∙ null_of t
  of_constant (Truth b) held = types-Const cols [] (Truth b) Boolean
  of_constant (Num n) held =
      let t = if is_of Integer (Num n) then Integer else if is_of Long (Num n) then Long else BigInteger in
      types-Const cols [] (Num n) t ∙ first_type n (is_of Integer (Num n)) (is_of Long (Num n)) refl refl held
  of_constant (Str s) held = types-Const cols [] (Str s) Text

  constant_typed : (at : ℕ) (c : Constant) → Gives (op.constant_of at c) IsTyped
  constant_typed at (constant.Value v) = gives_where IsTyped (is_held v) _ (TooWide at) (λ held. gives IsTyped _ (of_constant v held))
  constant_typed at constant.Fraction = refuses IsTyped (Fractional at)
  constant_typed at constant.TooLong = refuses IsTyped (TooWide at)

  pub literal_typed : (literal : Literal) → Gives (op.literal_of literal) IsTyped
  literal_typed literal = constant_typed literal.at literal.constant

  pub parens_typed : (at : ℕ) (k : Known) → IsTyped k → Gives (op.in_parens at k) IsTyped
  parens_typed at k h = gives IsTyped _ h

  pub needs_typed : (t : Ty) (at : ℕ) (k : Known) → IsTyped k → Gives (op.needs t at k) (IsOf t)
  needs_typed t at k h = gives_where (IsOf t) (is_a t k.ty) (Ok k) (Mismatch at) (λ asked. gives (IsOf t) k (has_asked (types_of k.expr) t k.ty asked h))

  pub condition_typed : (k : Known) → IsTyped k → Gives (op.condition k) (IsOf Boolean)
  condition_typed k h = needs_typed Boolean k.first k h

  of_type_typed : (r : Result Ty Refusal) (f : Ty → Known) → ((t : Ty) → r ≡ Ok t → IsTyped (f t)) → Gives (op.of_type r f) IsTyped
  of_type_typed (Ok t) f h = gives IsTyped (f t) (h t refl)
  of_type_typed (Err refusal) f h = refuses IsTyped refusal

  alike_typed : (at : ℕ) (c : Option (Option Ty)) (k : Known) → ((w : Option Ty) → c ≡ Some w → IsTyped k) → Gives (op.alike at c k) IsTyped
  alike_typed at None k h = refuses IsTyped (Mismatch at)
  alike_typed at (Some w) k h = gives IsTyped k (h w refl)

  in_type_typed : (at : ℕ) (c : Option (Option Ty)) (f : Ty → Known) → ((w : Option Ty) → c ≡ Some w → IsTyped (f (settled w))) → Gives (op.in_type at c f) IsTyped
  in_type_typed at None f h = refuses IsTyped (Mismatch at)
  in_type_typed at (Some w) f h = gives IsTyped (f (settled w)) (h w refl)

  pub negative_typed : (at : ℕ) (k : Known) → IsTyped k → Gives (op.negative at k) IsTyped
  negative_typed at k h =
      of_type_typed (widened at (as_number k.ty)) _
      (λ t e. types-Neg cols [] k.expr t ∙ widened_of (λ s. within s (types_of k.expr)) at (as_number k.ty) t e (within_of (types_of k.expr) k.ty (as_number k.ty) h (goes_as_number k.ty)))

  pub arithmetic_typed : (o : Option ArithOp) (at : ℕ) (a b : Known) → IsTyped a → IsTyped b → Gives (op.arithmetic o at a b) IsTyped
  arithmetic_typed None at a b h k = refuses IsTyped (Mismatch at)
  arithmetic_typed (Some o) at a b h k =
      let c = common_of (a.ty ∷ b.ty ∷ []) in
      of_type_typed (computed_type at c) _
      (λ t e. types-Arith cols [] o a.expr b.expr t ∙ computed_of (λ s. within s (types_of a.expr) && within s (types_of b.expr)) at c t e
      (λ w is. let g = common_of_goes (a.ty ∷ b.ty ∷ []) w is in
      both_true (within_of (types_of a.expr) a.ty (as_number w) h (goes_number a.ty w g.0)) (within_of (types_of b.expr) b.ty (as_number w) k (goes_number b.ty w g.1.0))))

  all_of : (t : Ty) (ks : List Known) → AllByRecursion (IsOf t) ks → all_within t (map types_of (op.exprs_of ks)) ≡ true
  all_of t [] all = refl
  all_of t (k ∷ ks) all = both_true (within_self (types_of k.expr) t all.0) (all_of t ks all.1)

  chain_typed : (o : Operator) (es : List Expr) → all_within (op.chain_type o) (map types_of es) ≡ true → types_of (op.chain_of o es) (op.chain_type o) ≡ true
  chain_typed operator.Or es h = types-Or cols [] es Boolean ∙ h
  chain_typed operator.And es h = types-And cols [] es Boolean ∙ h
  chain_typed operator.Concat es h = types-Concat cols [] es Text ∙ h
  chain_typed operator.Add es h = types-Concat cols [] es Text ∙ h
  chain_typed operator.Subtract es h = types-Concat cols [] es Text ∙ h
  chain_typed operator.Multiply es h = types-Concat cols [] es Text ∙ h

  pub chained_typed : (o : Operator) (first : ℕ) (ks : List Known) → AllByRecursion (IsOf (op.chain_type o)) ks → Gives (op.chained o first ks) IsTyped
  chained_typed o first ks all = gives IsTyped _ (chain_typed o (op.exprs_of ks) (all_of (op.chain_type o) ks all))

  pub not_typed : (at : ℕ) (k : Known) → IsTyped k → Gives (op.not_of at k) IsTyped
  not_typed at k h = gives_next (needs_typed Boolean at k h) (λ j i. gives IsTyped _ (types-Not cols [] j.expr Boolean ∙ i))

  around_typed : (negated : Bool) (e : Expr) → types_of e Boolean ≡ true → types_of (op.around negated e) Boolean ≡ true
  around_typed false e h = h
  around_typed true e h = types-Not cols [] e Boolean ∙ h

  -- expressions that go together can be compared
  cmp_typed : (o : CmpOp) (a b : Known) (w : Option Ty) → IsTyped a → IsTyped b → GoesOn a.ty w → GoesOn b.ty w → types_of (Cmp o a.expr b.expr) Boolean ≡ true
  cmp_typed o a b w h k g i =
      let t = settled w in
      types-Cmp cols [] o a.expr b.expr Boolean ∙ some_type (λ t. within t (types_of a.expr) && within t (types_of b.expr)) t
      (both_true (within_of (types_of a.expr) a.ty t h (goes_settled a.ty w g)) (within_of (types_of b.expr) b.ty t k (goes_settled b.ty w i)))

  pub compared_typed : (c : Comparison) (at : ℕ) (a b : Known) → IsTyped a → IsTyped b → Gives (op.compared c at a b) IsTyped
  compared_typed c at a b h k =
      alike_typed at (common_of (a.ty ∷ b.ty ∷ [])) _
      (λ w is. let g = common_of_goes (a.ty ∷ b.ty ∷ []) w is in cmp_typed (op.cmp_op c) a b w h k g.0 g.1.0)

  pub null_typed : (negated : Bool) (k : Known) → IsTyped k → Gives (op.null_test negated k) IsTyped
  null_typed negated k h = gives IsTyped _ (around_typed negated (IsNull k.expr) (types-IsNull cols [] k.expr Boolean ∙ has_some (types_of k.expr) k.ty h))

  pub item_typed : (k : Known) → IsTyped k → Gives (op.item_of k) IsTyped
  item_typed k h = gives_unless IsTyped k.column (Mismatch k.first) (Ok k) (gives IsTyped k h)

  -- expressions that go together are within the type
  all_go : (w : Option Ty) (ks : List Known) → AllByRecursion IsTyped ks → AllGo (op.types_of ks) w → all_within (settled w) (map types_of (op.exprs_of ks)) ≡ true
  all_go w [] all go = refl
  all_go w (k ∷ ks) all go = both_true (within_of (types_of k.expr) k.ty (settled w) all.0 (goes_settled k.ty w go.0)) (all_go w ks all.1 go.1)

  pub in_typed : (negated : Bool) (at : ℕ) (k : Known) (items : List Known) → IsTyped k → AllByRecursion IsTyped items → Gives (op.in_list negated at k items) IsTyped
  in_typed negated at k items h all =
      let es = op.exprs_of items in
      alike_typed at (common_of (k.ty ∷ op.types_of items)) _
      (λ w is. let g = common_of_goes (k.ty ∷ op.types_of items) w is in
      let t = settled w in
      around_typed negated (In k.expr es) (types-In cols [] k.expr es Boolean ∙ some_type (λ t. within t (types_of k.expr) && all_within t (map types_of es)) t
      (both_true (within_of (types_of k.expr) k.ty t h (goes_settled k.ty w g.0)) (all_go w items all g.1))))

  pub like_typed : (negated : Bool) (at : ℕ) (pattern : Literal) (k : Known) → IsTyped k → Gives (op.like_test negated at pattern k) IsTyped
  like_typed negated at pattern k h =
      let text = op.pattern_of pattern.constant in
      gives_next (needs_typed Text at k h) (λ j i. gives IsTyped _ (around_typed negated (Like j.expr text) (types-Like cols [] j.expr text Boolean ∙ i)))

  within_typed : (k low high : Known) (w : Option Ty) → IsTyped k → IsTyped low → IsTyped high → GoesOn k.ty w → GoesOn low.ty w → GoesOn high.ty w → types_of (op.within k.expr low.expr high.expr) Boolean ≡ true
  within_typed k low high w h l i g j m =
      types-And cols [] (Cmp Ge k.expr low.expr ∷ Cmp Le k.expr high.expr ∷ []) Boolean ∙ both_true
      (within_self (types_of (Cmp Ge k.expr low.expr)) Boolean (cmp_typed Ge k low w h l g j)) (both_true
      (within_self (types_of (Cmp Le k.expr high.expr)) Boolean (cmp_typed Le k high w h i g m)) refl)

  pub between_typed : (negated : Bool) (at : ℕ) (k low high : Known) → IsTyped k → IsTyped low → IsTyped high → Gives (op.between negated at k low high) IsTyped
  between_typed negated at k low high h l i =
      let os = k.ty ∷ low.ty ∷ high.ty ∷ [] in
      gives_unless IsTyped k.between (Mismatch at) _
      (alike_typed at (common_of os) _
      (λ w is. let g = common_of_goes os w is in
      around_typed negated (op.within k.expr low.expr high.expr) (within_typed k low high w h l i g.0 g.1.0 g.1.1.0)))

  pub first_typed : (at : ℕ) (ks : List Known) → AllByRecursion IsTyped ks → Gives (op.first_of at ks) IsTyped
  first_typed at ks all =
      in_type_typed at (common_of (op.types_of ks)) _
      (λ w is. types-Coalesce cols [] (op.exprs_of ks) (settled w) ∙ all_go w ks all (common_of_goes (op.types_of ks) w is))

  pub arm_typed : (c v : Known) → IsOf Boolean c → IsTyped v → Gives (op.arm_of c v) ArmIsTyped
  arm_typed c v h k = gives ArmIsTyped _ (h, k)

  arms_go : (w : Option Ty) (arms : List KnownArm) (last : Known) → AllByRecursion ArmIsTyped arms → IsTyped last → AllGo (op.types_of (op.values_of arms ++ last ∷ [])) w
      → (arms_within (settled w) (map (arm_type cols []) (op.arms_of arms)) && within (settled w) (types_of last.expr)) ≡ true
  arms_go w [] last all h go = within_of (types_of last.expr) last.ty (settled w) h (goes_settled last.ty w go.0)
  arms_go w (arm ∷ arms) last all h go =
      let here = within_of (types_of arm.value.expr) arm.value.ty (settled w) all.0.1 (goes_settled arm.value.ty w go.0) in
      more_arms (types_of arm.condition.expr Boolean) (within (settled w) (types_of arm.value.expr)) (arms_within (settled w) (map (arm_type cols []) (op.arms_of arms))) (within (settled w) (types_of last.expr))
      all.0.0 here (arms_go w arms last all.1 h go.1)
    where
      more_arms : (a b c d : Bool) → a ≡ true → b ≡ true → (c && d) ≡ true → ((a && b && c) && d) ≡ true
      more_arms a b c d p q r = rw (p, q) r

  pub case_typed : (at : ℕ) (arms : List KnownArm) (last : Known) → AllByRecursion ArmIsTyped arms → IsTyped last → Gives (op.case_of at arms last) IsTyped
  case_typed at arms last all h =
      let os = op.types_of (op.values_of arms ++ last ∷ []) in
      in_type_typed at (common_of os) _
      (λ w is. types-Case cols [] (op.arms_of arms) last.expr (settled w) ∙ arms_go w arms last all h (common_of_goes os w is))

  pub nothing_typed : (at : ℕ) → IsTyped (op.nothing at)
  nothing_typed at t = types-Const cols [] Null t ∙ null_of t
