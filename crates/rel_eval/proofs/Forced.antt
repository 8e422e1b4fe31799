-- Equalities that a condition forces.
use Rattle.std.proofs.Common.{◌≡◌, ◌∙◌, ℕ, ◌-◌, ◌<◌, ◌≤◌, Bool, true, false, true≢false, ◌||◌, ◌&&◌, if◌then◌else◌, List, [], ◌∷◌, ◌++◌, refl, sym, ap, subst, arith}
use Rattle.std.proofs.lemmas.List.{get_or_append_left, get_or-append_right}
use Rattle.std.proofs.lemmas.List.Folds.{list_any-append, list_all-append}
use Rattle.std.specs.List.{list_any, list_all}
use Rattle.std.specs.declared.cmp.Ordering.{Ordering}
use Rattle.std.specs.declared.cmp.Ordering.TheVariants.{Less, Equal, Greater}
use Rattle.std.specs.Ordering.{is_eq}
use Rattle.vdb_base.specs.Order.{value_cmp}
use Rattle.vdb_base.specs.declared.value.Value.{Value}
use Rattle.vdb_base.specs.declared.value.Value.TheVariants.{Null, Bool as Truth}
use Rattle.vdb_model.specs.declared.expr.CmpOp.TheVariants.{Eq}
use Rattle.vdb_model.specs.declared.expr.Expr.{Expr}
use Rattle.vdb_model.specs.declared.expr.Expr.TheVariants.{Col, And, Cmp}
use Rattle.vdb_model.specs.Logic.{is_null, is_true, is_false, all_of, compared}
use Rattle.vdb_model.specs.Meaning.{cell, value, values}
use Rattle.vdb_model.specs.Rows.{Cells, cut}
use Rattle.vdb_model.proofs.Ranges.{and_left, and_right}
use Rattle.vdb_model.proofs.SameDistinct.{equal_rows}
use Rattle.vdb_model.proofs.Value.{value-Col, value-And, value-Cmp}
use Rattle.rel_eval.specs.Equal.{AreEqual, IsForced, AreForced, IsForcedBy}

is_Equal : (o : Ordering) → is_eq o ≡ true → o ≡ Equal
is_Equal Less h = cc
is_Equal Equal h = refl
is_Equal Greater h = cc

abbrev head_or : List Value → Value
head_or [] = Null
head_or (v ∷ vs) = v

equal_values : (x y : Value) → is_eq (value_cmp x y) ≡ true → x ≡ y
equal_values x y h = ap head_or (equal_rows (x ∷ []) (y ∷ []) (let e = is_Equal (value_cmp x y) h in rw e refl))

-- what compares equal is equal and known
equal_known : (x y : Value) → is_true (compared Eq x y) ≡ true → (x ≡ y) × (is_null x ≡ false)
equal_known x y = at (is_null x) (is_null y) refl
  where
    at : (a b : Bool) → is_null x ≡ a → is_true (if a || b then Null else Truth (is_eq (value_cmp x y))) ≡ true → (x ≡ y) × (is_null x ≡ false)
    at true b e h = absurd (true≢false (sym h))
    at false true e h = absurd (true≢false (sym h))
    at false false e h = (equal_values x y h, e)

cut_append : (xs ys : List ℕ) (row : Cells) → cut (xs ++ ys) row ≡ cut xs row ++ cut ys row
cut_append [] ys row = refl
cut_append (x ∷ xs) ys row = ap (λ z. cell row x ∷ z) (cut_append xs ys row)

both_equal : (ls rs ms ss : List ℕ) (left right : Cells) → AreEqual ls rs left right → AreEqual ms ss left right → AreEqual (ls ++ ms) (rs ++ ss) left right
both_equal ls rs ms ss left right g h =
    let known : list_any is_null (cut ls left ++ cut ms left) ≡ false = list_any-append is_null (cut ls left) (cut ms left) ∙ rw (g.1, h.1) refl in
    (cut_append rs ss right ∙ ap (λ z. z ++ cut ss right) g.0 ∙ ap (λ z. cut ls left ++ z) h.0 ∙ sym (cut_append ls ms left), ap (list_any is_null) (cut_append ls ms left) ∙ known)

one_equal : (x y : Value) (a b : ℕ) (left right : Cells) → cell left a ≡ x → cell right b ≡ y → x ≡ y → is_null x ≡ false → AreEqual (a ∷ []) (b ∷ []) left right
one_equal x y a b left right e f same known =
    let null : is_null (cell left a) ≡ false = ap is_null e ∙ known in
    (ap (λ v. v ∷ []) (f ∙ sym same ∙ sym e), rw null refl)

module _ (a b width : ℕ) where
  pub across_forced : a < width → width ≤ b → IsForcedBy (Col a) (Col b) width (a ∷ []) ((b - width) ∷ [])
  across_forced g h left right vars e c =
      let x : value (Col a) (left ++ right) vars ≡ cell left a = value-Col (left ++ right) vars a ∙ get_or_append_left left right Null a (omega (arith, g, e)) in
      let y : value (Col b) (left ++ right) vars ≡ cell right (b - width) = value-Col (left ++ right) vars b ∙ get_or-append_right left right width b Null e h in
      let k = equal_known _ _ c in
      one_equal _ _ a (b - width) left right (sym x) (sym y) k.0 k.1

  pub turned_forced : b < width → width ≤ a → IsForcedBy (Col a) (Col b) width (b ∷ []) ((a - width) ∷ [])
  turned_forced g h left right vars e c =
      let x : value (Col b) (left ++ right) vars ≡ cell left b = value-Col (left ++ right) vars b ∙ get_or_append_left left right Null b (omega (arith, g, e)) in
      let y : value (Col a) (left ++ right) vars ≡ cell right (a - width) = value-Col (left ++ right) vars a ∙ get_or-append_right left right width a Null e h in
      let k = equal_known _ _ c in
      one_equal _ _ b (a - width) left right (sym x) (sym y) (sym k.0) (ap is_null (sym k.0) ∙ k.1)

all_are_true : (vs : List Value) → is_true (all_of vs) ≡ true → list_all is_true vs ≡ true
all_are_true vs = at (list_any is_false vs) (list_all is_true vs)
  where
    at : (a b : Bool) → is_true (if a then Truth false else (if b then Truth true else Null)) ≡ true → b ≡ true
    at true b h = absurd (true≢false (sym h))
    at false true h = refl
    at false false h = absurd (true≢false (sym h))

pub forced_and : (es : List Expr) (width : ℕ) (ls rs : List ℕ) → AreForced es width ls rs → IsForced (And es) width ls rs
forced_and es width ls rs h left right vars e c = h left right vars e (all_are_true (values es (left ++ right) vars) (ap is_true (sym (value-And (left ++ right) vars es)) ∙ c))

pub forced_cmp : (a b : Expr) (width : ℕ) (ls rs : List ℕ) → IsForcedBy a b width ls rs → IsForced (Cmp Eq a b) width ls rs
forced_cmp a b width ls rs h left right vars e c = h left right vars e (ap is_true (sym (value-Cmp (left ++ right) vars Eq a b)) ∙ c)

values_append : (es fs : List Expr) (row vars : Cells) → values (es ++ fs) row vars ≡ values es row vars ++ values fs row vars
values_append [] fs row vars = refl
values_append (e ∷ es) fs row vars = ap (λ z. value e row vars ∷ z) (values_append es fs row vars)

pub forced_more : (es : List Expr) (e : Expr) (width : ℕ) (ls rs ms ss : List ℕ) → AreForced es width ls rs → IsForced e width ms ss → AreForced (es ++ e ∷ []) width (ls ++ ms) (rs ++ ss)
forced_more es e width ls rs ms ss g h left right vars w c =
    let row = left ++ right in
    let both : (list_all is_true (values es row vars) && list_all is_true (value e row vars ∷ [])) ≡ true = sym (list_all-append is_true (values es row vars) (value e row vars ∷ [])) ∙ ap (list_all is_true) (sym (values_append es (e ∷ []) row vars)) ∙ c in
    both_equal ls rs ms ss left right
    (g left right vars w (and_left _ _ both))
    (h left right vars w (and_left _ _ (and_right (list_all is_true (values es row vars)) _ both)))

-- the step of a loop over the conditions
pub forced_next : (es taken : List Expr) (e : Expr) (width : ℕ) (ls rs ms ss lefts rights : List ℕ)
    → taken ≡ es ++ e ∷ [] → lefts ≡ ls ++ ms → rights ≡ rs ++ ss → AreForced es width ls rs → IsForced e width ms ss → AreForced taken width lefts rights
forced_next es taken e width ls rs ms ss lefts rights t l r g h =
    subst (λ z. AreForced z width lefts rights) (sym t) (subst (λ z. AreForced (es ++ e ∷ []) width z rights) (sym l) (subst (λ z. AreForced (es ++ e ∷ []) width (ls ++ ms) z) (sym r) (forced_more es e width ls rs ms ss g h)))

-- columns by other names
pub forced_columns : (a b : Expr) (width : ℕ) (ls rs lefts rights : List ℕ) → lefts ≡ ls → rights ≡ rs → IsForcedBy a b width ls rs → IsForcedBy a b width lefts rights
forced_columns a b width ls rs lefts rights l r h = subst (λ z. IsForcedBy a b width z rights) (sym l) (subst (λ z. IsForcedBy a b width ls z) (sym r) h)
