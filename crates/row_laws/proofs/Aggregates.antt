-- Aggregates over rows that are rearranged.
use Rattle.std.proofs.Common.{◌≡◌, ◌∙◌, Bool, true, false, true≢false, List, [], ◌∷◌, ◌++◌, if◌then◌else◌, length, ℤ, pos, ◌+ℤ◌, refl, sym, ap, subst, flat_map, IsPermutation, arith}
use Rattle.std.specs.declared.cmp.Ordering.{Ordering}
use Rattle.std.specs.declared.cmp.Ordering.TheVariants.{Less, Equal, Greater}
use Rattle.std.specs.Ordering.{is_lt, ordering_reverse}
use Rattle.std.specs.Cmp.{IsStrictWeakOrder}
use Rattle.std.specs.List.{best_of}
use Rattle.std.proofs.lemmas.Int.{ints}
use Rattle.std.proofs.lemmas.List.Sorted.{length_permutation, ranks_by, IsStrictWeakOrder-flip}
use Rattle.vdb_base.specs.declared.value.Value.{Value}
use Rattle.vdb_base.specs.declared.value.Value.TheVariants.{Null, Bool as Truth, Num, Str}
use Rattle.vdb_base.specs.Order.{value_cmp}
use Rattle.vdb_base.specs.Total.{value_total}
use Rattle.vdb_model.specs.declared.expr.Expr.{Expr}
use Rattle.vdb_model.specs.declared.rel.Agg.{Agg}
use Rattle.vdb_model.specs.declared.rel.Agg.TheVariants.{CountStar, Count, Sum, Min, Max}
use Rattle.vdb_model.specs.Logic.{is_null}
use Rattle.vdb_model.specs.Number.{number}
use Rattle.vdb_model.specs.Meaning.{value}
use Rattle.vdb_model.specs.Rows.{Cells}
use Rattle.vdb_model.specs.Groups.{known, total, sum_of, lesser, greater, least, greatest, min_of, max_of, aggregate, aggregates}
use Rattle.vdb_model.proofs.Rearranged.{along, IsPermutation-flat_map}
use Rattle.vdb_model.proofs.SameDistinct.{equal_rows}
use Rattle.vdb_model.proofs.SameRows.{Same}
use Rattle.row_laws.proofs.FirstOf.{first_of, same_first_of}

-- the values that aren't NULL, row by row
unless_null : Value → List Value
unless_null v = if is_null v then [] else v ∷ []

known_by_row : (e : Expr) (vars : Cells) (rows : List Cells) → known e vars rows ≡ flat_map (λ row. unless_null (value e row vars)) rows
unfolding unless_null
known_by_row e vars [] = refl
known_by_row e vars (row ∷ rows) = at (is_null (value e row vars)) (known_by_row e vars rows)
  where
    at : (b : Bool) → known e vars rows ≡ flat_map (λ row. unless_null (value e row vars)) rows
        → (if b then known e vars rows else value e row vars ∷ known e vars rows) ≡ (if b then [] else value e row vars ∷ []) ++ flat_map (λ row. unless_null (value e row vars)) rows
    at true ih = ih
    at false ih = ap (λ vs. value e row vars ∷ vs) ih

same_known : (e : Expr) (vars : Cells) (xs ys : List Cells) → Same xs ys → IsPermutation (known e vars xs) (known e vars ys)
same_known e vars xs ys h =
    subst (λ vs. IsPermutation vs (known e vars ys)) (sym (known_by_row e vars xs))
    (subst (IsPermutation (flat_map (λ row. unless_null (value e row vars)) xs)) (sym (known_by_row e vars ys))
    (IsPermutation-flat_map (λ row. unless_null (value e row vars)) xs ys h))

-- SUM
addend : Value → ℤ
addend (Num n) = n
addend Null = pos 0
addend (Truth b) = pos 0
addend (Str s) = pos 0

total_more : (v : Value) (vs : List Value) → total (v ∷ vs) ≡ addend v +ℤ total vs
unfolding addend
total_more (Num n) vs = refl
total_more Null vs = omega (arith, ints)
total_more (Truth b) vs = omega (arith, ints)
total_more (Str s) vs = omega (arith, ints)

total_turned : (a b : Value) (vs : List Value) → total (a ∷ b ∷ vs) ≡ total (b ∷ a ∷ vs)
total_turned a b vs =
    let p = total_more a (b ∷ vs) in let q = total_more b vs in
    let r = total_more b (a ∷ vs) in let s = total_more a vs in
    omega (arith, ints)

record SameSum (us vs : List Value) : Type 0 where
  totals : total us ≡ total vs
  sums : sum_of us ≡ sum_of vs

same_sum : (us vs : List Value) → IsPermutation us vs → sum_of us ≡ sum_of vs
same_sum us vs h = (along SameSum (record {
  same = λ us. record { totals = refl; sums = refl };
  under = λ v us vs h. let e : total (v ∷ us) ≡ total (v ∷ vs) = total_more v us ∙ ap (λ n. addend v +ℤ n) h.totals ∙ sym (total_more v vs) in record { totals = e; sums = ap number e };
  turned = λ a b vs. record { totals = total_turned a b vs; sums = ap number (total_turned a b vs) };
  chain = λ us vs ws g h. record { totals = g.totals ∙ h.totals; sums = g.sums ∙ h.sums };
}) us vs h).sums

-- MIN and MAX
equal_values : (a b : Value) → value_cmp a b ≡ Equal → a ≡ b
equal_values a b h = let e : a ∷ [] ≡ b ∷ [] = equal_rows (a ∷ []) (b ∷ []) (rw h refl) in cc

abbrev below : Value → Value → Bool
below a b = is_lt (value_cmp a b)

below_order : IsStrictWeakOrder below
below_order = ranks_by value_total (λ v. v)

neither_below : (a b : Value) → below a b ≡ false → below b a ≡ false → a ≡ b
neither_below a b e f = at (value_cmp b a) refl
  where
    at : (o : Ordering) → value_cmp b a ≡ o → a ≡ b
    at Less p = absurd (true≢false (sym (ap is_lt p) ∙ f))
    at Equal p = sym (equal_values b a p)
    at Greater p = absurd (true≢false (sym (ap is_lt (value_total.antisymm a b ∙ ap ordering_reverse p)) ∙ e))

least_is : (a : Value) (vs : List Value) → least a vs ≡ best_of below a vs
least_is a [] = refl
least_is a (v ∷ vs) = least_is (lesser a v) vs

greatest_is : (a : Value) (vs : List Value) → greatest a vs ≡ best_of (λ a b. below b a) a vs
greatest_is a [] = refl
greatest_is a (v ∷ vs) = greatest_is (greater a v) vs

min_is : (vs : List Value) → min_of vs ≡ first_of below Null vs
min_is [] = refl
min_is (v ∷ vs) = least_is v vs

max_is : (vs : List Value) → max_of vs ≡ first_of (λ a b. below b a) Null vs
max_is [] = refl
max_is (v ∷ vs) = greatest_is v vs

same_min : (us vs : List Value) → IsPermutation us vs → min_of us ≡ min_of vs
same_min us vs h = min_is us ∙ same_first_of below below_order neither_below Null us vs h ∙ sym (min_is vs)

same_max : (us vs : List Value) → IsPermutation us vs → max_of us ≡ max_of vs
same_max us vs h = max_is us ∙ same_first_of (λ a b. below b a) (IsStrictWeakOrder-flip below below_order) (λ a b e f. neither_below a b f e) Null us vs h ∙ sym (max_is vs)

-- each aggregate
same_length : {X : Type 0} (xs ys : List X) → IsPermutation xs ys → number (pos (length xs)) ≡ number (pos (length ys))
same_length xs ys h = ap (λ n. number (pos n)) (sym (length_permutation xs ys h))

same_aggregate : (agg : Agg) (vars : Cells) (xs ys : List Cells) → Same xs ys → aggregate agg vars xs ≡ aggregate agg vars ys
same_aggregate CountStar vars xs ys h = same_length xs ys h
same_aggregate (Count e) vars xs ys h = same_length (known e vars xs) (known e vars ys) (same_known e vars xs ys h)
same_aggregate (Sum e) vars xs ys h = same_sum (known e vars xs) (known e vars ys) (same_known e vars xs ys h)
same_aggregate (Min e) vars xs ys h = same_min (known e vars xs) (known e vars ys) (same_known e vars xs ys h)
same_aggregate (Max e) vars xs ys h = same_max (known e vars xs) (known e vars ys) (same_known e vars xs ys h)

pub same_aggregates : (aggs : List Agg) (vars : Cells) (xs ys : List Cells) → Same xs ys → aggregates aggs vars xs ≡ aggregates aggs vars ys
same_aggregates [] vars xs ys h = refl
same_aggregates (agg ∷ aggs) vars xs ys h = λ i. same_aggregate agg vars xs ys h i ∷ same_aggregates aggs vars xs ys h i
