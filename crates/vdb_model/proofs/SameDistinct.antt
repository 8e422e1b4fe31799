-- Distinct keeps lists of rows that are rearrangements of each other.
use Rattle.std.proofs.Common.{◌≡◌, ◌∙◌, ◌++◌, List, [], ◌∷◌, ap, sym, refl, subst, Bool, true, false, ◌||◌, IsPermutation}
use Rattle.std.specs.List.{list_any}
use Rattle.std.specs.Ordering.{is_eq}
use Rattle.std.specs.declared.cmp.Ordering.{Ordering}
use Rattle.std.specs.declared.cmp.Ordering.TheVariants.{Less, Equal, Greater}
use Rattle.std.specs.FinMap.{IsAntisymmetric, nat_cmp-IsAntisymmetric, int_cmp-IsAntisymmetric, slice_cmp-IsAntisymmetric}
use Rattle.std.specs.Ordering.{bool_cmp, int_cmp, nat_cmp}
use Rattle.std.proofs.lemmas.List.Sorted.{IsPermutation-refl, IsPermutation-trans, IsPermutation-append, IsPermutation-append_left, IsPermutation-append_comm, IsPermutation-cons}
use Rattle.std.proofs.lemmas.List.Folds.{list_any-append}
use Rattle.vdb_model.proofs.Rearranged.{along}
use Rattle.vdb_base.specs.declared.value.Value.TheVariants.{Null, Bool as Truth, Num, Str}
use Rattle.vdb_base.specs.Order.{value_cmp, row_cmp}
use Rattle.vdb_model.specs.Rows.{Cells, same_row, distinct_after, distinct_rows}
use Rattle.vdb_model.proofs.SameRows.{Same}

-- values, and rows, that the order doesn't tell apart are equal
equal_bools : (a b : Bool) → bool_cmp a b ≡ Equal → a ≡ b
equal_bools true true h = refl
equal_bools false false h = refl
equal_bools true false h = cc
equal_bools false true h = cc

equal_values : IsAntisymmetric value_cmp
equal_values Null Null h = refl
equal_values Null (Truth b) h = cc
equal_values Null (Num b) h = cc
equal_values Null (Str b) h = cc
equal_values (Truth a) Null h = cc
equal_values (Truth a) (Truth b) h = ap Truth (equal_bools a b h)
equal_values (Truth a) (Num b) h = cc
equal_values (Truth a) (Str b) h = cc
equal_values (Num a) Null h = cc
equal_values (Num a) (Truth b) h = cc
equal_values (Num a) (Num b) h = ap Num (int_cmp-IsAntisymmetric a b h)
equal_values (Num a) (Str b) h = cc
equal_values (Str a) Null h = cc
equal_values (Str a) (Truth b) h = cc
equal_values (Str a) (Num b) h = cc
equal_values (Str a) (Str b) h = ap Str (slice_cmp-IsAntisymmetric nat_cmp-IsAntisymmetric a b h)

is_equal : (o : Ordering) → is_eq o ≡ true → o ≡ Equal
is_equal Less h = cc
is_equal Equal h = refl
is_equal Greater h = cc

pub equal_rows : (a b : Cells) → same_row a b ≡ true → a ≡ b
equal_rows a b h = slice_cmp-IsAntisymmetric equal_values a b (is_equal (row_cmp a b) h)

abbrev Alike : List Cells → List Cells → Type 0
Alike us vs = (q : Cells) → list_any (same_row q) us ≡ list_any (same_row q) vs

more_alike : (us vs : List Cells) (x : Cells) → Alike us vs → Alike (us ++ x ∷ []) (vs ++ x ∷ [])
more_alike us vs x h q = list_any-append (same_row q) us (x ∷ []) ∙ ap (λ z. z || list_any (same_row q) (x ∷ [])) (h q) ∙ sym (list_any-append (same_row q) vs (x ∷ []))

abbrev R : List Cells → List Cells → Type 0
R xs ys = (us vs : List Cells) → Alike us vs → Same (distinct_after us xs) (distinct_after vs ys)

skip : (x : Cells) (xs ys : List Cells) → R xs ys → R (x ∷ xs) (x ∷ ys)
skip x xs ys h us vs alike = go (list_any (same_row x) us) refl (sym (alike x))
  where
    go : (b : Bool) → list_any (same_row x) us ≡ b → list_any (same_row x) vs ≡ list_any (same_row x) us → Same (distinct_after us (x ∷ xs)) (distinct_after vs (x ∷ ys))
    go true p q = let q' = q ∙ p in rw (p, q') (h us vs alike)
    go false p q = let q' = q ∙ p in rw (p, q') (IsPermutation-cons x (distinct_after (us ++ x ∷ []) xs) (distinct_after (vs ++ x ∷ []) ys) (h (us ++ x ∷ []) (vs ++ x ∷ []) (more_alike us vs x alike)))

same : (xs : List Cells) → R xs xs
same [] = λ us vs alike. IsPermutation-refl []
same (x ∷ xs) = skip x xs xs (same xs)

or_false : (b : Bool) → (b || false) ≡ b
or_false true = refl
or_false false = refl

-- the test on a list with one more row
on_more : (q x : Cells) (us : List Cells) (b c : Bool) → list_any (same_row q) us ≡ b → same_row q x ≡ c → list_any (same_row q) (us ++ x ∷ []) ≡ (b || (c || false))
on_more q x us b c h k = list_any-append (same_row q) us (x ∷ []) ∙ ap (λ z. z || list_any (same_row q) (x ∷ [])) h ∙ ap (λ z. b || (z || false)) k

cross : (us vs : List Cells) (x y : Cells) → Alike us vs → Alike ((us ++ x ∷ []) ++ y ∷ []) ((vs ++ y ∷ []) ++ x ∷ [])
cross us vs x y h q =
    on_more q y (us ++ x ∷ []) _ (same_row q y) (on_more q x us _ (same_row q x) (h q) refl) refl
    ∙ ors (list_any (same_row q) vs) (same_row q x) (same_row q y)
    ∙ sym (on_more q x (vs ++ y ∷ []) _ (same_row q x) (on_more q y vs _ (same_row q y) refl refl) refl)
  where
    ors : (a b c : Bool) → ((a || (b || false)) || (c || false)) ≡ ((a || (c || false)) || (b || false))
    ors true b c = refl
    ors false true true = refl
    ors false true false = refl
    ors false false true = refl
    ors false false false = refl

flip : (x y : Cells) (xs ys : List Cells) → Same xs ys → Same (x ∷ y ∷ xs) (y ∷ x ∷ ys)
flip x y xs ys h = IsPermutation-trans (x ∷ y ∷ xs) (y ∷ x ∷ xs) (y ∷ x ∷ ys) (IsPermutation-append_left xs (x ∷ y ∷ []) (y ∷ x ∷ []) (IsPermutation-append_comm (x ∷ []) (y ∷ []))) (IsPermutation-cons y (x ∷ xs) (x ∷ ys) (IsPermutation-cons x xs ys h))

turn : (x y : Cells) (xs : List Cells) → R (x ∷ y ∷ xs) (y ∷ x ∷ xs)
turn x y xs = by_same (same_row y x) (same_row x y) refl refl
  where
    apart : same_row y x ≡ false → same_row x y ≡ false → R (x ∷ y ∷ xs) (y ∷ x ∷ xs)
    apart n m us vs alike = go (list_any (same_row x) us) (list_any (same_row y) us) refl refl
      where
        go : (b c : Bool) → list_any (same_row x) us ≡ b → list_any (same_row y) us ≡ c → Same (distinct_after us (x ∷ y ∷ xs)) (distinct_after vs (y ∷ x ∷ xs))
        go true true p q =
            let p' = sym (alike x) ∙ p in let q' = sym (alike y) ∙ q in
            rw (p, q, q', p') (same xs us vs alike)
        go true false p q =
            let p' : list_any (same_row x) (vs ++ y ∷ []) ≡ true = on_more x y vs true false (sym (alike x) ∙ p) m in let q' = sym (alike y) ∙ q in
            rw (p, q, q', p') (IsPermutation-cons y _ _ (same xs (us ++ y ∷ []) (vs ++ y ∷ []) (more_alike us vs y alike)))
        go false true p q =
            let p' = sym (alike x) ∙ p in let q' = sym (alike y) ∙ q in
            let q2 : list_any (same_row y) (us ++ x ∷ []) ≡ true = on_more y x us true false q n in
            rw (p, q2, q', p') (IsPermutation-cons x _ _ (same xs (us ++ x ∷ []) (vs ++ x ∷ []) (more_alike us vs x alike)))
        go false false p q =
            let q2 : list_any (same_row y) (us ++ x ∷ []) ≡ false = on_more y x us false false q n in
            let q' = sym (alike y) ∙ q in
            let p2 : list_any (same_row x) (vs ++ y ∷ []) ≡ false = on_more x y vs false false (sym (alike x) ∙ p) m in
            rw (p, q2, q', p2) (flip x y _ _ (same xs ((us ++ x ∷ []) ++ y ∷ []) ((vs ++ y ∷ []) ++ x ∷ []) (cross us vs x y alike)))

    by_same : (b c : Bool) → same_row y x ≡ b → same_row x y ≡ c → R (x ∷ y ∷ xs) (y ∷ x ∷ xs)
    by_same true c p q = subst (λ z. R (x ∷ z ∷ xs) (z ∷ x ∷ xs)) (sym (equal_rows y x p)) (same (x ∷ x ∷ xs))
    by_same false true p q = subst (λ z. R (z ∷ y ∷ xs) (y ∷ z ∷ xs)) (sym (equal_rows x y q)) (same (y ∷ y ∷ xs))
    by_same false false p q = apart p q

pub same_distinct : (xs ys : List Cells) → Same xs ys → Same (distinct_rows xs) (distinct_rows ys)
same_distinct xs ys h = along R (record {
  same = same;
  under = skip;
  turned = turn;
  chain = λ xs ys zs a b us vs alike. IsPermutation-trans (distinct_after us xs) (distinct_after vs ys) (distinct_after vs zs) (a us vs alike) (b vs vs (λ q. refl));
}) xs ys h [] [] (λ q. refl)
