-- The total order of rows, and that it gives one list.
use Rattle.std.proofs.Common.{◌≡◌, ◌∙◌, ◌+◌, Bool, true, false, true≢false, List, [], ◌∷◌, if◌then◌else◌, refl, sym, ap, subst, IsPermutation, IsSorted, arith, suc, get_or}
use Rattle.std.specs.declared.cmp.Ordering.{Ordering}
use Rattle.std.specs.declared.cmp.Ordering.TheVariants.{Less, Equal, Greater}
use Rattle.std.specs.Ordering.{is_gt, is_lt, is_eq, ordering_then, ordering_reverse}
use Rattle.std.specs.Cmp.{IsTotalOrder, then_total, on_total, back_total}
use Rattle.vdb_base.specs.Order.{value_cmp, row_cmp}
use Rattle.vdb_base.specs.Total.{value_total, row_total}
use Rattle.vdb_model.specs.declared.rel.Key.{Key}
use Rattle.vdb_model.specs.Arranged.{put_in, in_order}
use Rattle.vdb_model.specs.Keys.{key_cmp, keys_cmp, total_cmp}
use Rattle.vdb_model.specs.Meaning.{cell}
use Rattle.vdb_model.specs.Rows.{Cells}
use Rattle.vdb_model.proofs.Rearranged.{along}
use Rattle.vdb_model.proofs.SameDistinct.{equal_rows}

directed : (d : Bool) (R : Cells → Cells → Ordering) → IsTotalOrder R → IsTotalOrder (λ a b. if d then R b a else R a b)
directed true R o = back_total o
directed false R o = o

key_total : (key : Key) → IsTotalOrder (key_cmp key)
key_total key = directed key.desc (λ a b. value_cmp (cell a key.column) (cell b key.column)) (on_total (λ (row : Cells). cell row key.column) value_total)

pub keys_total : (keys : List Key) → IsTotalOrder (keys_cmp keys)
keys_total [] = record { antisymm = λ x y. refl; trans = λ x y z g h. g; congr = λ x y z h. refl }
keys_total (key ∷ keys) = then_total (key_total key) (keys_total keys)

pub total_total : (keys : List Key) → IsTotalOrder (total_cmp keys)
total_total keys = then_total (keys_total keys) row_total

last_decides : (a b : Ordering) → ordering_then a b ≡ Equal → b ≡ Equal
last_decides Less b h = cc
last_decides Equal b h = h
last_decides Greater b h = cc

-- rows that tie are equal
pub ties_are_equal : (keys : List Key) (a b : Cells) → total_cmp keys a b ≡ Equal → a ≡ b
ties_are_equal keys a b h = equal_rows a b (ap is_eq (last_decides (keys_cmp keys a b) (row_cmp a b) h))

module _ (R : Cells → Cells → Ordering) (o : IsTotalOrder R) (same : (a b : Cells) → R a b ≡ Equal → a ≡ b) where
  -- an order that holds of two and of two holds of the outer ones
  not_gt : (x y z : Cells) → is_gt (R x y) ≡ false → is_gt (R y z) ≡ false → is_gt (R x z) ≡ false
  not_gt x y z g h = by_first (R x y) refl
    where
      by_second : (p : Ordering) → R x y ≡ Less → R y z ≡ p → is_gt (R x z) ≡ false
      by_second Less e f = ap is_gt (o.trans x y z e f)
      by_second Equal e f = ap (λ w. is_gt (R x w)) (sym (same y z f)) ∙ ap is_gt e
      by_second Greater e f = absurd (true≢false (sym (ap is_gt f) ∙ h))

      by_first : (p : Ordering) → R x y ≡ p → is_gt (R x z) ≡ false
      by_first Less e = by_second (R y z) e refl
      by_first Equal e = subst (λ w. is_gt (R w z) ≡ false) (sym (same x y e)) h
      by_first Greater e = absurd (true≢false (sym (ap is_gt e) ∙ g))

  opposite : (x y : Cells) (a b : Ordering) → R x y ≡ a → ordering_reverse a ≡ b → R y x ≡ b
  opposite x y a b e f = o.antisymm y x ∙ ap ordering_reverse e ∙ f

  -- two rows go in by either order
  put_less : (x y : Cells) (zs : List Cells) → R x y ≡ Less → put_in R x (put_in R y zs) ≡ put_in R y (put_in R x zs)
  put_less x y [] e =
      let f : is_gt (R x y) ≡ false = ap is_gt e in
      let g : is_gt (R y x) ≡ true = ap is_gt (opposite x y Less Greater e refl) in
      rw (f, g) refl
  put_less x y (z ∷ zs) e = at (is_gt (R x z)) (is_gt (R y z)) (put_less x y zs e) refl refl
    where
      at : (a b : Bool) → put_in R x (put_in R y zs) ≡ put_in R y (put_in R x zs) → is_gt (R x z) ≡ a → is_gt (R y z) ≡ b → put_in R x (put_in R y (z ∷ zs)) ≡ put_in R y (put_in R x (z ∷ zs))
      at true true ih p q = rw (p, q, p) (ap (λ w. z ∷ w) ih)
      at true false ih p q = absurd (true≢false (sym p ∙ not_gt x y z (ap is_gt e) q))
      at false true ih p q =
          let g : is_gt (R y x) ≡ true = ap is_gt (opposite x y Less Greater e refl) in
          rw (p, q, p, g) refl
      at false false ih p q =
          let f : is_gt (R x y) ≡ false = ap is_gt e in
          let g : is_gt (R y x) ≡ true = ap is_gt (opposite x y Less Greater e refl) in
          rw (p, q, f, g) refl

  put_both : (x y : Cells) (zs : List Cells) → put_in R x (put_in R y zs) ≡ put_in R y (put_in R x zs)
  put_both x y zs = at (R x y) refl
    where
      at : (a : Ordering) → R x y ≡ a → put_in R x (put_in R y zs) ≡ put_in R y (put_in R x zs)
      at Less e = put_less x y zs e
      at Equal e = subst (λ w. put_in R x (put_in R w zs) ≡ put_in R w (put_in R x zs)) (same x y e) refl
      at Greater e = sym (put_less y x zs (opposite x y Greater Less e refl))

  order_of_bag : (xs ys : List Cells) → IsPermutation xs ys → in_order R xs ≡ in_order R ys
  order_of_bag = along (λ xs ys. in_order R xs ≡ in_order R ys) (record {
    same = λ xs. refl;
    under = λ x xs ys h. ap (put_in R x) h;
    turned = λ x y xs. put_both x y (in_order R xs);
    chain = λ xs ys zs h k. h ∙ k;
  })

  turned_gt : (a : Ordering) → is_gt (ordering_reverse a) ≡ is_lt a
  turned_gt Less = refl
  turned_gt Equal = refl
  turned_gt Greater = refl

  tail_sorted : (x : Cells) (xs : List Cells) → IsSorted R (x ∷ xs) → IsSorted R xs
  tail_sorted x xs h k d low high =
      let next : suc k + 1 ≡ suc (k + 1) = omega arith in
      subst (λ n. is_lt (R (get_or (x ∷ xs) n d) (get_or xs k d)) ≡ false) next (h (suc k) d (omega arith) (omega (arith, high)))

  at_front : (x : Cells) (xs : List Cells) → IsSorted R (x ∷ xs) → put_in R x xs ≡ x ∷ xs
  at_front x [] h = refl
  at_front x (y ∷ xs) h =
      let f : is_gt (R x y) ≡ false = ap is_gt (o.antisymm x y) ∙ turned_gt (R y x) ∙ h 0 x (omega arith) (omega arith) in
      rw f refl

  sorted_stays : (xs : List Cells) → IsSorted R xs → in_order R xs ≡ xs
  sorted_stays [] h = refl
  sorted_stays (x ∷ xs) h = ap (put_in R x) (sorted_stays xs (tail_sorted x xs h)) ∙ at_front x xs h

  -- a sorted rearrangement is the one in order
  pub one_order : (xs ys : List Cells) → IsPermutation xs ys → IsSorted R ys → ys ≡ in_order R xs
  one_order xs ys same sorted = sym (order_of_bag xs ys same ∙ sorted_stays ys sorted)
