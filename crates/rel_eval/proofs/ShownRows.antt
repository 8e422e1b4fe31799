-- Sorted things, by the rows that they show.
use Rattle.std.proofs.Common.{◌≡◌, ◌<◌, ◌+◌, ℕ, zero, suc, List, [], ◌∷◌, refl, ap, map, length, arith, get_or, subst, IsPermutation, IsSorted, IsSortedBy}
use Rattle.std.specs.declared.cmp.Ordering.{Ordering}
use Rattle.std.specs.Ordering.{is_lt}
use Rattle.std.proofs.lemmas.List.Sorted.{IsPermutation-map}
use Rattle.vdb_model.specs.Rows.{Cells}

module _ {A : Type 0} (f : A → Cells) where
  shown_at : (xs : List A) (k : ℕ) (d : Cells) (e : A) → k < length xs → get_or (map f xs) k d ≡ f (get_or xs k e)
  shown_at [] k d e h = absurd (omega (arith, h))
  shown_at (x ∷ xs) zero d e h = refl
  shown_at (x ∷ xs) (suc k) d e h = shown_at xs k d e (omega (arith, h))

  shown_length : (xs : List A) → length (map f xs) ≡ length xs
  shown_length [] = refl
  shown_length (x ∷ xs) = ap suc (shown_length xs)

  pub shown_same : (rows : List Cells) (before after : List A) → map f before ≡ rows → IsPermutation before after → IsPermutation rows (map f after)
  shown_same rows before after e h = subst (λ z. IsPermutation z (map f after)) e (IsPermutation-map f before after h)

  pub shown_sorted : (R : Cells → Cells → Ordering) (xs : List A) → IsSortedBy (λ (a b : A). is_lt (R (f a) (f b))) xs → IsSorted R (map f xs)
  shown_sorted R [] h k d low high = absurd (omega (arith, high))
  shown_sorted R (x ∷ xs) h k d low high =
      let within : k + 1 < length (x ∷ xs) = subst (λ n. k + 1 < n) (shown_length (x ∷ xs)) high in
      rw (shown_at (x ∷ xs) (k + 1) d x within, shown_at (x ∷ xs) k d x (omega (arith, within))) (h k x low within)
