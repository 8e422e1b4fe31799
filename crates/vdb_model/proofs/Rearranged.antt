-- What holds along every rearrangement of a list.
use Rattle.std.proofs.Common.{◌≡◌, ◌+◌, ◌<◌, ◌++◌, List, [], ◌∷◌, ℕ, zero, suc, sym, refl, subst, ap, Bool, true, false, if◌then◌else◌, filter, flat_map, append_assoc, get_or, IsPermutation, length, arith}
use Rattle.std.proofs.Math.ListN.{set}
use Rattle.std.proofs.lemmas.List.Edits.{swap_is}
use Rattle.std.proofs.lemmas.List.Sorted.{IsPermutation-refl, IsPermutation-trans, IsPermutation-append_left, IsPermutation-append_right, IsPermutation-append_comm, IsPermutation-keeps}
use Rattle.std.specs.List.{swap}

-- A relation on lists that is reflexive and transitive, goes under a head, and over two heads that change places.
pub record KeepsOrder {X : Type 0} (R : List X → List X → Type 0) : Type 0 where
  pub same : (xs : List X) → R xs xs
  pub under : (x : X) (xs ys : List X) → R xs ys → R (x ∷ xs) (x ∷ ys)
  pub turned : (x y : X) (xs : List X) → R (x ∷ y ∷ xs) (y ∷ x ∷ xs)
  pub chain : (xs ys zs : List X) → R xs ys → R ys zs → R xs zs

module _ {X : Type 0} (R : List X → List X → Type 0) (k : KeepsOrder R) where
  -- the head and a later element change places
  with_head : (xs : List X) (i : ℕ) (x d : X) → i < length xs → R (x ∷ xs) (get_or xs i d ∷ set xs i x)
  with_head [] i x d h = absurd (omega arith)
  with_head (y ∷ xs) zero x d h = k.turned x y xs
  with_head (y ∷ xs) (suc i) x d h =
      k.chain _ _ _ (k.turned x y xs) (k.chain _ _ _ (k.under y _ _ (with_head xs i x d (omega arith))) (k.turned y (get_or xs i d) (set xs i x)))

  exchanged : (xs : List X) (i j : ℕ) (d : X) → i < length xs → j < length xs → R xs (set (set xs i (get_or xs j d)) j (get_or xs i d))
  exchanged [] i j d g h = absurd (omega arith)
  exchanged (x ∷ xs) zero zero d g h = k.same (x ∷ xs)
  exchanged (x ∷ xs) zero (suc j) d g h = with_head xs j x d (omega arith)
  exchanged (x ∷ xs) (suc i) zero d g h = with_head xs i x d (omega arith)
  exchanged (x ∷ xs) (suc i) (suc j) d g h = k.under x _ _ (exchanged xs i j d (omega arith) (omega arith))

  after_swap : (xs : List X) (i j : ℕ) → i < length xs → j < length xs → R xs (swap xs i j)
  after_swap [] i j g h = absurd (omega arith)
  after_swap (x ∷ xs) i j g h = subst (R (x ∷ xs)) (swap_is (x ∷ xs) i j x g h) (exchanged (x ∷ xs) i j x g h)

  -- such a relation holds along each rearrangement
  pub along : (xs ys : List X) → IsPermutation xs ys → R xs ys
  along xs ys h = IsPermutation-keeps xs (R xs) (k.same xs) (λ l i j g h r. k.chain xs l (swap l i j) r (after_swap l i j g h)) ys h

-- what is made row by row of a rearrangement is a rearrangement
pub flat_map_order : {A B : Type 0} (f : A → List B) → KeepsOrder (λ (xs ys : List A). IsPermutation (flat_map f xs) (flat_map f ys))
flat_map_order f = record {
  same = λ xs. IsPermutation-refl (flat_map f xs);
  under = λ x xs ys h. IsPermutation-append_right (f x) (flat_map f xs) (flat_map f ys) h;
  turned = λ x y xs. rw (← append_assoc (f x), ← append_assoc (f y)) (IsPermutation-append_left (flat_map f xs) _ _ (IsPermutation-append_comm (f x) (f y)));
  chain = λ xs ys zs. IsPermutation-trans _ _ _;
}

pub IsPermutation-flat_map : {A B : Type 0} (f : A → List B) (xs ys : List A) → IsPermutation xs ys → IsPermutation (flat_map f xs) (flat_map f ys)
IsPermutation-flat_map f xs ys h = along (λ xs ys. IsPermutation (flat_map f xs) (flat_map f ys)) (flat_map_order f) xs ys h

filter_by_row : {A : Type 0} (p : A → Bool) (xs : List A) → filter p xs ≡ flat_map (λ x. if p x then x ∷ [] else []) xs
filter_by_row p [] = refl
filter_by_row p (x ∷ xs) = at (p x) (filter_by_row p xs)
  where
    at : (b : Bool) → filter p xs ≡ flat_map (λ x. if p x then x ∷ [] else []) xs
        → (if b then x ∷ filter p xs else filter p xs) ≡ (if b then x ∷ [] else []) ++ flat_map (λ x. if p x then x ∷ [] else []) xs
    at true ih = ap (λ l. x ∷ l) ih
    at false ih = ih

pub IsPermutation-filter : {A : Type 0} (p : A → Bool) (xs ys : List A) → IsPermutation xs ys → IsPermutation (filter p xs) (filter p ys)
IsPermutation-filter {A} p xs ys h =
    subst (λ (l : List A). IsPermutation l (filter p ys)) (sym (filter_by_row p xs))
    (subst (IsPermutation (flat_map (λ x. if p x then x ∷ [] else []) xs)) (sym (filter_by_row p ys)) (IsPermutation-flat_map (λ x. if p x then x ∷ [] else []) xs ys h))
