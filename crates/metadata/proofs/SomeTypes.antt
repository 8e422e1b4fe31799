-- Where some types of so many columns pass, there is a list of so many types that does.
use Rattle.std.proofs.Common.{◌≡◌, ℕ, zero, suc, Bool, true, false, ◌||◌, List, [], ◌∷◌, length, refl, arith, ◌⊎◌, inl, inr}
use Rattle.std.specs.List.{list_any}
use Rattle.vdb_base.specs.declared.value.Ty.{Ty}
use Rattle.vdb_model.specs.Columns.{some_types}
use Rattle.vdb_model.specs.Typed.{types}

pub either_true : (a b : Bool) → (a || b) ≡ true → (a ≡ true) ⊎ (b ≡ true)
either_true true b h = inl refl
either_true false b h = inr h

pub in_either : {A B C : Type 0} → A ⊎ B → (A → C) → (B → C) → C
in_either (inl a) f g = f a
in_either (inr b) f g = g b

-- an element that passes
module _ {X : Type 0} (p : X → Bool) where
  abbrev pub Passing : List X → Type 0
  Passing xs = (x : X) × (p x ≡ true)

  pub passing : (xs : List X) → list_any p xs ≡ true → Passing xs
  passing [] h = absurd (cc h)
  passing (x ∷ xs) h = in_either (either_true (p x) (list_any p xs) h) (λ here. (x, here)) (passing xs)

-- so many types that pass
pub record Found (n : ℕ) (passes : List Ty → Bool) : Type 0 where
  pub tys : List Ty
  pub many : length tys ≡ n
  pub pass : passes tys ≡ true

pub found : (n : ℕ) (passes : List Ty → Bool) → some_types n passes ≡ true → Found n passes
unfolding some_types
found zero passes h = record { tys = []; many = refl; pass = h }
found (suc n) passes h =
    let first = passing (λ t. some_types n (λ ts. passes (t ∷ ts))) types h in
    let rest = found n (λ ts. passes (first.0 ∷ ts)) first.1 in
    let many = rest.many in
    record { tys = first.0 ∷ rest.tys; many = omega arith; pass = rest.pass }
