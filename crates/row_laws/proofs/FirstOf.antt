-- Which of several values comes first in an order, whatever order they are listed in.
use Rattle.std.proofs.Common.{◌≡◌, ◌∙◌, Bool, true, false, true≢false, List, [], ◌∷◌, if◌then◌else◌, refl, sym, ap, IsPermutation}
use Rattle.std.specs.Cmp.{IsStrictWeakOrder}
use Rattle.std.specs.List.{best_of}
use Rattle.vdb_model.proofs.Rearranged.{along}

module _ {X : Type 0} (lt : X → X → Bool) where
  -- of two values, the one before the other
  abbrev first : X → X → X
  first a x = if lt x a then x else a

  -- the first of all, or a value given where there is none
  abbrev pub first_of : X → List X → X
  first_of none [] = none
  first_of none (x ∷ xs) = best_of lt x xs

  record SameFirst (xs ys : List X) : Type 0 where
    after : (a : X) → best_of lt a xs ≡ best_of lt a ys
    alone : (none : X) → first_of none xs ≡ first_of none ys

  -- values that tie are equal
  module _ (o : IsStrictWeakOrder lt) (same : (x y : X) → lt x y ≡ false → lt y x ≡ false → x ≡ y) where
    in_turn : (a x : X) → first a x ≡ first x a
    in_turn a x = at (lt x a) (lt a x) refl refl
      where
        at : (p q : Bool) → lt x a ≡ p → lt a x ≡ q → (if p then x else a) ≡ (if q then a else x)
        at true true e f = absurd (true≢false (sym f ∙ o.one_way x a e))
        at true false e f = refl
        at false true e f = refl
        at false false e f = same a x f e

    two_in_turn : (a x y : X) → first (first a x) y ≡ first (first a y) x
    two_in_turn a x y = at (lt x a) (lt y a) refl refl
      where
        at : (p q : Bool) → lt x a ≡ p → lt y a ≡ q → first (if p then x else a) y ≡ first (if q then y else a) x
        at true true e f = in_turn x y
        at true false e f = let g : lt y x ≡ false = o.chain y a x f (o.one_way x a e) in rw (g, e) refl
        at false true e f = let g : lt x y ≡ false = o.chain x a y e (o.one_way y a f) in rw (f, g) refl
        at false false e f = rw (f, e) refl

    pub same_first_of : (none : X) (xs ys : List X) → IsPermutation xs ys → first_of none xs ≡ first_of none ys
    same_first_of none xs ys h = (along SameFirst (record {
      same = λ xs. record { after = λ a. refl; alone = λ none. refl };
      under = λ x xs ys f. record { after = λ a. f.after (first a x); alone = λ none. f.after x };
      turned = λ x y xs. record {
        after = λ a. ap (λ b. best_of lt b xs) (two_in_turn a x y);
        alone = λ none. ap (λ b. best_of lt b xs) (in_turn x y);
      };
      chain = λ xs ys zs f g. record { after = λ a. f.after a ∙ g.after a; alone = λ none. f.alone none ∙ g.alone none };
    }) xs ys h).alone none
