-- Words of different lengths differ.
use Rattle.std.proofs.Common.{◌≡◌, ℕ, ◌&&◌, ◌==◌, Bool, true, false, List, [], ◌∷◌, length, refl, arith}
use Rattle.sql_tokens.specs.Values.{fold}
use Rattle.sql_tokens.specs.Words.{is_same}

pub unlike : (bs cs : List ℕ) → (length bs ≡ length cs → ⊥) → is_same bs cs ≡ false
unlike [] [] h = absurd (h refl)
unlike [] (c ∷ cs) h = refl
unlike (b ∷ bs) [] h = refl
unlike (b ∷ bs) (c ∷ cs) h = at (fold b == c) (unlike bs cs (λ e. h (omega arith)))
  where
    at : (d : Bool) → is_same bs cs ≡ false → (d && is_same bs cs) ≡ false
    at true e = e
    at false e = refl
