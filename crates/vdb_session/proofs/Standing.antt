-- A loop that changes each element of a slice in turn: those from its place on stand as they stood.
use Rattle.std.proofs.Common.{◌≡◌, ℕ, ◌+◌, ◌<◌, ◌≤◌, List, ◌∷◌, length, get_or, drop, set, sym, ap, ◌∙◌, arith}
use Rattle.std.proofs.lemmas.List.{drop_more, drop-set-lt, length-drop}
use Rattle.std.proofs.lemmas.Grind.{drop_more_same}

pub standing_length : {X : Type 0} (i : ℕ) (now was : List X) → i < length now → drop i now ≡ drop i was → i < length was
standing_length i now was h e = omega (arith, length-drop i now, length-drop i was, ap length e)

pub standing_here : {X : Type 0} (i : ℕ) (now was : List X) (d : X) → i < length now → drop i now ≡ drop i was → get_or now i d ≡ get_or was i d
standing_here i now was d h e =
    let h2 : i < length was = standing_length i now was h e in
    head_same _ _ _ _ (sym (drop_more now i d h) ∙ e ∙ drop_more was i d h2)
  where
    head_same : {X : Type 0} (a b : X) (xs ys : List X) → a ∷ xs ≡ b ∷ ys → a ≡ b
    head_same a b xs ys e = cc

pub standing_more : {X : Type 0} (i : ℕ) (now was : List X) (x : X) → i < length now → drop i now ≡ drop i was → drop (i + 1) (set now i x) ≡ drop (i + 1) was
standing_more i now was x h e = drop-set-lt (i + 1) now i x (omega arith) ∙ drop_more_same now was i e

pub standing_all : {X : Type 0} (i : ℕ) (now was : List X) → length now ≤ i → drop i now ≡ drop i was → length was ≤ i
standing_all i now was h e = omega (arith, length-drop i now, length-drop i was, ap length e)
