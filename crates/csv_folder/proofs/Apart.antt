-- A list of which no two are the same, read from the front beside what was seen so far.
use Rattle.std.proofs.Common.{◌≡◌, ◌∙◌, Bool, true, false, not, ◌&&◌, ◌||◌, List, [], ◌∷◌, refl, sym, ap}
use Rattle.std.specs.List.{list_any}
use Rattle.csv_folder.specs.Header.{are_apart}

-- none of the list was seen
abbrev pub all_new : {T : Type 0} → (T → Bool) → List T → Bool
all_new seen [] = true
all_new seen (x ∷ xs) = not (seen x) && all_new seen xs

-- no two of the list are the same, and none was seen
abbrev pub apart_from : {T : Type 0} → (T → Bool) → (T → T → Bool) → List T → Bool
apart_from seen same xs = all_new seen xs && are_apart same xs

none_seen : {T : Type 0} (seen : T → Bool) (xs : List T) → ((x : T) → seen x ≡ false) → all_new seen xs ≡ true
none_seen seen [] e = refl
none_seen seen (x ∷ xs) e = ap (λ b. not b && all_new seen xs) (e x) ∙ none_seen seen xs e

-- at first nothing was seen
pub apart_none : {T : Type 0} (seen : T → Bool) (same : T → T → Bool) (xs : List T) → ((x : T) → seen x ≡ false) → apart_from seen same xs ≡ are_apart same xs
apart_none seen same xs e = ap (λ b. b && are_apart same xs) (none_seen seen xs e)

one_more : {T : Type 0} (seen more : T → Bool) (same : T → T → Bool) (x : T) (xs : List T) → ((y : T) → more y ≡ (same x y || seen y))
    → all_new more xs ≡ (not (list_any (same x) xs) && all_new seen xs)
one_more seen more same x [] e = refl
one_more seen more same x (y ∷ ys) e =
    ap (λ b. not b && all_new more ys) (e y)
    ∙ ap (λ b. not (same x y || seen y) && b) (one_more seen more same x ys e)
    ∙ swap (same x y) (seen y) (list_any (same x) ys) (all_new seen ys)
  where
    swap : (p a q b : Bool) → (not (p || a) && (not q && b)) ≡ (not (p || q) && (not a && b))
    swap true true true b = refl
    swap true true false b = refl
    swap true false true b = refl
    swap true false false b = refl
    swap false true true b = refl
    swap false true false b = refl
    swap false false true b = refl
    swap false false false b = refl

-- the first is new: it was seen from then on
pub apart_more : {T : Type 0} (seen more : T → Bool) (same : T → T → Bool) (x : T) (xs : List T) → ((y : T) → more y ≡ (same x y || seen y)) → seen x ≡ false
    → apart_from more same xs ≡ apart_from seen same (x ∷ xs)
apart_more seen more same x xs e new =
    ap (λ b. b && are_apart same xs) (one_more seen more same x xs e)
    ∙ swap (list_any (same x) xs) (all_new seen xs) (are_apart same xs)
    ∙ ap (λ b. (not b && all_new seen xs) && (not (list_any (same x) xs) && are_apart same xs)) (sym new)
  where
    swap : (q a b : Bool) → ((not q && a) && b) ≡ (a && (not q && b))
    swap true true b = refl
    swap true false b = refl
    swap false true b = refl
    swap false false b = refl

-- the first was seen
pub apart_stop : {T : Type 0} (seen : T → Bool) (same : T → T → Bool) (x : T) (xs : List T) → seen x ≡ true → apart_from seen same (x ∷ xs) ≡ false
apart_stop seen same x xs old = ap (λ b. (not b && all_new seen xs) && are_apart same (x ∷ xs)) old

pub was_new : (b : Bool) → not b ≡ true → b ≡ false
was_new true h = cc
was_new false h = refl
