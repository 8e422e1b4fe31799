-- Parts of texts that are texts.
use Rattle.std.proofs.Common.{eqb-true, ◌≡◌, ◌≤◌, ◌<◌, ℕ, suc, ◌+◌, Bool, true, false, ◌==◌, ◌&&◌, List, [], ◌∷◌, ◌++◌, arith, refl, sym, ap, ◌∙◌, subst, length, take, drop, get_or, append_assoc, if◌then◌else◌, length-append}
use Rattle.std.specs.Str.{IsUtf8}
use Rattle.std.specs.List.{All, list_all}
use Rattle.std.proofs.lemmas.Str.{IsUtf8-append, IsUtf8-drop, IsUtf8-take, IsUtf8-from_ascii, IsCharBoundary-after_ascii, IsCharBoundary-at_seam}
use Rattle.std.proofs.lemmas.Str.Ascii.{IsAscii-from_all}
use Rattle.std.proofs.lemmas.List.Elements.{All-nil, All-cons}
use Rattle.std.proofs.lemmas.Bool.Decides.{nat_tests}
use Rattle.sql_tokens.specs.Laws.{doubled}
use Rattle.sql_tokens.specs.Values.{fold, folded}
use Rattle.sql_tokens.specs.Bytes.{is_word, is_printable}

pub take_front : (xs ys : List ℕ) → take (length xs) (xs ++ ys) ≡ xs
take_front [] ys = refl
take_front (x ∷ xs) ys = ap (λ z. x ∷ z) (take_front xs ys)

pub drop_front : (xs ys : List ℕ) → drop (length xs) (xs ++ ys) ≡ ys
drop_front [] ys = refl
drop_front (x ∷ xs) ys = drop_front xs ys

drop_past : (xs ys : List ℕ) (b : ℕ) → drop (suc (length xs)) (xs ++ b ∷ ys) ≡ ys
drop_past [] ys b = refl
drop_past (x ∷ xs) ys b = drop_past xs ys b

at_seam : (xs ys : List ℕ) (b : ℕ) → get_or (xs ++ b ∷ ys) (length xs) 0 ≡ b
at_seam [] ys b = refl
at_seam (x ∷ xs) ys b = at_seam xs ys b

-- ASCII

all_ascii : (bs : List ℕ) → All (λ b. b < 128) bs → IsUtf8 bs
all_ascii bs h = IsUtf8-from_ascii bs (IsAscii-from_all bs h)

one_ascii : (b : ℕ) → b < 128 → IsUtf8 (b ∷ [])
one_ascii b h = all_ascii (b ∷ []) (All-cons (λ b. b < 128) b [] h (All-nil (λ b. b < 128)))

-- at an ASCII byte a text falls into two

record Split (xs ys : List ℕ) : Type 0 where
  front : IsUtf8 xs
  back : IsUtf8 ys

split : (xs ys : List ℕ) (b : ℕ) → b < 128 → IsUtf8 (xs ++ b ∷ ys) → Split xs ys
split xs ys b h u =
    let long : length xs < length (xs ++ b ∷ ys) = omega (arith, length-append xs (b ∷ ys)) in
    let low : get_or (xs ++ b ∷ ys) (length xs) 0 < 128 = rw (at_seam xs ys b) h in
    let past : length xs + 1 ≡ suc (length xs) = omega arith in
    let back : IsUtf8 ys = subst IsUtf8 (ap (λ n. drop n (xs ++ b ∷ ys)) past ∙ drop_past xs ys b)
    (IsUtf8-drop (xs ++ b ∷ ys) (length xs + 1) u (IsCharBoundary-after_ascii (xs ++ b ∷ ys) (length xs) u long low)) in
    let tail : IsUtf8 (b ∷ ys) = IsUtf8-append (b ∷ []) ys (one_ascii b h) back in
    let front : IsUtf8 xs = subst IsUtf8 (take_front xs (b ∷ ys))
    (IsUtf8-take (xs ++ b ∷ ys) (length xs) u (IsCharBoundary-at_seam (xs ++ b ∷ ys) xs (b ∷ ys) refl tail)) in
    record { front = front; back = back }

-- a text with doubled quotes is one without them

undoubled : (q : ℕ) → q < 128 → (body front : List ℕ) → IsUtf8 (front ++ doubled q body) → IsUtf8 (front ++ body)
undoubled q h [] front u = u
undoubled q h (b ∷ bs) front u = at (b == q) refl u (undoubled q h bs []) (undoubled q h bs (front ++ b ∷ []))
  where
    at : (c : Bool) → (b == q) ≡ c → IsUtf8 (front ++ (if c then q ∷ q ∷ doubled q bs else b ∷ doubled q bs))
        → (IsUtf8 (doubled q bs) → IsUtf8 bs) → (IsUtf8 ((front ++ b ∷ []) ++ doubled q bs) → IsUtf8 ((front ++ b ∷ []) ++ bs))
        → IsUtf8 (front ++ b ∷ bs)
    at true is u f g =
        let same : b ≡ q = eqb-true b q is in
        let first = split front (q ∷ doubled q bs) q h u in
        let second = split [] (doubled q bs) q h first.back in
        let low : b < 128 = omega (arith, same) in
        IsUtf8-append front (b ∷ bs) first.front (IsUtf8-append (b ∷ []) bs (one_ascii b low) (f second.back))
    at false is u f g = subst IsUtf8 (append_assoc front (b ∷ []) bs) (g (subst IsUtf8 (sym (append_assoc front (b ∷ []) (doubled q bs))) u))

pub quoted_text : (q : ℕ) → q < 128 → (body : List ℕ) → IsUtf8 (q ∷ (doubled q body ++ q ∷ [])) → IsUtf8 body
quoted_text q h body u =
    let inside = split [] (doubled q body ++ q ∷ []) q h u in
    undoubled q h body [] (split (doubled q body) [] q h inside.back).front

-- and bytes that are all of a class are so without doubled quotes

and_true : (a b : Bool) → (a && b) ≡ true → (a ≡ true) × (b ≡ true)
and_true true b e = (refl, e)
and_true false b e = cc

pub undoubled_all : (p : ℕ → Bool) (q : ℕ) (body rest : List ℕ) → list_all p (doubled q body ++ rest) ≡ true → list_all p body ≡ true
undoubled_all p q [] rest e = refl
undoubled_all p q (b ∷ bs) rest e = at (b == q) refl e (undoubled_all p q bs rest)
  where
    at : (c : Bool) → (b == q) ≡ c → list_all p ((if c then q ∷ q ∷ doubled q bs else b ∷ doubled q bs) ++ rest) ≡ true
        → (list_all p (doubled q bs ++ rest) ≡ true → list_all p bs ≡ true) → (p b && list_all p bs) ≡ true
    at true is e f =
        let same : b ≡ q = eqb-true b q is in
        let one = and_true (p q) (p q && list_all p (doubled q bs ++ rest)) e in
        let two = and_true (p q) (list_all p (doubled q bs ++ rest)) one.1 in
        rw (same, one.0) (f two.1)
    at false is e f = let one = and_true (p b) (list_all p (doubled q bs ++ rest)) e in rw one.0 (f one.1)

fold_low : (b : ℕ) → b ≤ 126 → fold b < 128
fold_low b h = grind (arith, nat_tests)

pub folded_text : (p : ℕ → Bool) → ((b : ℕ) → p b ≡ true → b ≤ 126) → (bs : List ℕ) → list_all p bs ≡ true → IsUtf8 (folded bs)
folded_text p low bs h = all_ascii (folded bs) (all bs h)
  where
    all : (bs : List ℕ) → list_all p bs ≡ true → All (λ b. b < 128) (folded bs)
    all [] e = All-nil (λ b. b < 128)
    all (b ∷ bs) e =
        let one = and_true (p b) (list_all p bs) e in
        All-cons (λ b. b < 128) (fold b) (folded bs) (fold_low b (low b one.0)) (all bs one.1)

pub printable_low : (b : ℕ) → is_printable b ≡ true → b ≤ 126
printable_low b e = grind (arith, nat_tests)

pub word_low : (b : ℕ) → is_word b ≡ true → b ≤ 126
word_low b e = grind (arith, nat_tests)
