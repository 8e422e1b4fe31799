-- A piece that ends before a `;` is the same whatever follows the `;`.
use Rattle.std.proofs.Common.{◌≡◌, ◌≤◌, ◌<◌, ℕ, zero, suc, ◌+◌, ◌-◌, Bool, true, false, cond, not, ◌&&◌, ◌||◌, ◌==◌, List, [], ◌∷◌, ◌++◌, Option, Some, None, arith, refl, sym, ap, ◌∙◌, length, drop, take, get_or, if◌then◌else◌}
use Rattle.std.specs.List.{prefix_len, list_all}
use Rattle.std.specs.Str.{is_utf8}
use Rattle.std.proofs.lemmas.List.{take-append-le}
use Rattle.sql_tokens.specs.declared.token.Kind.{Kind}
use Rattle.sql_tokens.specs.declared.token.Kind.TheVariants as kind
use Rattle.sql_tokens.specs.declared.pieces.Opening.{Opening}
use Rattle.sql_tokens.specs.declared.pieces.Opening.TheVariants as begin
use Rattle.sql_tokens.specs.declared.pieces.Piece.{Piece}
use Rattle.sql_tokens.specs.Bytes.{is_printable, is_digit, is_blank, is_in_line, is_word}
use Rattle.sql_tokens.specs.Lengths.{quoted, commented, further, digits, fraction, exponent}
use Rattle.sql_tokens.specs.Pieces.{piece, piece_of, opens, closed, comment, number, number_of, sign, one, gap}

-- runs

cond_step : (c : Bool) (n m k : ℕ) → cond c (1 + n) 0 ≤ k → (suc n ≤ k → m ≡ n) → cond c (1 + m) 0 ≡ cond c (1 + n) 0
cond_step true n m k h f = ap (λ x. 1 + x) (f (omega arith))
cond_step false n m k h f = refl

pub run_within : (p : ℕ → Bool) (us vs ws : List ℕ) → prefix_len p (us ++ 59 ∷ vs) ≤ length us
    → prefix_len p (us ++ 59 ∷ ws) ≡ prefix_len p (us ++ 59 ∷ vs)
run_within p [] vs ws h = cond_step (p 59) (prefix_len p vs) (prefix_len p ws) 0 h (λ l. absurd (omega arith))
run_within p (b ∷ us) vs ws h =
    cond_step (p b) (prefix_len p (us ++ 59 ∷ vs)) (prefix_len p (us ++ 59 ∷ ws)) (suc (length us)) h
    (λ l. run_within p us vs ws (omega arith))

pub digits_same : (us vs ws : List ℕ) → digits (us ++ 59 ∷ ws) ≡ digits (us ++ 59 ∷ vs)
digits_same [] vs ws = refl
digits_same (b ∷ us) vs ws = ap (λ n. cond (is_digit b) (1 + n) 0) (digits_same us vs ws)

cond_le : (c : Bool) (n k : ℕ) → n ≤ k → cond c (1 + n) 0 ≤ suc k
cond_le true n k h = omega arith
cond_le false n k h = omega arith

pub digits_le : (us vs : List ℕ) → digits (us ++ 59 ∷ vs) ≤ length us
digits_le [] vs = omega arith
digits_le (b ∷ us) vs = cond_le (is_digit b) (digits (us ++ 59 ∷ vs)) (length us) (digits_le us vs)

-- numbers

if_le : (c : Bool) (n k : ℕ) → n ≤ k → (if c then 0 else 1 + n) ≤ suc k
if_le true n k h = omega arith
if_le false n k h = omega arith

pub fraction_same : (us vs ws : List ℕ) → fraction (us ++ 59 ∷ ws) ≡ fraction (us ++ 59 ∷ vs)
fraction_same [] vs ws = refl
fraction_same (b ∷ us) vs ws = ap (λ n. if not (b == 46) || n == 0 then 0 else 1 + n) (digits_same us vs ws)

pub fraction_le : (us vs : List ℕ) → fraction (us ++ 59 ∷ vs) ≤ length us
fraction_le [] vs = omega arith
fraction_le (b ∷ us) vs =
    let n = digits (us ++ 59 ∷ vs) in if_le (not (b == 46) || n == 0) n (length us) (digits_le us vs)

signed_digits : (g : Bool) (b c : ℕ) (us vs ws : List ℕ)
    → digits (drop (1 + (if g then 1 else 0)) (b ∷ c ∷ (us ++ 59 ∷ ws))) ≡ digits (drop (1 + (if g then 1 else 0)) (b ∷ c ∷ (us ++ 59 ∷ vs)))
signed_digits true b c us vs ws = digits_same us vs ws
signed_digits false b c us vs ws = digits_same (c ∷ us) vs ws

pub exponent_same : (us vs ws : List ℕ) → exponent (us ++ 59 ∷ ws) ≡ exponent (us ++ 59 ∷ vs)
exponent_same [] vs ws = refl
exponent_same (b ∷ []) vs ws = refl
exponent_same (b ∷ c ∷ us) vs ws =
    let s = 1 + (if c == 43 || c == 45 then 1 else 0) in
    ap (λ n. if not (b == 101 || b == 69) || n == 0 then 0 else s + n) (signed_digits (c == 43 || c == 45) b c us vs ws)

pub drop_before : (k : ℕ) (us ts : List ℕ) → k ≤ length us → drop k (us ++ ts) ≡ drop k us ++ ts
drop_before zero us ts h = refl
drop_before (suc k) [] ts h = absurd (omega arith)
drop_before (suc k) (b ∷ us) ts h = drop_before k us ts (omega arith)

pub byte_same : (k : ℕ) (us vs ws : List ℕ) → k ≤ length us → get_or (us ++ 59 ∷ ws) k 0 ≡ get_or (us ++ 59 ∷ vs) k 0
byte_same zero [] vs ws h = refl
byte_same (suc k) [] vs ws h = absurd (omega arith)
byte_same zero (b ∷ us) vs ws h = refl
byte_same (suc k) (b ∷ us) vs ws h = byte_same k us vs ws (omega arith)

pub drop_le : (k : ℕ) (us : List ℕ) → length (drop k us) ≡ length us - k
drop_le zero us = omega arith
drop_le (suc k) [] = omega arith
drop_le (suc k) (b ∷ us) = drop_le k us ∙ omega arith

at_drop : (F : List ℕ → ℕ) → ((us vs ws : List ℕ) → F (us ++ 59 ∷ ws) ≡ F (us ++ 59 ∷ vs))
    → (k : ℕ) (us vs ws : List ℕ) → k ≤ length us → F (drop k (us ++ 59 ∷ ws)) ≡ F (drop k (us ++ 59 ∷ vs))
at_drop F same k us vs ws l =
    ap F (drop_before k us (59 ∷ ws) l) ∙ same (drop k us) vs ws ∙ sym (ap F (drop_before k us (59 ∷ vs) l))

number_eq : (n p p' q q' b b' : ℕ) → p ≡ p' → q ≡ q' → b ≡ b' → number_of n p q b ≡ number_of n p' q' b'
number_eq n p p' q q' b b' e f g =
    ap (λ x. number_of n x q b) e ∙ ap (λ x. number_of n p' x b) f ∙ ap (λ x. number_of n p' q' x) g

parts : ℕ → List ℕ → Piece
parts n text = number_of n (fraction (drop n text)) (exponent (drop (n + fraction (drop n text)) text)) (get_or text n 0)

parts_same : (n : ℕ) (us vs ws : List ℕ) → n ≤ length us → parts n (us ++ 59 ∷ ws) ≡ parts n (us ++ 59 ∷ vs)
unfolding parts
parts_same n us vs ws l =
    let f = at_drop fraction fraction_same n us vs ws l in
    let m : fraction (drop n us ++ 59 ∷ vs) ≤ length (drop n us) = fraction_le (drop n us) vs in
    let d : fraction (drop n (us ++ 59 ∷ vs)) ≡ fraction (drop n us ++ 59 ∷ vs) = ap fraction (drop_before n us (59 ∷ vs) l) in
    let k : n + fraction (drop n (us ++ 59 ∷ vs)) ≤ length us = omega (arith, drop_le n us, m, d) in
    let g = ap (λ x. exponent (drop (n + x) (us ++ 59 ∷ ws))) f
    ∙ at_drop exponent exponent_same (n + fraction (drop n (us ++ 59 ∷ vs))) us vs ws k in
    number_eq n _ _ _ _ _ _ f g (byte_same n us vs ws l)

pub number_same : (us vs ws : List ℕ) → number (us ++ 59 ∷ ws) ≡ number (us ++ 59 ∷ vs)
unfolding parts
number_same us vs ws =
    ap (λ n. parts n (us ++ 59 ∷ ws)) (digits_same us vs ws) ∙ parts_same (digits (us ++ 59 ∷ vs)) us vs ws (digits_le us vs)

-- quotations and comments

further_step : (c : Bool) (z : ℕ) (o o' : Option ℕ) (n k : ℕ) → (if c then Some z else further 1 o) ≡ Some n → n ≤ k
    → ((m : ℕ) → o ≡ Some m → suc m ≤ k → o' ≡ Some m) → (if c then Some z else further 1 o') ≡ Some n
further_step true z o o' n k e h f = e
further_step false z None o' n k e h f = cc
further_step false z (Some m) o' n k e h f =
    let g : 1 + m ≡ n = cc in let i : o' ≡ Some m = f m refl (omega arith) in rw (i, g) refl

pub quoted_stays : (q : ℕ) (shut : Bool) (us vs ws : List ℕ) (n : ℕ) → quoted q shut (us ++ 59 ∷ vs) ≡ Some n → n ≤ length us
    → quoted q shut (us ++ 59 ∷ ws) ≡ Some n
quoted_stays q shut [] vs ws n e h =
    further_step (shut && not (59 == q)) 0 (quoted q (not shut && 59 == q) vs) (quoted q (not shut && 59 == q) ws) n 0 e h
    (λ m _ l. absurd (omega arith))
quoted_stays q shut (b ∷ us) vs ws n e h =
    further_step (shut && not (b == q)) 0 (quoted q (not shut && b == q) (us ++ 59 ∷ vs)) (quoted q (not shut && b == q) (us ++ 59 ∷ ws))
    n (suc (length us)) e h (λ m i l. quoted_stays q (not shut && b == q) us vs ws m i (omega arith))

pub commented_stays : (star : Bool) (us vs ws : List ℕ) (n : ℕ) → commented star (us ++ 59 ∷ vs) ≡ Some n → n ≤ length us
    → commented star (us ++ 59 ∷ ws) ≡ Some n
commented_stays star [] vs ws n e h =
    further_step (star && 59 == 47) 1 (commented (59 == 42) vs) (commented (59 == 42) ws) n 0 e h (λ m _ l. absurd (omega arith))
commented_stays star (b ∷ us) vs ws n e h =
    further_step (star && b == 47) 1 (commented (b == 42) (us ++ 59 ∷ vs)) (commented (b == 42) (us ++ 59 ∷ ws))
    n (suc (length us)) e h (λ m i l. commented_stays (b == 42) us vs ws m i (omega arith))

pub length_over : (us vs : List ℕ) → length us < length (us ++ 59 ∷ vs)
length_over [] vs = omega arith
length_over (b ∷ us) vs = let h = length_over us vs in omega arith

pub take_same : (k : ℕ) (us vs ws : List ℕ) → k ≤ length us → take k (us ++ 59 ∷ ws) ≡ take k (us ++ 59 ∷ vs)
take_same k us vs ws l = take-append-le k us (59 ∷ ws) l ∙ sym (take-append-le k us (59 ∷ vs) l)

closed_stays : (k : Kind) (good : List ℕ → Bool) (us vs ws : List ℕ) (o o' : Option ℕ)
    → (closed k good (us ++ 59 ∷ vs) o).len ≤ length us → ((n : ℕ) → o ≡ Some n → 1 + n ≤ length us → o' ≡ Some n)
    → closed k good (us ++ 59 ∷ ws) o' ≡ closed k good (us ++ 59 ∷ vs) o
closed_stays k good us vs ws None o' h f = absurd (omega (arith, length_over us vs))
closed_stays k good us vs ws (Some n) o' h f =
    let e : o' ≡ Some n = f n refl h in
    rw (e, take_same (1 + n) us vs ws h) refl

comment_stays : (us vs ws : List ℕ) (o o' : Option ℕ)
    → (comment (us ++ 59 ∷ vs) o).len ≤ length us → ((n : ℕ) → o ≡ Some n → 2 + n ≤ length us → o' ≡ Some n)
    → comment (us ++ 59 ∷ ws) o' ≡ comment (us ++ 59 ∷ vs) o
comment_stays us vs ws None o' h f = absurd (omega (arith, length_over us vs))
comment_stays us vs ws (Some n) o' h f = let e : o' ≡ Some n = f n refl h in rw e refl

block_stays : (us vs ws : List ℕ) (n : ℕ) → commented false (drop 2 (us ++ 59 ∷ vs)) ≡ Some n → 2 + n ≤ length us
    → commented false (drop 2 (us ++ 59 ∷ ws)) ≡ Some n
block_stays [] vs ws n e h = absurd (omega arith)
block_stays (b ∷ []) vs ws n e h = absurd (omega arith)
block_stays (b ∷ c ∷ us) vs ws n e h = commented_stays false us vs ws n e (omega arith)

quote_stays : (q : ℕ) (us vs ws : List ℕ) (n : ℕ) → quoted q false (drop 1 (us ++ 59 ∷ vs)) ≡ Some n → 1 + n ≤ length us
    → quoted q false (drop 1 (us ++ 59 ∷ ws)) ≡ Some n
quote_stays q [] vs ws n e h = absurd (omega arith)
quote_stays q (b ∷ us) vs ws n e h = quoted_stays q false us vs ws n e (omega arith)

of_stays : (o : Opening) (us vs ws : List ℕ) → 0 < length us → (piece_of o (us ++ 59 ∷ vs)).len ≤ length us
    → piece_of o (us ++ 59 ∷ ws) ≡ piece_of o (us ++ 59 ∷ vs)
of_stays begin.Space us vs ws s h = ap gap (run_within is_blank us vs ws h)
of_stays begin.Line us vs ws s h = ap gap (run_within is_in_line us vs ws h)
of_stays begin.Block us vs ws s h = comment_stays us vs ws _ _ h (block_stays us vs ws)
of_stays begin.Letter us vs ws s h = ap (one kind.Word) (run_within is_word us vs ws h)
of_stays begin.Digit us vs ws s h = number_same us vs ws
of_stays begin.Double us vs ws s h = closed_stays kind.Name (list_all is_printable) us vs ws _ _ h (quote_stays 34 us vs ws)
of_stays begin.Single us vs ws s h = closed_stays kind.Text is_utf8 us vs ws _ _ h (quote_stays 39 us vs ws)
of_stays begin.Other us vs ws s h =
    ap (λ a. sign a (get_or (us ++ 59 ∷ ws) 1 0)) (byte_same 0 us vs ws (omega arith))
    ∙ ap (λ b. sign (get_or (us ++ 59 ∷ vs) 0 0) b) (byte_same 1 us vs ws (omega arith))

pub piece_stays : (us vs ws : List ℕ) → 0 < length us → (piece (us ++ 59 ∷ vs)).len ≤ length us
    → piece (us ++ 59 ∷ ws) ≡ piece (us ++ 59 ∷ vs)
unfolding piece
piece_stays us vs ws s h =
    let a = byte_same 0 us vs ws (omega arith) in
    let b = byte_same 1 us vs ws (omega arith) in
    ap (λ x. piece_of (opens x (get_or (us ++ 59 ∷ ws) 1 0)) (us ++ 59 ∷ ws)) a
    ∙ ap (λ x. piece_of (opens (get_or (us ++ 59 ∷ vs) 0 0) x) (us ++ 59 ∷ ws)) b
    ∙ of_stays (opens (get_or (us ++ 59 ∷ vs) 0 0) (get_or (us ++ 59 ∷ vs) 1 0)) us vs ws s h
