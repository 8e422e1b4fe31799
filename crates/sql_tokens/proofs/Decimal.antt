-- More digits make no smaller number, so one that is too large stays so.
use Rattle.std.proofs.Common.{inl, inr, ◌≡◌, ◌≤◌, ◌<◌, ℕ, ◌+◌, ◌*◌, ◌-◌, List, [], ◌∷◌, Some, None, arith, refl, sym, length, drop, get_or, ◌∙◌}
use Rattle.std.proofs.lemmas.Bool.{lt-ltb, le-ltb, cases_lt}
use Rattle.std.proofs.lemmas.List.{at_drop_more, at_drop_all}
use Rattle.sql_tokens.specs.Values.{decimal, below}

pub grows : (n : ℕ) (bs : List ℕ) → n ≤ decimal n bs
grows n [] = omega arith
grows n (b ∷ bs) = omega (arith, grows (n * 10 + (b - 48)) bs)

pub below_yes : (m n : ℕ) → n < m → Some n ≡ below m n
below_yes m n h = rw (lt-ltb n m h) refl

pub below_no : (m n : ℕ) → m ≤ n → None ≡ below m n
below_no m n h = rw (le-ltb n m h) refl

-- the next digit, at the two places where a step is refused
pub next : (n : ℕ) (bs : List ℕ) (i : ℕ) → i < length bs → n * 10 + (get_or bs i 0 - 48) ≤ decimal n (drop i bs)
next n bs i h = rw (at_drop_more (decimal n) bs i 0 h) (grows (n * 10 + (get_or bs i 0 - 48)) (drop (i + 1) bs))

pub all_read : (m n : ℕ) (bs : List ℕ) (i : ℕ) → n < m → length bs ≤ i → decimal n (drop i bs) ≡ decimal 0 bs → Some n ≡ below m (decimal 0 bs)
all_read m n bs i h l e = let d : decimal 0 bs ≡ n = sym e ∙ at_drop_all (decimal n) bs i l in rw d (below_yes m n h)

none_means : (m n : ℕ) → below m n ≡ None → m ≤ n
none_means m n e = elim (cases_lt n m) [ inl h ↦ absurd_some n (below_yes m n h ∙ e) | inr h ↦ h ]
  where
    absurd_some : (k : ℕ) → Some k ≡ None → m ≤ n
    absurd_some k e = cc

pub too_wide : (m n : ℕ) (bs : List ℕ) (i : ℕ) → i < length bs → below m (n * 10 + (get_or bs i 0 - 48)) ≡ None → decimal n (drop i bs) ≡ decimal 0 bs → None ≡ below m (decimal 0 bs)
too_wide m n bs i l h e =
    let w : m ≤ n * 10 + (get_or bs i 0 - 48) = none_means m (n * 10 + (get_or bs i 0 - 48)) h in
    below_no m (decimal 0 bs) (omega (arith, next n bs i l, e))
