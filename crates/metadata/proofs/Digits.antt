-- Digits whose value is past the limit: what is past it needn't be kept whole.
use Rattle.std.proofs.Common.{◌≡◌, ◌∙◌, ◌+◌, ◌*◌, ◌-◌, ◌≤◌, ◌<◌, ℕ, List, [], ◌∷◌, None, min, sym, ap, arith, inl, inr, length, drop, get_or, add-one, drop-cons}
use Rattle.std.proofs.lemmas.Bool.Decides.{leb_tells, nat_tests}
use Rattle.sql_tokens.specs.Values.{decimal}
use Rattle.metadata.specs.Options.{in_size}

decimal-grows : (n : ℕ) (bs : List ℕ) → n ≤ decimal n bs
decimal-grows n [] = omega arith
decimal-grows n (b ∷ bs) = let h : n * 10 + (b - 48) ≤ decimal (n * 10 + (b - 48)) bs = decimal-grows (n * 10 + (b - 48)) bs in omega arith

past : (n : ℕ) → 1000 < n → in_size n ≡ None
past n h = grind (arith, nat_tests)

pub capped : (m : ℕ) (bs : List ℕ) → in_size (decimal (min m 1001) bs) ≡ in_size (decimal m bs)
capped m bs = elim (leb_tells m 1001) [
  | inl h ↦ (let e : min m 1001 ≡ m = omega (arith, h.1) in ap (λ (n : ℕ). in_size (decimal n bs)) e)
  | inr h ↦ (let e : min m 1001 ≡ 1001 = omega (arith, h.1) in
      let a : 1001 ≤ decimal 1001 bs = decimal-grows 1001 bs in
      let b : m ≤ decimal m bs = decimal-grows m bs in
      let past_a : in_size (decimal 1001 bs) ≡ None = past (decimal 1001 bs) (omega arith) in
      let past_b : in_size (decimal m bs) ≡ None = past (decimal m bs) (omega (arith, h.1)) in
      ap (λ (n : ℕ). in_size (decimal n bs)) e ∙ past_a ∙ sym past_b)
]

-- a turn over digits
pub turn : (n digit next i : ℕ) (bytes : List ℕ) → i < length bytes → digit ≡ get_or bytes i 0 - 48 → next ≡ min (n * 10 + digit) 1001
    → in_size (decimal next (drop (i + 1) bytes)) ≡ in_size (decimal n (drop i bytes))
turn n digit next i bytes lt d m =
    let cons : drop i bytes ≡ get_or bytes i 0 ∷ drop (i + 1) bytes = rw (add-one, drop-cons bytes i 0) in
    let whole : min (n * 10 + digit) 1001 ≡ min (n * 10 + (get_or bytes i 0 - 48)) 1001 = ap (λ (x : ℕ). min (n * 10 + x) 1001) d in
    ap (λ (x : ℕ). in_size (decimal x (drop (i + 1) bytes))) (m ∙ whole)
    ∙ capped (n * 10 + (get_or bytes i 0 - 48)) (drop (i + 1) bytes)
    ∙ ap (λ (xs : List ℕ). in_size (decimal n xs)) (sym cons)
