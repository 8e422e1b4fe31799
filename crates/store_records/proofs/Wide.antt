-- Numbers and their bytes, of 2, 4, 8 and 16 bytes.
use Rattle.std.proofs.Common.{inl, inr, ◌≡◌, ℕ, zero, suc, ◌+◌, ◌-◌, ◌*◌, ◌/◌, ◌%◌, ◌^◌, ◌<◌, ◌≤◌, List, [], ◌∷◌, ◌++◌, length, get_or, take, drop, refl, sym, ap, subst, ◌∙◌, arith}
use Rattle.std.specs.Int.{cast_signed, int_wrap, Width, w16, w32, w64, w128, byte_len, from_be_bytes, to_be_bytes, bytes_high_first}
use Rattle.std.proofs.lemmas.Nat.{be_bytes_2, be_bytes_4, be_bytes_8, from_be_bytes-to_be_bytes_2, from_be_bytes-to_be_bytes_4, from_be_bytes-to_be_bytes_8}
use Rattle.std.proofs.lemmas.List.{get_or_past, get_or-drop, get_or-take, take-append-drop, length-take, length-drop}
use Rattle.std.proofs.lemmas.Bool.{cases_lt}
use Rattle.std.proofs.lemmas.Int.{SFits-int_wrap}
use native.Mathlib.Nat.{mod-eq_of_lt}
use lib.IntN.{ℤ, pos, negsuc}
use lib.Signed.{mag}

abbrev pub IsBytes : List ℕ → Type 0
IsBytes bytes = (i : ℕ) → get_or bytes i 0 < 256

-- a number's bytes, and back
pub record IsWide (w : Width) (k : ℕ) : Type 0 where
  pub len : (n : ℕ) → length (to_be_bytes w n) ≡ byte_len w
  pub back : (bytes : List ℕ) → length bytes ≡ byte_len w → IsBytes bytes → to_be_bytes w (from_be_bytes w bytes) ≡ bytes
  pub again : (n : ℕ) → n < 2 ^ k → from_be_bytes w (to_be_bytes w n) ≡ n
  pub below : (bytes : List ℕ) → IsBytes bytes → from_be_bytes w bytes < 2 ^ k

pub wide16 : IsWide w16 16
wide16 = record {
  len = λ n. refl;
  back = λ bytes len fits. be_bytes_2 bytes _ len fits refl;
  again = λ n lt. from_be_bytes-to_be_bytes_2 n lt;
  below = λ bytes fits. omega (arith, fits 0, fits 1);
}

pub wide32 : IsWide w32 32
wide32 = record {
  len = λ n. refl;
  back = λ bytes len fits. be_bytes_4 bytes _ len fits refl;
  again = λ n lt. from_be_bytes-to_be_bytes_4 n lt;
  below = λ bytes fits. omega (arith, fits 0, fits 1, fits 2, fits 3);
}

pub wide64 : IsWide w64 64
wide64 = record {
  len = λ n. refl;
  back = λ bytes len fits. be_bytes_8 bytes _ len fits refl;
  again = λ n lt. from_be_bytes-to_be_bytes_8 n lt;
  below = λ bytes fits. omega (arith, fits 0, fits 1, fits 2, fits 3, fits 4, fits 5, fits 6, fits 7);
}

-- 16 bytes are twice 8
two_halves : (h l : ℕ) → l < 2 ^ 64 → to_be_bytes w128 (h * 2 ^ 64 + l) ≡ to_be_bytes w64 h ++ to_be_bytes w64 l
two_halves h l lt = λ i. high_7 i ∷ high_6 i ∷ high_5 i ∷ high_4 i ∷ high_3 i ∷ high_2 i ∷ high_1 i ∷ high_0 i ∷ low_7 i ∷ low_6 i ∷ low_5 i ∷ low_4 i ∷ low_3 i ∷ low_2 i ∷ low_1 i ∷ low_0 i ∷ []
  where
    n : ℕ
    n = h * 2 ^ 64 + l

    low_0 : n % 256 ≡ l % 256
    low_0 = omega arith

    low_1 : n / 256 ^ 1 % 256 ≡ l / 256 ^ 1 % 256
    low_1 = omega arith

    low_2 : n / 256 ^ 2 % 256 ≡ l / 256 ^ 2 % 256
    low_2 = omega arith

    low_3 : n / 256 ^ 3 % 256 ≡ l / 256 ^ 3 % 256
    low_3 = omega arith

    low_4 : n / 256 ^ 4 % 256 ≡ l / 256 ^ 4 % 256
    low_4 = omega arith

    low_5 : n / 256 ^ 5 % 256 ≡ l / 256 ^ 5 % 256
    low_5 = omega arith

    low_6 : n / 256 ^ 6 % 256 ≡ l / 256 ^ 6 % 256
    low_6 = omega arith

    low_7 : n / 256 ^ 7 % 256 ≡ l / 256 ^ 7 % 256
    low_7 = omega arith

    high_0 : n / 256 ^ 8 % 256 ≡ h % 256
    high_0 = omega arith

    high_1 : n / 256 ^ 9 % 256 ≡ h / 256 ^ 1 % 256
    high_1 = omega arith

    high_2 : n / 256 ^ 10 % 256 ≡ h / 256 ^ 2 % 256
    high_2 = omega arith

    high_3 : n / 256 ^ 11 % 256 ≡ h / 256 ^ 3 % 256
    high_3 = omega arith

    high_4 : n / 256 ^ 12 % 256 ≡ h / 256 ^ 4 % 256
    high_4 = omega arith

    high_5 : n / 256 ^ 13 % 256 ≡ h / 256 ^ 5 % 256
    high_5 = omega arith

    high_6 : n / 256 ^ 14 % 256 ≡ h / 256 ^ 6 % 256
    high_6 = omega arith

    high_7 : n / 256 ^ 15 % 256 ≡ h / 256 ^ 7 % 256
    high_7 = omega arith

halves_of : (n : ℕ) → n ≡ n / 2 ^ 64 * 2 ^ 64 + n % 2 ^ 64
halves_of n = omega arith

from_halves : (a b : List ℕ) → length a ≡ 8 → length b ≡ 8 → from_be_bytes w128 (a ++ b) ≡ from_be_bytes w64 a * 2 ^ 64 + from_be_bytes w64 b
from_halves a b la lb = ap (λ (x : List ℕ). from_be_bytes w128 (x ++ b)) (sym (written_8 a la)) ∙ ap (λ (x : List ℕ). from_be_bytes w128 (firsts a ++ x)) (sym (written_8 b lb)) ∙ omega arith
  where
    firsts : List ℕ → List ℕ
    firsts a = get_or a 0 0 ∷ get_or a 1 0 ∷ get_or a 2 0 ∷ get_or a 3 0 ∷ get_or a 4 0 ∷ get_or a 5 0 ∷ get_or a 6 0 ∷ get_or a 7 0 ∷ []

    written_8 : (bs : List ℕ) → length bs ≡ 8 → firsts bs ≡ bs
    written_8 [] l = absurd (omega arith)
    written_8 (a ∷ []) l = absurd (omega arith)
    written_8 (a ∷ b ∷ []) l = absurd (omega arith)
    written_8 (a ∷ b ∷ c ∷ []) l = absurd (omega arith)
    written_8 (a ∷ b ∷ c ∷ d ∷ []) l = absurd (omega arith)
    written_8 (a ∷ b ∷ c ∷ d ∷ e ∷ []) l = absurd (omega arith)
    written_8 (a ∷ b ∷ c ∷ d ∷ e ∷ f ∷ []) l = absurd (omega arith)
    written_8 (a ∷ b ∷ c ∷ d ∷ e ∷ f ∷ g ∷ []) l = absurd (omega arith)
    written_8 (a ∷ b ∷ c ∷ d ∷ e ∷ f ∷ g ∷ h ∷ []) l = refl
    written_8 (a ∷ b ∷ c ∷ d ∷ e ∷ f ∷ g ∷ h ∷ x ∷ bs) l = absurd (omega arith)

pub IsBytes-drop : (n : ℕ) (bytes : List ℕ) → IsBytes bytes → IsBytes (drop n bytes)
IsBytes-drop n bytes h i = rw get_or-drop (h (n + i))

pub IsBytes-take : (n : ℕ) (bytes : List ℕ) → IsBytes bytes → IsBytes (take n bytes)
IsBytes-take n bytes h i =
    elim (cases_lt i n) [
      | inl lt ↦ rw (get_or-take n bytes i 0 lt) (h i)
      | inr le ↦ rw (get_or_past (take n bytes) i 0 (omega (arith, length-take n bytes))) (omega arith)
    ]

again_16 : (n : ℕ) → n < 2 ^ 128 → from_be_bytes w128 (to_be_bytes w128 n) ≡ n
again_16 n lt =
    let h = n / 2 ^ 64 in
    let l = n % 2 ^ 64 in
    let small : l < 2 ^ 64 = omega arith in
    ap (λ (m : ℕ). from_be_bytes w128 (to_be_bytes w128 m)) (halves_of n)
    ∙ ap (from_be_bytes w128) (two_halves h l small)
    ∙ from_halves (to_be_bytes w64 h) (to_be_bytes w64 l) refl refl
    ∙ ap (λ (m : ℕ). m * 2 ^ 64 + from_be_bytes w64 (to_be_bytes w64 l)) (from_be_bytes-to_be_bytes_8 h (omega arith))
    ∙ ap (λ (m : ℕ). h * 2 ^ 64 + m) (from_be_bytes-to_be_bytes_8 l small)
    ∙ sym (halves_of n)

back_16 : (bytes : List ℕ) → length bytes ≡ 16 → IsBytes bytes → to_be_bytes w128 (from_be_bytes w128 bytes) ≡ bytes
back_16 bytes len fits =
    let a = take 8 bytes in
    let b = drop 8 bytes in
    let la : length a ≡ 8 = omega (arith, length-take 8 bytes) in
    let lb : length b ≡ 8 = omega (arith, length-drop 8 bytes) in
    let fa = IsBytes-take 8 bytes fits in
    let fb = IsBytes-drop 8 bytes fits in
    let split = take-append-drop 8 bytes in
    ap (λ (x : List ℕ). to_be_bytes w128 (from_be_bytes w128 x)) (sym split)
    ∙ ap (to_be_bytes w128) (from_halves a b la lb)
    ∙ two_halves (from_be_bytes w64 a) (from_be_bytes w64 b) (wide64.below b fb)
    ∙ ap (λ (x : List ℕ). x ++ to_be_bytes w64 (from_be_bytes w64 b)) (be_bytes_8 a _ la fa refl)
    ∙ ap (λ (x : List ℕ). a ++ x) (be_bytes_8 b _ lb fb refl)
    ∙ split

pub wide128 : IsWide w128 128
wide128 = record {
  len = λ n. refl;
  back = back_16;
  again = again_16;
  below = λ bytes fits. omega (arith, fits 0, fits 1, fits 2, fits 3, fits 4, fits 5, fits 6, fits 7, fits 8, fits 9, fits 10, fits 11, fits 12, fits 13, fits 14, fits 15);
}

signed_is : (n : ℕ) → n < 2 ^ 128 → int_wrap w128 (pos n) ≡ cast_signed w128 n
unfolding int_wrap
signed_is n lt = ap (cast_signed w128) (mod-eq_of_lt lt)

-- the number of such bits is of 128 signed bits
pub signed_short : (n : ℕ) → n < 2 ^ 128 → mag (cast_signed w128 n) < 2 ^ 127
signed_short n lt = subst (λ z. mag z < 2 ^ 127) (signed_is n lt) (SFits-int_wrap w128 (pos n)).sfits
