-- What is read as a number or as a text is what the bytes say.
use Rattle.std.proofs.Common.{◌≡◌, ◌∙◌, ◌<◌, ◌^◌, ◌==◌, ◌&&◌, cond, if◌then◌else◌, nat_lt, ℕ, Bool, true, false, ℤ, pos, negsuc, List, [], ◌∷◌, Some, None, Result, Ok, Err, length, drop, refl, sym, ap, arith}
use Rattle.std.proofs.lemmas.Bool.{and_parts, and_from}
use Rattle.std.proofs.lemmas.Bool.Decides.{nat_tests}
use Rattle.std.proofs.lemmas.Str.{IsUtf8-from_ascii, IsUtf8-from_is_utf8, is_utf8-from_IsUtf8}
use Rattle.std.proofs.lemmas.Str.Ascii.{IsAscii-nil, IsAscii-cons}
use Rattle.std.proofs.lemmas.Str.Parse.{IsNumeralModel, numerals_by_value, tells_all_ascii_digits}
use Rattle.std.specs.Char.{is_ascii_digit}
use Rattle.std.specs.Int.{w128}
use Rattle.std.specs.Result.{result_ok}
use Rattle.std.specs.Str.{IsAscii, IsUtf8, is_utf8, all_ascii_digits}
use Rattle.std.specs.Str.Parse.{IsNumeral, ParsesSigned, digits_value, without_leading_sign, signed_digits_value}
use Rattle.std.specs.Prelude.{FitsSigned}
use Rattle.vdb_base.specs.declared.value.Ty.TheVariants as ty
use Rattle.vdb_base.specs.declared.value.Value.TheVariants.{Str}
use Rattle.csv_folder.specs.Cells.{is_numeral, within_128_bits, number_of, said}

own : IsNumeralModel (λ ds. all_ascii_digits ds ≡ true) (digits_value 10)
own = numerals_by_value (λ ds. all_ascii_digits ds ≡ true) tells_all_ascii_digits

some_digits : (ds : List ℕ) → (nat_lt 0 (length ds) && all_ascii_digits ds) ≡ true → IsNumeral 10 ds
some_digits ds h =
    let parts = and_parts (nat_lt 0 (length ds)) (all_ascii_digits ds) h in
    let long : 0 < length ds = grind (arith, nat_tests) in
    (long, own.to ds parts.1)

as_digits : (ds : List ℕ) → IsNumeral 10 ds → (nat_lt 0 (length ds) && all_ascii_digits ds) ≡ true
as_digits ds h =
    let long : nat_lt 0 (length ds) ≡ true = grind (arith, nat_tests) in
    and_from (nat_lt 0 (length ds)) (all_ascii_digits ds) long (own.from ds h.1)

fits : (n : ℤ) → within_128_bits n ≡ true → FitsSigned w128 n
fits (pos n) h = let less : n < 2 ^ 127 = grind (arith, nat_tests) in record { sfits = less }
fits (negsuc n) h = let less : n < 2 ^ 127 = grind (arith, nat_tests) in record { sfits = less }

as_within : (n : ℤ) → FitsSigned w128 n → within_128_bits n ≡ true
as_within (pos n) f = let less : n < 2 ^ 127 = f.sfits in grind (arith, nat_tests)
as_within (negsuc n) f = let less : n < 2 ^ 127 = f.sfits in grind (arith, nat_tests)

-- a number that was read
pub number_read : (E : Type 0) (text : List ℕ) (n : ℤ) → ParsesSigned {E = E} w128 10 text (Ok n) → number_of text ≡ Some n
number_read E text n ((numeral, fit), is) =
    let v = signed_digits_value 10 text in
    let good = and_from (is_numeral text) (within_128_bits v) (as_digits (without_leading_sign text) numeral) (as_within v fit) in
    ap (λ b. if b then Some v else None) good ∙ ap Some (sym is)

-- or none
pub no_number : {E : Type 0} (text : List ℕ) (e : E) → ParsesSigned w128 10 text (Err e) → number_of text ≡ None
no_number text e refused = here (is_numeral text && within_128_bits v) refl
  where
    v : ℤ
    v = signed_digits_value 10 text

    here : (b : Bool) → (is_numeral text && within_128_bits v) ≡ b → (if b then Some v else None) ≡ None
    here false e = refl
    here true e =
        let parts = and_parts (is_numeral text) (within_128_bits v) e in
        absurd (refused (some_digits (without_leading_sign text) parts.0, fits v parts.1))

digits_ascii : (ds : List ℕ) → all_ascii_digits ds ≡ true → IsAscii ds
digits_ascii [] h = IsAscii-nil
digits_ascii (c ∷ cs) h =
    let parts = and_parts (is_ascii_digit c) (all_ascii_digits cs) h in
    let first = parts.0 in
    let small : c < 128 = grind (arith, nat_tests) in
    IsAscii-cons c cs small (digits_ascii cs parts.1)

numeral_ascii : (text : List ℕ) → all_ascii_digits (without_leading_sign text) ≡ true → IsAscii text
numeral_ascii [] h = IsAscii-nil
numeral_ascii (b ∷ bs) h = here (b == 45) (b == 43) refl refl h
  where
    here : (m p : Bool) → (b == 45) ≡ m → (b == 43) ≡ p → all_ascii_digits (cond m (drop 1 (b ∷ bs)) (drop (cond p 1 0) (b ∷ bs))) ≡ true → IsAscii (b ∷ bs)
    here true p e f k = let small : b < 128 = grind (arith, nat_tests) in IsAscii-cons b bs small (digits_ascii bs k)
    here false true e f k = let small : b < 128 = grind (arith, nat_tests) in IsAscii-cons b bs small (digits_ascii bs k)
    here false false e f k = digits_ascii (b ∷ bs) k

-- bytes that are no text say no number
pub no_text : (text : List ℕ) → ¬ (IsUtf8 text) → number_of text ≡ None
no_text text refused = here (is_numeral text) refl
  where
    v : ℤ
    v = signed_digits_value 10 text

    here : (b : Bool) → is_numeral text ≡ b → (if b && within_128_bits v then Some v else None) ≡ None
    here false e = refl
    here true e = absurd (refused (IsUtf8-from_ascii text (numeral_ascii text (and_parts (nat_lt 0 (length (without_leading_sign text))) (all_ascii_digits (without_leading_sign text)) e).1)))

-- whether bytes are text
pub is_text : (bytes : List ℕ) → IsUtf8 bytes → is_utf8 bytes ≡ true
is_text bytes h = is_utf8-from_IsUtf8 bytes h

pub is_no_text : (bytes : List ℕ) → ¬ (IsUtf8 bytes) → is_utf8 bytes ≡ false
is_no_text bytes h = here (is_utf8 bytes) refl
  where
    here : (b : Bool) → is_utf8 bytes ≡ b → b ≡ false
    here false e = refl
    here true e = absurd (h (IsUtf8-from_is_utf8 bytes e))

-- what is read as a number is what the text says
pub parsed : {E : Type 0} (text : List ℕ) (r : Result ℤ E) → ParsesSigned w128 10 text r → result_ok r ≡ number_of text
parsed {E} text (Ok n) h = sym (number_read E text n h)
parsed {E} text (Err e) h = sym (no_number text e h)

-- what is read as a text
pub text_said : (made text bytes : List ℕ) → made ≡ text → text ≡ bytes → IsUtf8 bytes → Some (Str made) ≡ said ty.Str bytes
text_said made text bytes e f h = ap (λ t. Some (Str t)) (e ∙ f) ∙ sym (ap (λ b. if b then Some (Str bytes) else None) (is_text bytes h))

pub nothing_said : (bytes : List ℕ) → ¬ (IsUtf8 bytes) → None ≡ said ty.Str bytes
nothing_said bytes h = sym (ap (λ b. if b then Some (Str bytes) else None) (is_no_text bytes h))
