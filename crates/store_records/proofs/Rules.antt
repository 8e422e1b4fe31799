-- Tests that hold, for the goals of writing and reading.
use Rattle.std.proofs.Common.{◌≡◌, ℕ, ◌^◌, ◌<◌, ◌≤◌, Bool, true, false, ltb, List, [], ◌∷◌, ◌++◌, length, take, drop, Option, Some, None, refl, sym, ap, ◌∙◌, append_assoc}
use Rattle.std.specs.Prelude.{ℤ, pos, negsuc}
use Rattle.std.specs.Int.{Width, w128, to_be_bytes, cast_unsigned}
use Rattle.std.specs.Int.RustNames.{FitsSigned}
use Rattle.std.specs.Str.{IsUtf8, is_utf8}
pub use Rattle.std.proofs.lemmas.Bool.{and_from, lt-ltb}
use Rattle.std.proofs.lemmas.Bool.{le-ltb}
use Rattle.std.proofs.lemmas.Str.{IsUtf8-from_is_utf8, is_utf8-from_IsUtf8}
use Rattle.vdb_base.specs.declared.value.Value.TheVariants.{Num}
use Rattle.vdb_model.specs.Number.{extent}
use Rattle.store_records.specs.Fields.{is_text, lettered, letters_at}
use Rattle.store_records.specs.Payloads.{value_bytes, has_value}
use Rattle.store_records.specs.Writing.{Writes}

pub utf8_yes : (bs : List ℕ) → IsUtf8 bs → is_utf8 bs ≡ true
utf8_yes bs h = is_utf8-from_IsUtf8 bs h

not_true : (b : Bool) → (b ≡ true → ⊥) → b ≡ false
not_true true h = absurd (h refl)
not_true false h = refl

pub utf8_no : (bs : List ℕ) → (IsUtf8 bs → ⊥) → is_utf8 bs ≡ false
utf8_no bs h = not_true (is_utf8 bs) (λ e. h (IsUtf8-from_is_utf8 bs e))

pub number_has : (n : ℤ) → FitsSigned w128 n → ltb (extent n) (2 ^ 127) ≡ true
number_has (pos n) h = lt-ltb n (2 ^ 127) h.sfits
number_has (negsuc n) h = lt-ltb n (2 ^ 127) h.sfits

-- a text that was written behind its length
pub text_written : (w : Width) (k : ℕ) (text old between new : List ℕ) → Writes (ltb (length text) (2 ^ k)) (to_be_bytes w (length text)) old between → new ≡ between ++ text → IsUtf8 text → Writes (is_text k text) (lettered w text) old new
text_written w k text old between new first is utf8 = record {
  fits = and_from (ltb (length text) (2 ^ k)) (is_utf8 text) first.fits (utf8_yes text utf8);
  added = is ∙ ap (λ (bytes : List ℕ). bytes ++ text) first.added ∙ append_assoc old (to_be_bytes w (length text)) text;
}

-- a number that was written behind its kind
pub number_written : (n : ℤ) (old between bytes new : List ℕ) → FitsSigned w128 n → between ≡ old ++ 3 ∷ [] → bytes ≡ to_be_bytes w128 (cast_unsigned w128 n) → new ≡ between ++ bytes → Writes (has_value (Num n)) (value_bytes (Num n)) old new
number_written n old between bytes new fits first is second = record {
  fits = number_has n fits;
  added = second ∙ ap (λ (b : List ℕ). b ++ bytes) first ∙ append_assoc old (3 ∷ []) bytes ∙ ap (λ (b : List ℕ). old ++ 3 ∷ b) is;
}

pub ruleset writing_rules = (utf8_yes, number_has, and_from, lt-ltb, text_written)

-- so many bytes in front that are a text, and what stands against it
pub letters_are : (len : ℕ) (bytes front rest : List ℕ) → len ≤ length bytes → front ≡ take len bytes → rest ≡ drop len bytes → IsUtf8 front → letters_at len bytes ≡ Some (front, rest)
unfolding letters_at
letters_are len bytes front rest long front-is rest-is utf8 =
    let tested : is_utf8 (take len bytes) ≡ true = ap is_utf8 (sym front-is) ∙ utf8_yes front utf8 in
    rw (le-ltb (length bytes) len long, tested, ← front-is, ← rest-is) refl

pub letters_short : (len : ℕ) (bytes : List ℕ) → length bytes < len → letters_at len bytes ≡ None
unfolding letters_at
letters_short len bytes short = rw (lt-ltb (length bytes) len short) refl

pub letters_broken : (len : ℕ) (bytes front : List ℕ) → len ≤ length bytes → front ≡ take len bytes → (IsUtf8 front → ⊥) → letters_at len bytes ≡ None
unfolding letters_at
letters_broken len bytes front long front-is broken =
    let tested : is_utf8 (take len bytes) ≡ false = ap is_utf8 (sym front-is) ∙ utf8_no front broken in
    rw (le-ltb (length bytes) len long, tested) refl

pub ruleset reading_rules = (letters_are, letters_short, letters_broken)
