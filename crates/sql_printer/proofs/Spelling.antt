-- What is spelled is read as it was said: words, numbers and quotations.
use Rattle.std.proofs.Common.{◌≡◌, ◌⊎◌, inl, inr, ◌<◌, ◌≤◌, ℕ, zero, suc, ◌+◌, ◌-◌, ◌*◌, ◌^◌, Bool, true, false, not, ◌==◌, ◌&&◌, ◌||◌, List, [], ◌∷◌, ◌++◌, None, Some, Option, length, take, drop, refl, sym, ap, ◌∙◌, subst, arith, length-append, get_or, if◌then◌else◌, eqb-true, nat_le, nat_lt}
use Rattle.std.specs.Fmt.{decimal}
use Rattle.std.specs.List.{list_all}
use Rattle.std.specs.Str.{is_utf8}
use Rattle.std.proofs.lemmas.Bool.Decides.{nat_tests}
use Rattle.std.proofs.lemmas.Fmt.{decimal_is_IsNumeral_wide}
use Rattle.std.proofs.lemmas.Str.Parse.{IsDigitsTest, FoldsDigits, IsNumeralModel, numerals_by_fold}
use Rattle.vdb_base.specs.Print as print
use Rattle.sql_tokens.specs.Bytes.{is_digit, is_letter, is_word, is_printable}
use Rattle.sql_tokens.specs.Laws.{doubled}
use Rattle.sql_tokens.specs.Lengths.{further}
use Rattle.sql_tokens.specs.Values as value
use Rattle.sql_tokens.specs.Values.{fold, folded}
use Rattle.sql_tokens.specs.Words.{is_same, place_of}
use Rattle.sql_tokens.proofs.Alone.{quotation}

-- tests of booleans

pub both : (a b : Bool) → (a && b) ≡ true → (a ≡ true) × (b ≡ true)
both true b is = (refl, is)
both false b is = absurd (cc is)

pub either : (a b : Bool) → (a || b) ≡ true → (a ≡ true) ⊎ (b ≡ true)
either true b is = inl refl
either false b is = inr is

-- a test of all numbers below one
abbrev pub all_below : ℕ → (ℕ → Bool) → Bool
all_below zero p = true
all_below (suc n) p = p n && all_below n p

pub below : (n i : ℕ) (p : ℕ → Bool) → all_below n p ≡ true → i < n → p i ≡ true
below zero i p all less = absurd (omega arith)
below (suc n) i p all less = at (i == n) refl (below n i p (both (p n) (all_below n p) all).1)
  where
    at : (c : Bool) → (i == n) ≡ c → (i < n → p i ≡ true) → p i ≡ true
    at true e f = subst (λ j. p j ≡ true) (sym (eqb-true i n e)) (both (p n) (all_below n p) all).0
    at false e f =
        let under : i < n = grind (arith, nat_tests) in
        f under

-- words in lower case

fold_twice : (b : ℕ) → fold (fold b) ≡ fold b
fold_twice b = at (nat_le 65 b && nat_le b 90) refl
  where
    at : (c : Bool) → (nat_le 65 b && nat_le b 90) ≡ c → fold (if c then b + 32 else b) ≡ (if c then b + 32 else b)
    at true e =
        let high : nat_le (b + 32) 90 ≡ false = grind (arith, nat_tests) in
        let low : nat_le 65 (b + 32) ≡ true = grind (arith, nat_tests) in
        rw (low, high) refl
    at false e = rw e refl

pub folded_twice : (bs : List ℕ) → folded (folded bs) ≡ folded bs
folded_twice [] = refl
folded_twice (b ∷ bs) = cc (fold_twice b, folded_twice bs)

pub length_folded : (bs : List ℕ) → length (folded bs) ≡ length bs
length_folded [] = refl
length_folded (b ∷ bs) = ap suc (length_folded bs)

pub same_folded : (bs cs : List ℕ) → is_same bs cs ≡ true → folded bs ≡ cs
same_folded [] [] is = refl
same_folded [] (c ∷ cs) is = absurd (cc is)
same_folded (b ∷ bs) [] is = absurd (cc is)
same_folded (b ∷ bs) (c ∷ cs) is =
    let d = both (fold b == c) (is_same bs cs) is in
    cc (eqb-true (fold b) c d.0, same_folded bs cs d.1)

same_by_folded : (bs cs : List ℕ) → is_same (folded bs) cs ≡ is_same bs cs
same_by_folded [] [] = refl
same_by_folded [] (c ∷ cs) = refl
same_by_folded (b ∷ bs) [] = refl
same_by_folded (b ∷ bs) (c ∷ cs) = cc (fold_twice b, same_by_folded bs cs)

-- a word in any case is compared as it is in lower case
pub same_as : (bs low cs : List ℕ) → is_same bs low ≡ true → is_same bs cs ≡ is_same low cs
same_as bs low cs is = sym (same_by_folded bs cs) ∙ ap (λ x. is_same x cs) (same_folded bs low is)

-- the word at the place that is found
pub record IsPlaced (word : List ℕ) (lows : List (List ℕ)) (i : ℕ) : Type 0 where
  pub within : i < length lows
  pub is : is_same word (get_or lows i []) ≡ true

pub placed : (word : List ℕ) (lows : List (List ℕ)) (i : ℕ) → place_of word lows ≡ Some i → IsPlaced word lows i
placed word [] i e = absurd (cc e)
placed word (low ∷ lows) i e = at (is_same word low) refl e (placed word lows)
  where
    behind : (o : Option ℕ) → place_of word lows ≡ o → further 1 o ≡ Some i → ((m : ℕ) → place_of word lows ≡ Some m → IsPlaced word lows m) → IsPlaced word (low ∷ lows) i
    behind None found e f = absurd (cc e)
    behind (Some m) found e f =
        let p = f m found in
        let same : 1 + m ≡ i = cc e in
        let next : i ≡ suc m = omega (arith, same) in
        record { within = omega (arith, next, p.within); is = rw next p.is }

    at : (c : Bool) → is_same word low ≡ c → (if c then Some 0 else further 1 (place_of word lows)) ≡ Some i
        → ((m : ℕ) → place_of word lows ≡ Some m → IsPlaced word lows m) → IsPlaced word (low ∷ lows) i
    at true is e f =
        let first : 0 ≡ i = cc e in
        record { within = omega (arith, first); is = rw (← first) is }
    at false is e f = behind (place_of word lows) refl e f

-- bytes that are printable

pub printable_word : (bs : List ℕ) → list_all is_word bs ≡ true → list_all is_printable bs ≡ true
printable_word [] e = refl
printable_word (b ∷ bs) e =
    let c = both (is_word b) (list_all is_word bs) e in
    let one : is_printable b ≡ true = at b c.0 in
    rw one (printable_word bs c.1)
  where
    at : (b : ℕ) → is_word b ≡ true → is_printable b ≡ true
    at b e = grind (arith, nat_tests)

fold_printable : (b : ℕ) → is_printable b ≡ true → is_printable (fold b) ≡ true
fold_printable b e = at (nat_le 65 b && nat_le b 90) refl
  where
    at : (c : Bool) → (nat_le 65 b && nat_le b 90) ≡ c → is_printable (if c then b + 32 else b) ≡ true
    at true is = grind (arith, nat_tests)
    at false is = e

pub printable_folded : (bs : List ℕ) → list_all is_printable bs ≡ true → list_all is_printable (folded bs) ≡ true
printable_folded [] e = refl
printable_folded (b ∷ bs) e =
    let c = both (is_printable b) (list_all is_printable bs) e in
    rw (fold_printable b c.0) (printable_folded bs c.1)

printable_doubled : (q : ℕ) (bs rest : List ℕ) → is_printable q ≡ true → list_all is_printable bs ≡ true → list_all is_printable rest ≡ true
    → list_all is_printable (doubled q bs ++ rest) ≡ true
printable_doubled q [] rest quote all more = more
printable_doubled q (b ∷ bs) rest quote all more =
    let d = both (is_printable b) (list_all is_printable bs) all in
    at (b == q) d.0 (printable_doubled q bs rest quote d.1 more)
  where
    at : (c : Bool) → is_printable b ≡ true → list_all is_printable (doubled q bs ++ rest) ≡ true
        → list_all is_printable ((if c then q ∷ q ∷ doubled q bs else b ∷ doubled q bs) ++ rest) ≡ true
    at true one f = rw quote f
    at false one f = rw one f

pub printable_quotation : (bs : List ℕ) → list_all is_printable bs ≡ true → list_all is_printable (quotation 34 bs) ≡ true
printable_quotation bs all = printable_doubled 34 bs (34 ∷ []) refl all refl

-- two ways to say that quotes are doubled
pub doubled_same : (q : ℕ) (bs : List ℕ) → print.doubled q bs ≡ doubled q bs
doubled_same q [] = refl
doubled_same q (b ∷ bs) = ap (λ x. if b == q then q ∷ q ∷ x else b ∷ x) (doubled_same q bs)

pub quoted_same : (q : ℕ) (bs : List ℕ) → print.quoted q bs ≡ quotation q bs
quoted_same q bs = ap (λ x. q ∷ (x ++ q ∷ [])) (doubled_same q bs)

-- numbers

abbrev AreDigits : List ℕ → Type 0
AreDigits ds = list_all is_digit ds ≡ true

digits_test : IsDigitsTest AreDigits
digits_test = record {
  empty = refl;
  parts = λ c cs e. let d = both (is_digit c) (list_all is_digit cs) e in (in_range c d.0, d.1);
  more = λ c cs h e. rw (is_in_range c h) e;
}
  where
    in_range : (c : ℕ) → is_digit c ≡ true → (48 ≤ c) × (c ≤ 57)
    in_range c e = (grind (arith, nat_tests), grind (arith, nat_tests))

    is_in_range : (c : ℕ) → (48 ≤ c) × (c ≤ 57) → is_digit c ≡ true
    is_in_range c h = let low = h.0 in let high = h.1 in grind (arith, nat_tests)

folds : FoldsDigits value.decimal
folds = record { empty = λ n. refl; more = λ n c cs h. refl }

numerals : IsNumeralModel AreDigits (value.decimal 0)
numerals = numerals_by_fold AreDigits digits_test value.decimal folds

-- the digits of a number that isn't too long, and its value
pub record IsNumeralOf (n : ℕ) (ds : List ℕ) : Type 0 where
  pub some : 0 < length ds
  pub digits : list_all is_digit ds ≡ true
  pub value : value.decimal 0 ds ≡ n

pub numeral_of : (n : ℕ) → n < 10 ^ 64 → IsNumeralOf n (decimal n)
numeral_of n less =
    let d = decimal_is_IsNumeral_wide n less in
    record { some = d.0.0; digits = numerals.from (decimal n) d.0.1; value = numerals.same (decimal n) d.0.1 ∙ d.1 }
