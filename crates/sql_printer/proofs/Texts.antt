-- Texts of tokens, put together.
use Rattle.std.proofs.Common.{◌≡◌, ◌<◌, ◌∙◌, ℕ, zero, suc, ◌+◌, Bool, true, false, List, [], ◌∷◌, ◌++◌, map, length, drop, get_or, ap, sym, refl, append_assoc, arith, if◌then◌else◌}
use Rattle.std.specs.Prelude.{codes}
use Rattle.sql_reader.specs.Symbols as symbol
use Rattle.sql_printer.specs.Said.{Said, word}
use Rattle.sql_printer.specs.Spelled.{spell, spelled}
use Rattle.sql_printer.specs.Lists.{all, more, listed, left, itself}

pub spelled_append : (a b : List Said) → spelled (a ++ b) ≡ spelled a ++ spelled b
spelled_append [] b = refl
spelled_append (s ∷ ss) b =
    ap (λ x. spell s ++ 32 ∷ x) (spelled_append ss b) ∙ sym (append_assoc (spell s) (32 ∷ spelled ss) (spelled b))

-- after some text: one part, and then the others
pub step : (o : List ℕ) (a b : List Said) → o ++ spelled (a ++ b) ≡ (o ++ spelled a) ++ spelled b
step o a b = ap (λ x. o ++ x) (spelled_append a b) ∙ sym (append_assoc o (spelled a) (spelled b))

-- lists of what parts say

pub all_same : {A : Type 0} (part : A → List Said) (xs : List A) → all itself (map part xs) ≡ all part xs
all_same part [] = refl
all_same part (x ∷ xs) = ap (λ y. part x ++ y) (all_same part xs)

more_same : {A : Type 0} (part : A → List Said) (xs : List A) → more itself (map part xs) ≡ more part xs
more_same part [] = refl
more_same part (x ∷ xs) = ap (λ y. word symbol.COMMA ++ part x ++ y) (more_same part xs)

pub listed_same : {A : Type 0} (words : List Said) (part : A → List Said) (xs : List A) → listed words itself (map part xs) ≡ listed words part xs
listed_same words part [] = refl
listed_same words part (x ∷ xs) = ap (λ y. words ++ part x ++ y) (more_same part xs)

-- the first part of those that are left, and what stands before it
pub left_part : {A : Type 0} (words : List Said) (part : A → List Said) (first : Bool) (o : List ℕ) (x : A) (xs : List A)
    → o ++ spelled (left words part first (x ∷ xs)) ≡ ((o ++ (if first then spelled words else codes ", ")) ++ spelled (part x)) ++ spelled (more part xs)
left_part words part true o x xs = step o (words ++ part x) (more part xs) ∙ ap (λ y. y ++ spelled (more part xs)) (step o words (part x))
left_part words part false o x xs = step o (word symbol.COMMA ++ part x) (more part xs) ∙ ap (λ y. y ++ spelled (more part xs)) (step o (word symbol.COMMA) (part x))

pub left_none : {A : Type 0} (words : List Said) (part : A → List Said) (first : Bool) → left words part first [] ≡ []
left_none words part true = refl
left_none words part false = refl

pub all_part : {A : Type 0} (part : A → List Said) (o : List ℕ) (x : A) (xs : List A) → o ++ spelled (all part (x ∷ xs)) ≡ (o ++ spelled (part x)) ++ spelled (all part xs)
all_part part o x xs = step o (part x) (all part xs)

-- one turn of a loop over parts

drop_turn : {A : Type 0} (xs : List A) (i : ℕ) (x : A) → i < length xs → x ≡ get_or xs i x → drop i xs ≡ x ∷ drop (i + 1) xs
drop_turn [] i x h e = absurd (omega arith)
drop_turn (y ∷ ys) zero x h e = ap (λ z. z ∷ ys) (sym e)
drop_turn (y ∷ ys) (suc i) x h e = let n : suc i + 1 ≡ suc (i + 1) = omega arith in rw n (drop_turn ys i x (omega arith) e)

pub all_turn : {A : Type 0} (part : A → List Said) (o new initial : List ℕ) (xs : List A) (i : ℕ) (x : A) → i < length xs → x ≡ get_or xs i x
    → new ≡ o ++ spelled (part x) → o ++ spelled (all part (drop i xs)) ≡ initial → new ++ spelled (all part (drop (i + 1) xs)) ≡ initial
all_turn part o new initial xs i x h e p q =
    ap (λ z. z ++ spelled (all part (drop (i + 1) xs))) p ∙ sym (all_part part o x (drop (i + 1) xs)) ∙ ap (λ z. o ++ spelled (all part z)) (sym (drop_turn xs i x h e)) ∙ q

pub left_turn : {A : Type 0} (words : List Said) (part : A → List Said) (first : Bool) (o mid new initial : List ℕ) (xs : List A) (i : ℕ) (x : A) → i < length xs → x ≡ get_or xs i x
    → mid ≡ o ++ (if first then spelled words else codes ", ") → new ≡ mid ++ spelled (part x) → o ++ spelled (left words part first (drop i xs)) ≡ initial
    → new ++ spelled (left words part false (drop (i + 1) xs)) ≡ initial
left_turn words part first o mid new initial xs i x h e p r q =
    ap (λ z. z ++ spelled (more part (drop (i + 1) xs))) (r ∙ ap (λ z. z ++ spelled (part x)) p) ∙
    sym (left_part words part first o x (drop (i + 1) xs)) ∙ ap (λ z. o ++ spelled (left words part first z)) (sym (drop_turn xs i x h e)) ∙ q
