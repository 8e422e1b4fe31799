-- What is spelled is one piece, where a space stands behind it.
use Rattle.std.proofs.Common.{◌≡◌, ◌<◌, ℕ, suc, ◌+◌, Bool, true, false, ◌==◌, ◌&&◌, List, [], ◌∷◌, ◌++◌, Some, length, take, drop, refl, ap, ◌∙◌, arith, length-append, append_assoc, get_or, if◌then◌else◌}
use Rattle.std.specs.List.{prefix_len, list_all}
use Rattle.std.specs.Str.{is_utf8}
use Rattle.std.proofs.lemmas.Bool.Decides.{nat_tests}
use Rattle.sql_tokens.specs.declared.token.Kind.{Kind}
use Rattle.sql_tokens.specs.declared.token.Kind.TheVariants as kind
use Rattle.sql_tokens.specs.declared.pieces.Opening.TheVariants as begin
use Rattle.sql_tokens.specs.Bytes.{is_blank, is_digit, is_letter, is_word, is_printable}
use Rattle.sql_tokens.specs.Laws.{doubled}
use Rattle.sql_tokens.specs.Lengths.{quoted, digits, fraction, exponent}
use Rattle.sql_tokens.specs.Pieces.{piece, piece_of, opens, closed, number, number_of, one}
use Rattle.sql_tokens.proofs.TextParts.{take_front, drop_front}
use Rattle.sql_tokens.proofs.Written.{written_is_read}

both : (a b : Bool) → (a && b) ≡ true → (a ≡ true) × (b ≡ true)
both true b is = (refl, is)
both false b is = absurd (cc is)

-- a run ends at the space
run_ends : (p : ℕ → Bool) (bs rest : List ℕ) → p 32 ≡ false → list_all p bs ≡ true → prefix_len p (bs ++ 32 ∷ rest) ≡ length bs
run_ends p [] rest blank all = rw blank refl
run_ends p (b ∷ bs) rest blank all =
    let c = both (p b) (list_all p bs) all in
    let more : 1 + length bs ≡ suc (length bs) = omega arith in
    rw (c.0, run_ends p bs rest blank c.1) more

-- words

letter_opens : (b c : ℕ) → is_letter b ≡ true → opens b c ≡ begin.Letter
letter_opens b c e =
    let blank : is_blank b ≡ false = grind (arith, nat_tests) in
    let minus : (b == 45) ≡ false = grind (arith, nat_tests) in
    let slash : (b == 47) ≡ false = grind (arith, nat_tests) in
    rw (blank, minus, slash, e) refl

pub word_piece : (b : ℕ) (bs rest : List ℕ) → is_letter b ≡ true → list_all is_word (b ∷ bs) ≡ true
    → piece ((b ∷ bs) ++ 32 ∷ rest) ≡ one kind.Word (length (b ∷ bs))
unfolding piece
word_piece b bs rest e all =
    ap (λ o. piece_of o ((b ∷ bs) ++ 32 ∷ rest)) (letter_opens b (get_or ((b ∷ bs) ++ 32 ∷ rest) 1 0) e)
    ∙ ap (one kind.Word) (run_ends is_word (b ∷ bs) rest refl all)

-- numerals

digit_opens : (b c : ℕ) → is_digit b ≡ true → opens b c ≡ begin.Digit
digit_opens b c e =
    let blank : is_blank b ≡ false = grind (arith, nat_tests) in
    let minus : (b == 45) ≡ false = grind (arith, nat_tests) in
    let slash : (b == 47) ≡ false = grind (arith, nat_tests) in
    let letter : is_letter b ≡ false = grind (arith, nat_tests) in
    rw (blank, minus, slash, letter, e) refl

at_space : (bs rest : List ℕ) → get_or (bs ++ 32 ∷ rest) (length bs) 0 ≡ 32
at_space [] rest = refl
at_space (b ∷ bs) rest = at_space bs rest

number_piece : (bs rest : List ℕ) → list_all is_digit bs ≡ true → number (bs ++ 32 ∷ rest) ≡ one kind.Numeral (length bs)
number_piece bs rest all =
    let n : digits (bs ++ 32 ∷ rest) ≡ length bs = run_ends is_digit bs rest refl all in
    let behind : drop (length bs) (bs ++ 32 ∷ rest) ≡ 32 ∷ rest = drop_front bs (32 ∷ rest) in
    let same : length bs + 0 ≡ length bs = omega arith in
    ap (λ m. number_of m (fraction (drop m (bs ++ 32 ∷ rest))) (exponent (drop (m + fraction (drop m (bs ++ 32 ∷ rest))) (bs ++ 32 ∷ rest))) (get_or (bs ++ 32 ∷ rest) m 0)) n
    ∙ ap (λ x. number_of (length bs) (fraction x) (exponent (drop (length bs + fraction x) (bs ++ 32 ∷ rest))) (get_or (bs ++ 32 ∷ rest) (length bs) 0)) behind
    ∙ ap (λ m. number_of (length bs) 0 (exponent (drop m (bs ++ 32 ∷ rest))) (get_or (bs ++ 32 ∷ rest) (length bs) 0)) same
    ∙ ap (λ x. number_of (length bs) 0 (exponent x) (get_or (bs ++ 32 ∷ rest) (length bs) 0)) behind
    ∙ ap (number_of (length bs) 0 0) (at_space bs rest)

pub numeral_piece : (bs rest : List ℕ) → 0 < length bs → list_all is_digit bs ≡ true → piece (bs ++ 32 ∷ rest) ≡ one kind.Numeral (length bs)
unfolding piece
numeral_piece [] rest some all = absurd (omega arith)
numeral_piece (b ∷ bs) rest some all =
    let c = both (is_digit b) (list_all is_digit bs) all in
    ap (λ o. piece_of o ((b ∷ bs) ++ 32 ∷ rest)) (digit_opens b (get_or ((b ∷ bs) ++ 32 ∷ rest) 1 0) c.0)
    ∙ number_piece (b ∷ bs) rest all

-- quotations

abbrev pub quotation : ℕ → List ℕ → List ℕ
quotation q body = q ∷ (doubled q body ++ q ∷ [])

closed_piece : (q : ℕ) (k : Kind) (good : List ℕ → Bool) (body rest : List ℕ) → (32 == q) ≡ false → good (quotation q body) ≡ true
    → closed k good (quotation q body ++ 32 ∷ rest) (quoted q false ((doubled q body ++ q ∷ []) ++ 32 ∷ rest)) ≡ one k (length (quotation q body))
closed_piece q k good body rest other is =
    let joined : (doubled q body ++ q ∷ []) ++ 32 ∷ rest ≡ doubled q body ++ q ∷ 32 ∷ rest = append_assoc (doubled q body) (q ∷ []) (32 ∷ rest) in
    let far : quoted q false ((doubled q body ++ q ∷ []) ++ 32 ∷ rest) ≡ Some (length (doubled q body) + 1) =
    ap (quoted q false) joined ∙ (written_is_read q body (32 ∷ rest) other).0 in
    let size : 1 + (length (doubled q body) + 1) ≡ length (quotation q body) = omega (arith, length-append (doubled q body) (q ∷ [])) in
    let front : take (length (quotation q body)) (quotation q body ++ 32 ∷ rest) ≡ quotation q body = take_front (quotation q body) (32 ∷ rest) in
    ap (closed k good (quotation q body ++ 32 ∷ rest)) far
    ∙ ap (λ n. one (if good (take n (quotation q body ++ 32 ∷ rest)) then k else kind.Bad) n) size
    ∙ ap (λ x. one (if good x then k else kind.Bad) (length (quotation q body))) front
    ∙ ap (λ c. one (if c then k else kind.Bad) (length (quotation q body))) is

pub name_piece : (body rest : List ℕ) → list_all is_printable (quotation 34 body) ≡ true
    → piece (quotation 34 body ++ 32 ∷ rest) ≡ one kind.Name (length (quotation 34 body))
unfolding piece
name_piece body rest is = closed_piece 34 kind.Name (list_all is_printable) body rest refl is

pub string_piece : (body rest : List ℕ) → is_utf8 (quotation 39 body) ≡ true
    → piece (quotation 39 body ++ 32 ∷ rest) ≡ one kind.Text (length (quotation 39 body))
unfolding piece
string_piece body rest is = closed_piece 39 kind.Text is_utf8 body rest refl is

-- a fraction
pub fraction_piece : (rest : List ℕ) → piece (48 ∷ 46 ∷ 53 ∷ 32 ∷ rest) ≡ one kind.Fraction 3
unfolding piece
fraction_piece rest = refl

-- signs
abbrev pub IsSign : Kind → List ℕ → Type 0
IsSign k sign = (rest : List ℕ) → piece (sign ++ 32 ∷ rest) ≡ one k (length sign)

pub open_sign : IsSign kind.Open (40 ∷ [])
unfolding piece
open_sign rest = refl

pub close_sign : IsSign kind.Close (41 ∷ [])
unfolding piece
close_sign rest = refl

pub comma_sign : IsSign kind.Comma (44 ∷ [])
unfolding piece
comma_sign rest = refl

pub dot_sign : IsSign kind.Dot (46 ∷ [])
unfolding piece
dot_sign rest = refl

pub semicolon_sign : IsSign kind.Semicolon (59 ∷ [])
unfolding piece
semicolon_sign rest = refl

pub equal_sign : IsSign kind.Equal (61 ∷ [])
unfolding piece
equal_sign rest = refl

pub not_equal_sign : IsSign kind.NotEqual (60 ∷ 62 ∷ [])
unfolding piece
not_equal_sign rest = refl

pub less_sign : IsSign kind.Less (60 ∷ [])
unfolding piece
less_sign rest = refl

pub at_most_sign : IsSign kind.AtMost (60 ∷ 61 ∷ [])
unfolding piece
at_most_sign rest = refl

pub greater_sign : IsSign kind.Greater (62 ∷ [])
unfolding piece
greater_sign rest = refl

pub at_least_sign : IsSign kind.AtLeast (62 ∷ 61 ∷ [])
unfolding piece
at_least_sign rest = refl

pub plus_sign : IsSign kind.Plus (43 ∷ [])
unfolding piece
plus_sign rest = refl

pub minus_sign : IsSign kind.Minus (45 ∷ [])
unfolding piece
minus_sign rest = refl

pub times_sign : IsSign kind.Times (42 ∷ [])
unfolding piece
times_sign rest = refl

pub join_sign : IsSign kind.Join (124 ∷ 124 ∷ [])
unfolding piece
join_sign rest = refl
