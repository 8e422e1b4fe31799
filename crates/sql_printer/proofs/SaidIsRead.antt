-- What is said is read as tokens that say it.
use Rattle.std.proofs.Common.{◌≡◌, ◌<◌, ℕ, suc, ◌+◌, ◌-◌, Bool, true, List, [], ◌∷◌, ◌++◌, length, take, drop, refl, sym, ap, ◌∙◌, subst, arith, length-append, append_assoc, get_or, Some}
use Rattle.std.specs.List.{All, list_all}
use Rattle.std.specs.Str.{is_utf8}
use Rattle.grammar.specs.Derivation.{Among, here, there}
use Rattle.sql_tokens.specs.declared.token.Kind.{Kind}
use Rattle.sql_tokens.specs.declared.token.Kind.TheVariants as kind
use Rattle.sql_tokens.specs.declared.token.Token.{Token}
use Rattle.sql_tokens.specs.Bytes.{is_word, is_printable}
use Rattle.sql_tokens.specs.Parts.{bytes_of}
use Rattle.sql_tokens.specs.Tokens.{tokens_after, tokens_from}
use Rattle.sql_reader.specs.Kinds.{kind_of}
use Rattle.sql_reader.specs.Source.{Source}
use Rattle.sql_reader.specs.Symbols as symbol
use Rattle.sql_reader.specs.Trees.{source_of}
use Rattle.sql_tokens.proofs.EachToken.{Quoted, plain, tokens_all}
use Rattle.sql_tokens.proofs.Spaces.{token_then}
use Rattle.sql_tokens.proofs.TextParts.{take_front, drop_front}
use Rattle.sql_printer.specs.Said.{Said}
use Rattle.sql_printer.specs.Spelled.{spell, spelled}
use Rattle.sql_printer.proofs.Alike.{said_at, Alike, Spells, fraction_spells, string_spells, numeral_spells, open_spells, close_spells, comma_spells, dot_spells, semicolon_spells, equal_spells, not_equal_spells, less_spells, at_most_spells, greater_spells, at_least_spells, plus_spells, minus_spells, times_spells, join_spells}
use Rattle.sql_printer.proofs.WordsAlike.{word_spells, quoted_spells}
use Rattle.sql_printer.proofs.Saying.{kind, said_of, all_said, Same, AllSame, SaidIsRead}

-- a token that stands somewhere is spelled as one that says the same
abbrev IsSpelled : Kind → List ℕ → Type 0
IsSpelled k b = (kind_of k b ≡ symbol.NOWHERE → ⊥) → Spells k b

other_spells : (k : Kind) (b : List ℕ) → plain (Some k) ≡ true → IsSpelled k b
unfolding plain
other_spells kind.Word b e somewhere = absurd (cc e)
other_spells kind.Name b e somewhere = absurd (cc e)
other_spells kind.Text b e somewhere = absurd (cc e)
other_spells kind.Numeral b e somewhere = numeral_spells b
other_spells kind.Fraction b e somewhere = fraction_spells b
other_spells kind.Open b e somewhere = open_spells b
other_spells kind.Close b e somewhere = close_spells b
other_spells kind.Comma b e somewhere = comma_spells b
other_spells kind.Dot b e somewhere = dot_spells b
other_spells kind.Semicolon b e somewhere = semicolon_spells b
other_spells kind.Equal b e somewhere = equal_spells b
other_spells kind.NotEqual b e somewhere = not_equal_spells b
other_spells kind.Less b e somewhere = less_spells b
other_spells kind.AtMost b e somewhere = at_most_spells b
other_spells kind.Greater b e somewhere = greater_spells b
other_spells kind.AtLeast b e somewhere = at_least_spells b
other_spells kind.Plus b e somewhere = plus_spells b
other_spells kind.Minus b e somewhere = minus_spells b
other_spells kind.Times b e somewhere = times_spells b
other_spells kind.Join b e somewhere = join_spells b
other_spells kind.Bad b e somewhere = absurd (somewhere refl)

all_spelled : (text : List ℕ) → All (λ t. IsSpelled t.kind (bytes_of text t)) (tokens_from 0 text)
all_spelled text = tokens_all IsSpelled word_spells quoted_spells (λ b w e somewhere. string_spells b w e) other_spells text

among : {A : Type 0} (P : A → Type 0) (x : A) (xs : List A) → All P xs → Among x xs → P x
among P x [] all m = elim m [ ]
among P x (y ∷ ys) all here = all 0 x (omega arith)
among P x (y ∷ ys) all (there m) = among P x ys (λ i d less. all (suc i) d (omega (arith, less))) m

-- the token of a text that is spelled behind some bytes
same_token : (s : Source) (t : Token) (out front rest : List ℕ) (place : ℕ) (f : Spells t.kind (bytes_of s.text t))
    → place ≡ length front → out ≡ front ++ (spell (said_of s t) ++ 32 ∷ rest)
    → Same s t (source_of out) (record { kind = f.again; start = place; end = place + length (spell (said_of s t)) })
same_token s t out front rest place f at is =
    let word = spell (said_of s t) in
    let size : place + length word - place ≡ length word = omega arith in
    let behind : drop place out ≡ word ++ 32 ∷ rest = ap (λ n. drop n out) at ∙ ap (drop (length front)) is ∙ drop_front front (word ++ 32 ∷ rest) in
    let bytes : take (place + length word - place) (drop place out) ≡ word = ap (λ n. take n (drop place out)) size ∙ ap (take (length word)) behind ∙ take_front word (32 ∷ rest) in
    let alike : Alike t.kind (bytes_of s.text t) f.again (take (place + length word - place) (drop place out)) = rw bytes f.alike in
    record { is_kind = alike.is_kind; is_name = alike.is_name; is_constant = alike.is_constant; is_whole = alike.is_whole; is_negative = alike.is_negative }

each : (s : Source) (ts : List Token) → ((t : Token) → Among t ts → Spells t.kind (bytes_of s.text t)) → (out front : List ℕ) (place : ℕ)
    → place ≡ length front → out ≡ front ++ spelled (all_said s ts) → AllSame s ts (source_of out) (tokens_after 0 place (spelled (all_said s ts)))
each s [] f out front place at is = tt
each s (t ∷ ts) f out front place at is =
    let word = spell (said_of s t) in
    let rest = spelled (all_said s ts) in
    let g = f t here in
    let next = front ++ (word ++ 32 ∷ []) in
    let joined : (front ++ (word ++ 32 ∷ [])) ++ rest ≡ front ++ (word ++ 32 ∷ rest) = append_assoc front (word ++ 32 ∷ []) rest ∙ ap (λ x. front ++ x) (append_assoc word (32 ∷ []) rest) in
    let long : place + length word + 1 ≡ length (front ++ (word ++ 32 ∷ [])) = omega (arith, at, length-append front (word ++ 32 ∷ []), length-append word (32 ∷ [])) in
    subst (AllSame s (t ∷ ts) (source_of out)) (sym (token_then place word rest g.again g.some (g.is_piece rest)))
    (same_token s t out front rest place g at is, each s ts (λ u m. f u (there m)) out next (place + length word + 1) long (is ∙ sym joined))

pub said_is_read : SaidIsRead
said_is_read text ts from somewhere =
    each (source_of text) ts (λ t m. among (λ u. IsSpelled u.kind (bytes_of text u)) t (tokens_from 0 text) (all_spelled text) (from t m) (somewhere t m))
    (spelled (all_said (source_of text) ts)) [] 0 refl refl
