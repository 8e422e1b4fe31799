-- A token with a space behind it is read by itself.
use Rattle.std.proofs.Common.{◌≡◌, ◌<◌, ℕ, suc, ◌+◌, Bool, true, false, List, [], ◌∷◌, ◌++◌, cond, length, drop, refl, sym, ap, ◌∙◌, arith, length-append, get_or}
use Rattle.std.specs.List.{prefix_len}
use Rattle.sql_tokens.specs.declared.token.Kind.{Kind}
use Rattle.sql_tokens.specs.declared.token.Token.{Token}
use Rattle.sql_tokens.specs.declared.pieces.Opening.TheVariants as begin
use Rattle.sql_tokens.specs.declared.pieces.Piece.{Piece}
use Rattle.sql_tokens.specs.Bytes.{is_blank}
use Rattle.sql_tokens.specs.Pieces.{piece, piece_of, opens, gap, one}
use Rattle.sql_tokens.specs.Tokens.{tokens_after, seen}
use Rattle.sql_tokens.proofs.Steps.{token_step}
use Rattle.sql_tokens.proofs.TextParts.{drop_front}

blank_opens : (b c : ℕ) → is_blank b ≡ true → opens b c ≡ begin.Space
blank_opens b c e = rw e refl

blank_piece : (b : ℕ) (bs : List ℕ) → is_blank b ≡ true → piece (b ∷ bs) ≡ gap (1 + prefix_len is_blank bs)
unfolding piece
blank_piece b bs e =
    ap (λ o. piece_of o (b ∷ bs)) (blank_opens b (get_or (b ∷ bs) 1 0) e)
    ∙ ap (λ c. gap (cond c (1 + prefix_len is_blank bs) 0)) e

-- blanks are passed
blanks : (place : ℕ) (bs : List ℕ) → tokens_after 0 place bs ≡ tokens_after 0 (place + prefix_len is_blank bs) (drop (prefix_len is_blank bs) bs)
blanks place [] = refl
blanks place (b ∷ bs) = at (is_blank b) refl
  where
    at : (c : Bool) → is_blank b ≡ c
        → tokens_after 0 place (b ∷ bs) ≡ tokens_after 0 (place + cond c (1 + prefix_len is_blank bs) 0) (drop (cond c (1 + prefix_len is_blank bs) 0) (b ∷ bs))
    at true e =
        let p : piece (b ∷ bs) ≡ gap (1 + prefix_len is_blank bs) = blank_piece b bs e in
        let some : 0 < (piece (b ∷ bs)).len = rw p (omega arith) in
        token_step place (b ∷ bs) (omega arith) some
        ∙ ap (λ (q : Piece). seen place q.len q.kind ++ tokens_after 0 (place + q.len) (drop q.len (b ∷ bs))) p
    at false e = let none : place + 0 ≡ place = omega arith in rw none refl

space : (place : ℕ) (rest : List ℕ) → tokens_after 0 place (32 ∷ rest) ≡ tokens_after 0 (place + 1) rest
space place rest =
    let n = prefix_len is_blank rest in
    let more : 1 + n ≡ suc n = omega arith in
    let far : place + (1 + n) ≡ place + 1 + n = omega arith in
    blanks place (32 ∷ rest)
    ∙ ap (λ m. tokens_after 0 (place + (1 + n)) (drop m (32 ∷ rest))) more
    ∙ ap (λ m. tokens_after 0 m (drop n rest)) far
    ∙ sym (blanks (place + 1) rest)

-- the first token, and those behind the space
pub token_then : (place : ℕ) (word rest : List ℕ) (k : Kind) → 0 < length word → piece (word ++ 32 ∷ rest) ≡ one k (length word)
    → tokens_after 0 place (word ++ 32 ∷ rest) ≡ record { kind = k; start = place; end = place + length word } ∷ tokens_after 0 (place + length word + 1) rest
token_then place word rest k some is =
    let long : 0 < length (word ++ 32 ∷ rest) = omega (arith, some, length-append word (32 ∷ rest)) in
    let far : 0 < (piece (word ++ 32 ∷ rest)).len = rw is some in
    let t : Token = record { kind = k; start = place; end = place + length word } in
    token_step place (word ++ 32 ∷ rest) long far
    ∙ ap (λ (q : Piece). seen place q.len q.kind ++ tokens_after 0 (place + q.len) (drop q.len (word ++ 32 ∷ rest))) is
    ∙ ap (λ x. t ∷ tokens_after 0 (place + length word) x) (drop_front word (32 ∷ rest))
    ∙ ap (λ x. t ∷ x) (space (place + length word) rest)
