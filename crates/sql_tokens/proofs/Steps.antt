-- The tokens of a text are those of its first piece and of the rest.
use Rattle.std.proofs.Common.{◌≡◌, ◌<◌, ◌≤◌, ℕ, zero, suc, ◌+◌, ◌-◌, List, [], ◌∷◌, ◌++◌, length, drop, refl, ap, ◌∙◌, arith, Bool, Option, Some, None, append_assoc}
use Rattle.sql_tokens.specs.declared.cut.Found.{Found}
use Rattle.sql_tokens.specs.declared.token.Token.{Token}
use Rattle.sql_tokens.specs.declared.pieces.Piece.{Piece}
use Rattle.sql_tokens.specs.Pieces.{piece}
use Rattle.sql_tokens.specs.Tokens.{tokens_after, seen, IsWithin}
use Rattle.sql_tokens.specs.declared.token.Kind.{Kind}
use Rattle.std.specs.List.{All}
use Rattle.std.proofs.lemmas.List.Elements.{All-append, All-push}
use Rattle.sql_tokens.specs.Cut.{found, statement}

-- the bytes of a piece are passed one by one
pub passed : (left place : ℕ) (bs : List ℕ) → tokens_after left place bs ≡ tokens_after 0 (place + left) (drop left bs)
passed zero place [] = refl
passed zero place (b ∷ bs) = let e : place + 0 ≡ place = omega arith in rw e refl
passed (suc left) place [] = refl
passed (suc left) place (b ∷ bs) =
    let e : place + 1 + left ≡ place + suc left = omega arith in
    passed left (place + 1) bs ∙ ap (λ n. tokens_after 0 n (drop left bs)) e

pub token_step : (place : ℕ) (bs : List ℕ) → 0 < length bs → 0 < (piece bs).len
    → tokens_after 0 place bs ≡ seen place (piece bs).len (piece bs).kind ++ tokens_after 0 (place + (piece bs).len) (drop (piece bs).len bs)
token_step place [] h some = absurd (omega arith)
token_step place (b ∷ bs) h some =
    ap (λ ts. seen place (piece (b ∷ bs)).len (piece (b ∷ bs)).kind ++ ts) (stepped (piece (b ∷ bs)).len some)
  where
    stepped : (n : ℕ) → 0 < n → tokens_after (n - 1) (place + 1) bs ≡ tokens_after 0 (place + n) (drop n (b ∷ bs))
    stepped zero some = absurd (omega arith)
    stepped (suc n) some =
        let e : suc n - 1 ≡ n = omega arith in
        let f : place + 1 + n ≡ place + suc n = omega arith in
        ap (λ k. tokens_after k (place + 1) bs) e ∙ passed n (place + 1) bs ∙ ap (λ k. tokens_after 0 k (drop n bs)) f

pub made_step : (made new all : List Token) (place : ℕ) (bs rest : List ℕ) (p : Piece) → 0 < length bs → 0 < p.len
    → p ≡ piece bs → rest ≡ drop p.len bs → new ≡ made ++ seen place p.len p.kind → made ++ tokens_after 0 place bs ≡ all
    → new ++ tokens_after 0 (place + p.len) rest ≡ all
made_step made new all place bs rest p h some is cut added so_far =
    let some' : 0 < (piece bs).len = rw (← is) some in
    let step : tokens_after 0 place bs ≡ seen place p.len p.kind ++ tokens_after 0 (place + p.len) rest = rw (cut, is) (token_step place bs h some') in
    rw added (rw (append_assoc, ← step) so_far)

seen_within : (size place n : ℕ) (k : Option Kind) → 0 < n → place + n ≤ size → All (IsWithin size) (seen place n k)
seen_within size place n None some h = λ i d l. absurd (omega arith)
seen_within size place n (Some k) some h =
    All-push (IsWithin size) [] (record { kind = k; start = place; end = place + n }) (λ i d l. absurd (omega arith))
    (record { some = omega arith; within = h })

pub made_within : (made new : List Token) (size place n : ℕ) (k : Option Kind) → 0 < n → place + n ≤ size
    → new ≡ made ++ seen place n k → All (IsWithin size) made → All (IsWithin size) new
made_within made new size place n k some h added so_far =
    rw added (All-append (IsWithin size) made (seen place n k) so_far (seen_within size place n k some h))

-- what is found, once a statement's first token was seen or before
abbrev pub going : Bool → ℕ → Option ℕ → List Token → Found
going ended size None ts = found ended size ts
going ended size (Some start) ts = statement ended size start ts

pub ruleset token_steps = (token_step)
