-- The tokens of a text.
use Rattle.std.specs.Prelude.{ℕ, ◌+◌, ◌-◌, ◌<◌, ◌≤◌, List, [], ◌∷◌, ◌++◌, Option, Some, None}
use Rattle.std.proofs.Common.{zero, suc}
use Rattle.sql_tokens.specs.declared.token.Kind.{Kind}
use Rattle.sql_tokens.specs.declared.token.Token.{Token}
use Rattle.sql_tokens.specs.Pieces.{piece}

-- the token that a piece is, where it isn't a gap
abbrev pub seen : ℕ → ℕ → Option Kind → List Token
seen place n None = []
seen place n (Some k) = record { kind = k; start = place; end = place + n } ∷ []

-- The tokens of bytes that begin at a place, after some bytes that still belong to the piece before them.
abbrev pub tokens_after : ℕ → ℕ → List ℕ → List Token
tokens_after left place [] = []
tokens_after (suc left) place (b ∷ bs) = tokens_after left (place + 1) bs
tokens_after zero place (b ∷ bs) =
    let p = piece (b ∷ bs) in seen place p.len p.kind ++ tokens_after (p.len - 1) (place + 1) bs

-- the tokens of bytes that begin at a place
abbrev pub tokens_from : ℕ → List ℕ → List Token
tokens_from place bs = tokens_after 0 place bs

-- a token's bytes are bytes of the text
pub record IsWithin (size : ℕ) (t : Token) : Type 0 where
  pub some : t.start < t.end
  pub within : t.end ≤ size
