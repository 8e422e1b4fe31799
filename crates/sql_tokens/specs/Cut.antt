-- Statements, cut at the `;` tokens.
use Rattle.std.specs.Prelude.{ℕ, Bool, true, false, ⊤, ◌+◌, ◌<◌, ◌≤◌, List, [], ◌∷◌, if◌then◌else◌, Option, Some, None}
use Rattle.sql_tokens.specs.declared.token.Kind.{Kind}
use Rattle.sql_tokens.specs.declared.token.Kind.TheVariants as kind
use Rattle.sql_tokens.specs.declared.token.Token.{Token}
use Rattle.sql_tokens.specs.declared.cut.Found.{Found}
use Rattle.sql_tokens.specs.declared.cut.Found.TheVariants.{Statement, More, End}

abbrev pub cuts : Kind → Bool
cuts kind.Semicolon = true
cuts _ = false

-- A statement that starts at a place, where these tokens come after its first: it ends at their first `;`, or else at
-- the end of the bytes.
abbrev pub statement : Bool → ℕ → ℕ → List Token → Found
statement ended size start [] = if ended then Statement start size size else More
statement ended size start (t ∷ ts) = if cuts t.kind then Statement start t.start (t.start + 1) else statement ended size start ts

-- the first statement among the tokens: it starts at the first that is no `;`
abbrev pub found : Bool → ℕ → List Token → Found
found ended size [] = if ended then End else More
found ended size (t ∷ ts) = if cuts t.kind then found ended size ts else statement ended size t.start ts

-- the statements between the `;` tokens, once one began or before
abbrev pub cut_after : Bool → ℕ → Option ℕ → List Token → List Found
cut_after ended size None [] = []
cut_after ended size (Some start) [] = if ended then Statement start size size ∷ [] else []
cut_after ended size None (t ∷ ts) = if cuts t.kind then cut_after ended size None ts else cut_after ended size (Some t.start) ts
cut_after ended size (Some start) (t ∷ ts) =
    if cuts t.kind then Statement start t.start (t.start + 1) ∷ cut_after ended size None ts else cut_after ended size (Some start) ts

-- The places of a statement that was sought from a place on, in a script of some size.
pub record InOrder (from start end next size : ℕ) : Type 0 where
  pub sought : from ≤ start
  pub some : start < end
  pub closed : end ≤ next
  pub within : next ≤ size

abbrev pub IsForth : ℕ → ℕ → Found → Type 0
IsForth from size (Statement start end next) = InOrder from start end next size
IsForth from size More = ⊤
IsForth from size End = ⊤
