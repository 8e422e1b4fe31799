-- What is found in a script's first bytes stays found when more bytes come, wherever they were cut.
use Rattle.std.specs.Prelude.{ℕ, Bool, true, false, ◌≡◌, ◌≤◌, ◌==◌, ◌+◌, ◌↔◌, if◌then◌else◌, List, [], ◌∷◌, ◌++◌, Some, None, length, drop}
use Rattle.std.specs.List.{list_all}
use Rattle.sql_tokens.specs.declared.token.Token.{Token}
use Rattle.sql_tokens.specs.declared.cut.Found.{Found}
use Rattle.sql_tokens.specs.declared.cut.Found.TheVariants.{Statement, More, End}
use Rattle.sql_tokens.specs.Lengths.{quoted, commented}
use Rattle.sql_tokens.specs.Values.{single}
use Rattle.sql_tokens.specs.Tokens.{tokens_from}
use Rattle.sql_tokens.specs.Cut.{found, cuts, cut_after}

abbrev pub FoundStays : Type 0
FoundStays = (script more : List ℕ) (from : ℕ) (ended : Bool) (start end next : ℕ) → from ≤ length script
    → found false (length script) (tokens_from from (drop from script)) ≡ Statement start end next
    → found ended (length (script ++ more)) (tokens_from from (drop from (script ++ more))) ≡ Statement start end next

-- A quote is written as two: what stands between the quotes of a text.
abbrev pub doubled : ℕ → List ℕ → List ℕ
doubled q [] = []
doubled q (b ∷ bs) = if b == q then q ∷ q ∷ doubled q bs else b ∷ doubled q bs

abbrev pub begins : ℕ → List ℕ → Bool
begins q [] = false
begins q (b ∷ bs) = b == q

-- Written text is read: its quotation ends at its closing quote, where no quote follows, and says it.
abbrev pub WrittenIsRead : Type 0
WrittenIsRead = (q : ℕ) (text rest : List ℕ) → begins q rest ≡ false
    → (quoted q false (doubled q text ++ q ∷ rest) ≡ Some (length (doubled q text) + 1)) × (single q false (doubled q text) ≡ text)

-- And what is closed is some written text, so this is all that is read.
pub record IsWritten (q n : ℕ) (bytes : List ℕ) : Type 0 where
  pub text : List ℕ
  pub rest : List ℕ
  pub is : bytes ≡ doubled q text ++ q ∷ rest
  pub alone : begins q rest ≡ false
  pub ends : n ≡ length (doubled q text) + 1

abbrev pub ReadIsWritten : Type 0
ReadIsWritten = (q : ℕ) (bytes : List ℕ) (n : ℕ) → quoted q false bytes ≡ Some n → IsWritten q n bytes

-- A `;` that comes after another token.
pub record HasCut (ts : List Token) : Type 0 where
  pub front : List Token
  pub first : Token
  pub middle : List Token
  pub last : Token
  pub rest : List Token
  pub is : ts ≡ front ++ first ∷ (middle ++ last ∷ rest)
  pub other : cuts first.kind ≡ false
  pub cut : cuts last.kind ≡ true

-- More is found exactly where the script isn't ended and has no such `;`, and End exactly where it is ended and every
-- token is a `;`.
abbrev pub MoreExactly : Type 0
MoreExactly = (ended : Bool) (size : ℕ) (ts : List Token) → (found ended size ts ≡ More) ↔ ((ended ≡ false) × (HasCut ts → ⊥))

abbrev pub EndExactly : Type 0
EndExactly = (ended : Bool) (size : ℕ) (ts : List Token) → (found ended size ts ≡ End) ↔ ((ended ≡ true) × (list_all (λ t. cuts t.kind) ts ≡ true))

-- A comment ends at its first `*/`.
abbrev pub NoEnd : List ℕ → Type 0
NoEnd bytes = (xs ys : List ℕ) → bytes ≡ xs ++ 42 ∷ 47 ∷ ys → ⊥

pub record EndsComment (n : ℕ) (bytes : List ℕ) : Type 0 where
  pub inside : List ℕ
  pub rest : List ℕ
  pub is : bytes ≡ inside ++ 42 ∷ 47 ∷ rest
  pub ends : n ≡ length inside + 2
  pub first : NoEnd (inside ++ 42 ∷ [])

abbrev pub CommentEnds : Type 0
CommentEnds = (bytes : List ℕ) → ((n : ℕ) → commented false bytes ≡ Some n → EndsComment n bytes) × (commented false bytes ≡ None → NoEnd bytes)

-- The first statement found from a place on, and then those from its next place on, are those of all tokens from the
-- place on; where none is found there is none.
abbrev pub statements : Bool → List ℕ → ℕ → List Found
statements ended script from = cut_after ended (length script) None (tokens_from from (drop from script))

abbrev pub FoundInTurn : Type 0
FoundInTurn = (script : List ℕ) (from : ℕ) (ended : Bool) (start end next : ℕ) → from ≤ length script
    → found ended (length script) (tokens_from from (drop from script)) ≡ Statement start end next
    → (next ≤ length script) × (statements ended script from ≡ Statement start end next ∷ statements ended script next)
