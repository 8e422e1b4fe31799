-- The statements of a script.
use Rattle.std.specs.Prelude.{ℕ, ◌-◌, Bool, List, [], ◌∷◌, take, drop}
use Rattle.sql_tokens.specs.declared.cut.Found.{Found}
use Rattle.sql_tokens.specs.declared.cut.Found.TheVariants.{Statement, More, End}
use Rattle.sql_tokens.specs.Laws.{statements}

-- the most bytes that a script may have
abbrev pub script_limit : ℕ
script_limit = 16777216

-- a statement: where it stands, and its bytes
pub record Piece : Type 0 where
  pub at : ℕ
  pub text : List ℕ

abbrev pub part : List ℕ → ℕ → ℕ → List ℕ
part script start end = take (end - start) (drop start script)

abbrev pub pieces : List ℕ → List Found → List Piece
pieces script [] = []
pieces script (Statement start end next ∷ found) = record { at = start; text = part script start end } ∷ pieces script found
pieces script (More ∷ found) = pieces script found
pieces script (End ∷ found) = pieces script found

-- the statements from a place on; a rest without `;` is one where the script has ended
abbrev pub statements_from : List ℕ → Bool → ℕ → List Piece
statements_from script ended from = pieces script (statements ended script from)

abbrev pub statements_of : List ℕ → Bool → List Piece
statements_of script ended = statements_from script ended 0
