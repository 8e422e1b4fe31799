-- Reserved words.
use Rattle.std.specs.Prelude.{ℕ, Bool, true, false, ◌&&◌, ◌==◌, if◌then◌else◌, List, [], ◌∷◌, Option, Some, None, codes}
use Rattle.std.specs.Borrow.{Bor}
use Rattle.sql_tokens.specs.Lengths.{further}
use Rattle.sql_tokens.specs.Values.{fold}

-- whether a word in any case is one in lower case
abbrev pub is_same : List ℕ → List ℕ → Bool
is_same [] [] = true
is_same [] (c ∷ cs) = false
is_same (b ∷ bs) [] = false
is_same (b ∷ bs) (c ∷ cs) = fold b == c && is_same bs cs

abbrev pub place_of : List ℕ → List (List ℕ) → Option ℕ
place_of word [] = None
place_of word (low ∷ lows) = if is_same word low then Some 0 else further 1 (place_of word lows)

abbrev pub words : List (List ℕ)
words = codes "all" ∷ codes "and" ∷ codes "as" ∷ codes "asc" ∷ codes "begin" ∷ codes "between" ∷ codes "by" ∷ codes "case" ∷ codes "coalesce" ∷ codes "commit" ∷ codes "count" ∷ codes "create" ∷ codes "cross" ∷ codes "declare" ∷ codes "delete" ∷ codes "desc" ∷ codes "distinct" ∷ codes "else" ∷ codes "end" ∷ codes "exec" ∷ codes "explain" ∷ codes "false" ∷ codes "from" ∷ codes "group" ∷ codes "having" ∷ codes "if" ∷ codes "in" ∷ codes "inner" ∷ codes "insert" ∷ codes "into" ∷ codes "is" ∷ codes "join" ∷ codes "left" ∷ codes "like" ∷ codes "limit" ∷ codes "loop" ∷ codes "max" ∷ codes "min" ∷ codes "not" ∷ codes "null" ∷ codes "offset" ∷ codes "on" ∷ codes "or" ∷ codes "order" ∷ codes "outer" ∷ codes "raise" ∷ codes "rollback" ∷ codes "select" ∷ codes "set" ∷ codes "start" ∷ codes "sum" ∷ codes "then" ∷ codes "true" ∷ codes "union" ∷ codes "update" ∷ codes "values" ∷ codes "when" ∷ codes "where" ∷ codes "while" ∷ []

unfoldable pub reserved : List ℕ → Option ℕ
reserved word = place_of word words

-- slices as they read
abbrev pub shown : List (Bor (List ℕ)) → List (List ℕ)
shown [] = []
shown (w ∷ ws) = w.now ∷ shown ws
