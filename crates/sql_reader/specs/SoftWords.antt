-- Words that the grammars know and that may stand as names. It is written by `tools/table.py`.
use Rattle.std.specs.Prelude.{ℕ, List, [], ◌∷◌, Option, codes}
use Rattle.sql_tokens.specs.Words.{place_of}

-- in lower case, by their kinds from the first one
abbrev pub soft_words : List (List ℕ)
soft_words =
    codes "transaction" ∷
    codes "atomic" ∷
    codes "sqlexception" ∷
    codes "accesspattern" ∷
    codes "constraint" ∷
    codes "data" ∷
    codes "database" ∷
    codes "each" ∷
    codes "for" ∷
    codes "foreign" ∷
    codes "instead" ∷
    codes "key" ∷
    codes "of" ∷
    codes "options" ∷
    codes "primary" ∷
    codes "procedure" ∷
    codes "returns" ∷
    codes "row" ∷
    codes "schema" ∷
    codes "server" ∷
    codes "table" ∷
    codes "trigger" ∷
    codes "type" ∷
    codes "use" ∷
    codes "version" ∷
    codes "view" ∷
    codes "virtual" ∷
    codes "wrapper" ∷
    []

-- the place of a word in any case, if it is one
unfoldable pub soft : List ℕ → Option ℕ
soft word = place_of word soft_words
