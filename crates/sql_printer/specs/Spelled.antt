-- The text of tokens by what they say, with one space after each.
use Rattle.std.specs.Prelude.{ℕ, List, [], ◌∷◌, ◌++◌, ◌-◌, nat_lt, if◌then◌else◌, codes, slice_index_or}
use Rattle.std.specs.Fmt.{decimal}
use Rattle.vdb_base.specs.Print.{quoted}
use Rattle.sql_reader.specs.Symbols as symbol
use Rattle.sql_tokens.specs.Words.{words}
use Rattle.sql_printer.specs.Said.{Said, Word, Named, Text, Number, Fraction}

-- from OPEN on
abbrev pub signs : List (List ℕ)
signs = codes "(" ∷ codes ")" ∷ codes "," ∷ codes "." ∷ codes ";" ∷ codes "=" ∷ codes "<>" ∷ codes "<" ∷ codes "<=" ∷ codes ">" ∷ codes ">=" ∷ codes "+" ∷ codes "-" ∷ codes "*" ∷ codes "||" ∷ []

-- a reserved word in lower case, or a sign
abbrev pub word_text : ℕ → List ℕ
word_text kind = if nat_lt kind symbol.OPEN then slice_index_or words kind [] else slice_index_or signs (kind - symbol.OPEN) []

-- names in `"`, so that none is a reserved word; strings in `'`
abbrev pub spell : Said → List ℕ
spell (Word kind) = word_text kind
spell (Named name) = quoted 34 name
spell (Text text) = quoted 39 text
spell (Number n) = decimal n
spell Fraction = codes "0.5"

abbrev pub spelled : List Said → List ℕ
spelled [] = []
spelled (said ∷ rest) = spell said ++ 32 ∷ spelled rest
