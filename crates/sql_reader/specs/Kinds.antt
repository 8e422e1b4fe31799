-- The kinds that tokens have in the grammar. A token that stands nowhere, and so makes its text no statement, is a bad one or
-- a name of another length than 1 to 64 bytes.
use Rattle.std.specs.Prelude.{ℕ, Bool, false, ◌+◌, ◌&&◌, nat_le, if◌then◌else◌, List, [], ◌∷◌, Option, Some, None, length}
use Rattle.sql_tokens.specs.declared.token.Kind.{Kind}
use Rattle.sql_tokens.specs.declared.token.Kind.TheVariants as kind
use Rattle.sql_tokens.specs.declared.token.Token.{Token}
use Rattle.sql_tokens.specs.Parts.{bytes_of, inner}
use Rattle.sql_tokens.specs.Values.{single}
use Rattle.sql_tokens.specs.Words.{reserved}
use Rattle.sql_reader.specs.SoftWords.{soft}
use Rattle.sql_reader.specs.Symbols as symbol

-- a name of so many bytes
abbrev pub name_kind : ℕ → ℕ
name_kind n = if nat_le 1 n && nat_le n 64 then symbol.NAME else symbol.NOWHERE

-- a word that isn't reserved: one that the grammars know, or any name
abbrev pub free_kind : Option ℕ → ℕ → ℕ
free_kind (Some i) n = symbol.FIRST_WORD + i
free_kind None n = name_kind n

-- reserved words have the numbers of their places
abbrev pub known_kind : Option ℕ → List ℕ → ℕ
known_kind (Some i) bytes = i
known_kind None bytes = free_kind (soft bytes) (length bytes)

abbrev pub word_kind : List ℕ → ℕ
word_kind bytes = known_kind (reserved bytes) bytes

abbrev pub kind_of : Kind → List ℕ → ℕ
kind_of kind.Word bytes = word_kind bytes
kind_of kind.Name bytes = name_kind (length (single 34 false (inner bytes)))
kind_of kind.Numeral bytes = symbol.NUMERAL
kind_of kind.Fraction bytes = symbol.FRACTION
kind_of kind.Text bytes = symbol.STRING
kind_of kind.Open bytes = symbol.OPEN
kind_of kind.Close bytes = symbol.CLOSE
kind_of kind.Comma bytes = symbol.COMMA
kind_of kind.Dot bytes = symbol.DOT
kind_of kind.Semicolon bytes = symbol.SEMICOLON
kind_of kind.Equal bytes = symbol.EQUAL
kind_of kind.NotEqual bytes = symbol.NOT_EQUAL
kind_of kind.Less bytes = symbol.LESS
kind_of kind.AtMost bytes = symbol.AT_MOST
kind_of kind.Greater bytes = symbol.GREATER
kind_of kind.AtLeast bytes = symbol.AT_LEAST
kind_of kind.Plus bytes = symbol.PLUS
kind_of kind.Minus bytes = symbol.MINUS
kind_of kind.Times bytes = symbol.TIMES
kind_of kind.Join bytes = symbol.BARS
kind_of kind.Bad bytes = symbol.NOWHERE

abbrev pub kinds_of : List ℕ → List Token → List ℕ
kinds_of text [] = []
kinds_of text (t ∷ ts) = kind_of t.kind (bytes_of text t) ∷ kinds_of text ts
