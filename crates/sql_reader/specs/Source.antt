-- What the tokens of a text say where their kinds let them stand: places, names and literals.
use Rattle.std.specs.Prelude.{ℕ, ◌+◌, ◌-◌, ◌^◌, nat_le, nat_lt, if◌then◌else◌, List, [], ◌∷◌, Option, Some, None, slice_index_or, codes, ℤ, pos, neg_ℤ, Bool, true, false}
use Rattle.vdb_base.specs.declared.value.Value.TheVariants as value
use Rattle.sql_tokens.specs.declared.token.Kind.{Kind}
use Rattle.sql_tokens.specs.declared.token.Kind.TheVariants as kind
use Rattle.sql_tokens.specs.declared.token.Token.{Token}
use Rattle.sql_reader.specs.declared.tree.name.Name.{Name}
use Rattle.sql_reader.specs.declared.tree.expr.Literal.{Literal}
use Rattle.sql_reader.specs.declared.tree.expr.Constant.{Constant}
use Rattle.sql_reader.specs.declared.tree.expr.Constant.TheVariants as constant
use Rattle.sql_tokens.specs.Parts.{bytes_of, inner, name_of, text_of}
use Rattle.sql_tokens.specs.Values.{single, decimal}
use Rattle.sql_tokens.specs.Words.{is_same}

-- a text and its tokens
pub record Source : Type 0 where
  pub text : List ℕ
  pub tokens : List Token

-- a bad token, where there is none
abbrev pub no_token : Token
no_token = record { kind = kind.Bad; start = 0; end = 0 }

-- the last of so many tokens
abbrev pub last_token : Source → ℕ → Token
last_token s n = slice_index_or s.tokens (n - 1) no_token

abbrev pub place_at : Source → ℕ → ℕ
place_at s n = (last_token s n).start

-- some bytes, or the empty ones
abbrev pub or_empty : Option (List ℕ) → List ℕ
or_empty None = []
or_empty (Some bytes) = bytes

abbrev pub name_of_token : Source → Token → Name
name_of_token s t = record { text = or_empty (name_of t.kind (bytes_of s.text t)); at = t.start }

abbrev pub name_at : Source → ℕ → Name
name_at s n = name_of_token s (last_token s n)

-- a whole number that has at most 128 bits with its sign
abbrev pub positive : ℕ → Constant
positive n = if nat_lt n (2 ^ 127) then constant.Value (value.Num (pos n)) else constant.TooLong

abbrev pub negative : ℕ → Constant
negative n = if nat_le n (2 ^ 127) then constant.Value (value.Num (neg_ℤ (pos n))) else constant.TooLong

-- a numeral's number, where one past 2 ^ 127 stands for all that are longer
abbrev pub whole : ℕ → ℕ
whole n = if nat_le n (2 ^ 127) then n else 2 ^ 127 + 1

abbrev pub whole_of : Kind → List ℕ → ℕ
whole_of kind.Numeral bytes = whole (decimal 0 bytes)
whole_of _ bytes = 0

-- TRUE, FALSE or NULL
abbrev pub word_constant : List ℕ → Constant
word_constant word =
    if is_same word (codes "true") then constant.Value (value.Bool true)
    else if is_same word (codes "false") then constant.Value (value.Bool false)
    else constant.Value value.Null

abbrev pub constant_of : Kind → List ℕ → Constant
constant_of kind.Numeral bytes = positive (decimal 0 bytes)
constant_of kind.Fraction bytes = constant.Fraction
constant_of kind.Text bytes = constant.Value (value.Str (or_empty (text_of (single 39 false (inner bytes)))))
constant_of _ bytes = word_constant bytes

abbrev pub literal_of_token : Source → Token → Literal
literal_of_token s t = record { constant = constant_of t.kind (bytes_of s.text t); negative = false; whole = whole_of t.kind (bytes_of s.text t); at = t.start }

abbrev pub literal_at : Source → ℕ → Literal
literal_at s n = literal_of_token s (last_token s n)

-- a numeral after a `-`, whose place is that of the sign
abbrev pub negative_at : Source → ℕ → Literal
negative_at s n = record { constant = negative (decimal 0 (bytes_of s.text (last_token s n))); negative = true; whole = whole (decimal 0 (bytes_of s.text (last_token s n))); at = place_at s (n - 1) }
