-- What single tokens say.
use Rattle.std.specs.Prelude.{ℕ, false, ◌&&◌, ◌-◌, nat_le, is_some, if◌then◌else◌, List, Option, Some, None, length, take, drop}
use Rattle.std.specs.Str.{is_utf8}
use Rattle.sql_tokens.specs.declared.token.Kind.{Kind}
use Rattle.sql_tokens.specs.declared.token.Kind.TheVariants as kind
use Rattle.sql_tokens.specs.declared.token.Token.{Token}
use Rattle.sql_tokens.specs.Values.{folded, single}
use Rattle.sql_tokens.specs.Words.{reserved}

-- a token's bytes in its text
abbrev pub bytes_of : List ℕ → Token → List ℕ
bytes_of text t = take (t.end - t.start) (drop t.start text)

-- what stands between the quotes
abbrev pub inner : List ℕ → List ℕ
inner bytes = take (length bytes - 2) (drop 1 bytes)

-- Bytes that are text. What a text's own tokens say always is; that is a law.
abbrev pub text_of : List ℕ → Option (List ℕ)
text_of bytes = if is_utf8 bytes then Some bytes else None

-- a name has 1 to 64 bytes
abbrev pub short : List ℕ → Option (List ℕ)
short name = if nat_le 1 (length name) && nat_le (length name) 64 then text_of name else None

-- a word that isn't reserved, or what stands in double quotes, in lower case
abbrev pub name_of : Kind → List ℕ → Option (List ℕ)
name_of kind.Word bytes = if is_some (reserved bytes) then None else short (folded bytes)
name_of kind.Name bytes = short (folded (single 34 false (inner bytes)))
name_of _ bytes = None
