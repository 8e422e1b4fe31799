-- What words, quoted names and strings say is text, so the test for it in what a token says never fails.
use Rattle.std.specs.Prelude.{◌≡◌, ℕ, true, false, List}
use Rattle.std.specs.List.{All}
use Rattle.std.specs.Str.{is_utf8}
use Rattle.sql_tokens.specs.declared.token.Kind.{Kind}
use Rattle.sql_tokens.specs.declared.token.Kind.TheVariants as kind
use Rattle.sql_tokens.specs.Values.{folded, single}
use Rattle.sql_tokens.specs.Parts.{bytes_of, inner}
use Rattle.sql_tokens.specs.Tokens.{tokens_from}

pub record SaysText (k : Kind) (bytes : List ℕ) : Type 0 where
  pub word : k ≡ kind.Word → is_utf8 (folded bytes) ≡ true
  pub name : k ≡ kind.Name → is_utf8 (folded (single 34 false (inner bytes))) ≡ true
  pub string : k ≡ kind.Text → is_utf8 (single 39 false (inner bytes)) ≡ true

abbrev pub TokensSayText : Type 0
TokensSayText = (text : List ℕ) → All (λ t. SaysText t.kind (bytes_of text t)) (tokens_from 0 text)
