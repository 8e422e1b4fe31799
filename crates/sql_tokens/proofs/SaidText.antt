-- What the tokens of a text say is text.
use Rattle.std.proofs.Common.{◌≡◌, ℕ, true, false, List, [], ◌∷◌, ◌++◌, Some, arith, refl, sym, ap, ◌∙◌, subst}
use Rattle.std.specs.Str.{IsUtf8, is_utf8}
use Rattle.std.specs.List.{list_all}
use Rattle.std.proofs.lemmas.Str.{IsUtf8-from_is_utf8}
use Rattle.sql_tokens.specs.declared.token.Kind.{Kind}
use Rattle.sql_tokens.specs.declared.token.Kind.TheVariants as kind
use Rattle.sql_tokens.specs.Bytes.{is_word, is_printable}
use Rattle.sql_tokens.specs.Values.{folded}
use Rattle.sql_tokens.specs.Laws.{doubled}
use Rattle.sql_tokens.specs.Said.{SaysText, TokensSayText}
use Rattle.sql_tokens.proofs.EachToken.{plain, Quoted, inner_is, tokens_all}
use Rattle.sql_tokens.proofs.Utf8.{utf8_yes}
use Rattle.sql_tokens.proofs.TextParts.{quoted_text, undoubled_all, folded_text, printable_low, word_low}

plain_says : (k : Kind) (bytes : List ℕ) → plain (Some k) ≡ true → SaysText k bytes
unfolding plain
plain_says k bytes e = record {
  word = λ is. no kind.Word refl is;
  name = λ is. no kind.Name refl is;
  string = λ is. no kind.Text refl is;
}
  where
    no : {A : Type 0} (j : Kind) → plain (Some j) ≡ false → k ≡ j → A
    no j f is = let g : true ≡ false = sym e ∙ ap (λ x. plain (Some x)) is ∙ f in cc

word_says : (bytes : List ℕ) → list_all is_word bytes ≡ true → SaysText kind.Word bytes
word_says bytes e = record {
  word = λ w. utf8_yes _ (folded_text is_word word_low bytes e);
  name = λ w. cc;
  string = λ w. cc;
}

name_says : (bytes : List ℕ) → Quoted 34 bytes → list_all is_printable bytes ≡ true → SaysText kind.Name bytes
name_says bytes w e =
    let all : list_all is_printable w.body ≡ true = undoubled_all is_printable 34 w.body (34 ∷ []) (sym (ap (list_all is_printable) w.is) ∙ e) in
    let same = inner_is 34 bytes w in
    record {
      word = λ is. cc;
      name = λ is. ap (λ x. is_utf8 (folded x)) same ∙ utf8_yes (folded w.body) (folded_text is_printable printable_low w.body all);
      string = λ is. cc;
    }

string_says : (bytes : List ℕ) → Quoted 39 bytes → is_utf8 bytes ≡ true → SaysText kind.Text bytes
string_says bytes w e =
    let same = inner_is 39 bytes w in
    let all : IsUtf8 (39 ∷ (doubled 39 w.body ++ 39 ∷ [])) = subst IsUtf8 w.is (IsUtf8-from_is_utf8 bytes e) in
    record {
      word = λ is. cc;
      name = λ is. cc;
      string = λ is. ap is_utf8 same ∙ utf8_yes w.body (quoted_text 39 (omega arith) w.body all);
    }

pub tokens_say_text : TokensSayText
tokens_say_text text = tokens_all SaysText word_says name_says string_says plain_says text
