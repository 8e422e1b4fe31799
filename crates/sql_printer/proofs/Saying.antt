-- What a token says, and when two tokens say the same.
use Rattle.std.specs.Prelude.{ℕ, Bool, true, false, ◌≡◌, not, if◌then◌else◌, List, [], ◌∷◌}
use Rattle.grammar.specs.Derivation.{has, Among}
use Rattle.sql_tokens.specs.declared.token.Token.{Token}
use Rattle.sql_reader.specs.Kinds.{kind_of}
use Rattle.sql_tokens.specs.Parts.{bytes_of}
use Rattle.sql_reader.specs.Source.{Source, name_of_token, literal_of_token, negative}
use Rattle.sql_reader.specs.Symbols as symbol
use Rattle.sql_tokens.specs.Tokens.{tokens_from}
use Rattle.sql_reader.specs.Trees.{source_of}
use Rattle.sql_tokens.specs.Values.{decimal}
use Rattle.sql_printer.specs.Names.{constant_said}
use Rattle.sql_printer.specs.Said.{Said, Word, Named}
use Rattle.sql_printer.specs.Spelled.{spelled}

-- the kinds of tokens that may stand as names
abbrev pub names : List ℕ
names = symbol.NAME ∷ symbol.TRANSACTION_WORD ∷ symbol.ATOMIC_WORD ∷ symbol.SQLEXCEPTION_WORD ∷ symbol.ACCESSPATTERN_WORD ∷ symbol.CONSTRAINT_WORD ∷ symbol.DATA_WORD ∷ symbol.DATABASE_WORD ∷ symbol.EACH_WORD ∷ symbol.FOR_WORD ∷ symbol.FOREIGN_WORD ∷ symbol.INSTEAD_WORD ∷ symbol.KEY_WORD ∷ symbol.OF_WORD ∷ symbol.OPTIONS_WORD ∷ symbol.PRIMARY_WORD ∷ symbol.PROCEDURE_WORD ∷ symbol.RETURNS_WORD ∷ symbol.ROW_WORD ∷ symbol.SCHEMA_WORD ∷ symbol.SERVER_WORD ∷ symbol.TABLE_WORD ∷ symbol.TRIGGER_WORD ∷ symbol.TYPE_WORD ∷ symbol.USE_WORD ∷ symbol.VERSION_WORD ∷ symbol.VIEW_WORD ∷ symbol.VIRTUAL_WORD ∷ symbol.WRAPPER_WORD ∷ []

-- and as constants
abbrev pub constants : List ℕ
constants = symbol.NUMERAL ∷ symbol.FRACTION ∷ symbol.STRING ∷ symbol.TRUE ∷ symbol.FALSE ∷ symbol.NULL ∷ []

-- AS, ASC, INNER and OUTER are never printed
abbrev pub silent : ℕ → Bool
silent k = has (symbol.AS ∷ symbol.ASC ∷ symbol.INNER ∷ symbol.OUTER ∷ []) k

-- a token's kind in the grammar
abbrev pub kind : Source → Token → ℕ
kind s t = kind_of t.kind (bytes_of s.text t)

-- each name is printed in quotes
abbrev pub printed_kind : ℕ → ℕ
printed_kind k = if has names k then symbol.NAME else k

abbrev pub said_as : Source → Token → ℕ → Said
said_as s t k =
    if has names k then Named (name_of_token s t).text
    else if has constants k then constant_said (literal_of_token s t).constant (literal_of_token s t).whole
    else Word k

abbrev pub said_of : Source → Token → Said
said_of s t = said_as s t (kind s t)

abbrev pub all_said : Source → List Token → List Said
all_said s [] = []
all_said s (t ∷ ts) = said_of s t ∷ all_said s ts

-- the tokens that are printed
abbrev pub loud : Source → List Token → List Token
loud s [] = []
loud s (t ∷ ts) = if silent (kind s t) then loud s ts else t ∷ loud s ts

-- A token of another text says the same.
pub record Same (s : Source) (t : Token) (s' : Source) (t' : Token) : Type 0 where
  pub is_kind : kind s' t' ≡ printed_kind (kind s t)
  pub is_name : has names (kind s t) ≡ true → (name_of_token s' t').text ≡ (name_of_token s t).text
  pub is_constant : has constants (kind s t) ≡ true → (literal_of_token s' t').constant ≡ (literal_of_token s t).constant
  pub is_whole : has constants (kind s t) ≡ true → (literal_of_token s' t').whole ≡ (literal_of_token s t).whole
  pub is_negative : kind s t ≡ symbol.NUMERAL → negative (decimal 0 (bytes_of s'.text t')) ≡ negative (decimal 0 (bytes_of s.text t))

-- each says the same as the one at its place
abbrev pub AllSame : Source → List Token → Source → List Token → Type 0
AllSame s [] s' [] = Unit {0}
AllSame s [] s' (u ∷ us) = ⊥
AllSame s (t ∷ ts) s' [] = ⊥
AllSame s (t ∷ ts) s' (u ∷ us) = Same s t s' u × AllSame s ts s' us

-- Some tokens of a text that may stand in queries, spelled one after the other, are read as as many tokens that say the same.
abbrev pub SaidIsRead : Type 0
SaidIsRead = (text : List ℕ) (ts : List Token) → ((t : Token) → Among t ts → Among t (tokens_from 0 text))
    → ((t : Token) → Among t ts → (kind (source_of text) t ≡ symbol.NOWHERE → ⊥))
    → AllSame (source_of text) ts (source_of (spelled (all_said (source_of text) ts))) (tokens_from 0 (spelled (all_said (source_of text) ts)))
