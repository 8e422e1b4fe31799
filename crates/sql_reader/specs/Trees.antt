-- The trees of texts, and the places of their faults.
use Rattle.std.specs.Prelude.{ℕ, List, [], ◌∷◌, ◌≡◌, ◌+◌, ◌-◌, length, take, drop, Result, Ok, Err, slice_get, Option, Some, None}
use Rattle.grammar.specs.declared.machine.Event.{Event}
use Rattle.grammar.specs.declared.reader.Front.{Front}
use Rattle.grammar.specs.Reading.{IsSentence, IsReading, IsNone, IsFront}
use Rattle.sql_tokens.specs.declared.token.Token.{Token}
use Rattle.sql_reader.specs.declared.read.ReadFault.{ReadFault}
use Rattle.sql_reader.specs.declared.read.ReadFault.TheVariants.{Syntax, Memory}
use Rattle.sql_reader.specs.declared.read.SetRead.{SetRead}
use Rattle.sql_reader.specs.declared.tree.query.Query.{Query}
use Rattle.sql_reader.specs.declared.tree.statement.Statement.{Statement}
use Rattle.sql_reader.specs.Build.{build}
use Rattle.sql_reader.specs.Kinds.{kinds_of}
use Rattle.sql_reader.specs.Source.{Source}
use Rattle.sql_reader.specs.Symbols.{STATEMENT_RULE, SET_ONLY_RULE}
use Rattle.sql_reader.specs.Table.{table}
use Rattle.sql_tokens.specs.Tokens.{tokens_from}
use Rattle.sql_reader.specs.Waiting.{Waiting, none}

abbrev pub source_of : List ℕ → Source
source_of text = record { text = text; tokens = tokens_from 0 text }

abbrev pub kinds : Source → List ℕ
kinds s = kinds_of s.text s.tokens

-- the actions of the reading of all tokens leave these parts
abbrev pub Builds : Source → ℕ → Waiting → Type 0
Builds s start w = (log : List Event) × IsReading table start (kinds s) log × (w ≡ build s log none)

-- the text's tokens are a statement, and this tree alone is built
abbrev pub IsStatement : List ℕ → Statement → Type 0
IsStatement text tree = Builds (source_of text) STATEMENT_RULE (record none { statements = tree ∷ [] })

-- the place of a token by its number, or the end of the text
abbrev pub start_or : ℕ → Option Token → ℕ
start_or size None = size
start_or size (Some t) = t.start

abbrev pub place_of : Source → ℕ → ℕ
place_of s n = start_or (length s.text) (slice_get s.tokens n)

-- The tokens are no text of the grammar: those before the place begin one, and with the token at the place they begin none.
pub record IsFaultAt (s : Source) (start : ℕ) (at : ℕ) : Type 0 where
  pub token : ℕ
  pub front : IsFront table start (kinds s) token
  pub none : IsNone table start (kinds s)
  pub place : at ≡ place_of s token

-- where a fault has a place
abbrev pub AtSyntax : ReadFault → (ℕ → Type 0) → Type 0
AtSyntax (Syntax at) P = P at
AtSyntax Memory P = Unit {0}

-- where a reader answers with a place
abbrev pub IfSyntax : {A : Type 0} → Result A ReadFault → (ℕ → Type 0) → Type 0
IfSyntax (Ok x) P = Unit {0}
IfSyntax (Err fault) P = AtSyntax fault P

-- The actions of every sentence leave one tree, and no other part.
abbrev pub OneStatementBuilt : Type 0
OneStatementBuilt = (s : Source) (kinds : List ℕ) (log : List Event) → IsSentence table STATEMENT_RULE kinds log
    → (tree : Statement) × (build s log none ≡ record none { statements = tree ∷ [] })

-- the tokens from a number on
abbrev pub left_of : Source → ℕ → Source
left_of s from = record s { tokens = drop from s.tokens }

-- and up to another
abbrev pub part_of : Source → ℕ → ℕ → Source
part_of s from until = record s { tokens = take (until - from) (drop from s.tokens) }

-- the longest front of these tokens that begins a query without an order is one
pub record IsFrontOf (part : Source) (front : Front) : Type 0 where
  pub longest : IsFront table SET_ONLY_RULE (kinds part) front.next
  pub reading : IsReading table SET_ONLY_RULE (take front.next (kinds part)) front.log.items

-- it is none, and ends before the place, among the tokens that are left
pub record IsNoFrontOf (left part : Source) (at : ℕ) : Type 0 where
  pub count : ℕ
  pub longest : IsFront table SET_ONLY_RULE (kinds part) count
  pub none : IsNone table SET_ONLY_RULE (take count (kinds part))
  pub place : at ≡ place_of left count

-- The longest front of these tokens that begins a query without an order, so many tokens, is one, and this tree is built.
pub record IsFrontSet (s : Source) (from until : ℕ) (read : SetRead) : Type 0 where
  pub front : Front
  pub is : IsFrontOf (part_of s from until) front
  pub built : build (part_of s from until) front.log.items none ≡ record none { queries = read.query ∷ [] }
  pub next : read.next ≡ from + front.next

-- The longest front is none, and ends before the place.
abbrev pub IsNoFrontAt : Source → ℕ → ℕ → ℕ → Type 0
IsNoFrontAt s from until at = IsNoFrontOf (left_of s from) (part_of s from until) at

-- The actions of every sentence leave one query, and no other part.
abbrev pub OneQueryBuilt : Type 0
OneQueryBuilt = (s : Source) (kinds : List ℕ) (log : List Event) → IsSentence table SET_ONLY_RULE kinds log
    → (tree : Query) × (build s log none ≡ record none { queries = tree ∷ [] })

-- All derivations of a text from the symbol have one log: no tree is chosen among several.
abbrev pub OneLog : ℕ → Type 0
OneLog start = (kinds : List ℕ) (log other : List Event) → IsSentence table start kinds log → IsSentence table start kinds other → log ≡ other
