-- The items of a DDL text in turn, and the place of its first fault.
use Rattle.std.specs.Prelude.{ℕ, Bool, true, false, List, [], ◌∷◌, ◌≡◌, ◌+◌, ◌<◌, ◌≤◌, ◌==◌, length, take, drop, slice_get, Option, Some, None}
use Rattle.grammar.specs.declared.machine.Event.{Event}
use Rattle.grammar.specs.Reading.{IsReading, IsFront, IsNone}
use Rattle.sql_reader.specs.Source.{Source}
use Rattle.sql_reader.specs.Symbols.{SEMICOLON}
use Rattle.sql_reader.specs.Trees.{kinds, place_of, source_of}
use Rattle.vdb_ddl.specs.declared.tree.Item.{Item}
use Rattle.vdb_ddl.specs.Build.{build}
use Rattle.vdb_ddl.specs.Symbols.{DDL_ITEM_RULE}
use Rattle.vdb_ddl.specs.Table.{table}
use Rattle.vdb_ddl.specs.Waiting.{none}

-- a text without so many of its first tokens
abbrev pub after : ℕ → Source → Source
after n s = record s { tokens = drop n s.tokens }

-- A text has tokens, the longest front that begins an item, so many of them, is one, and its reading's actions build this tree
-- alone.
pub record IsItem (s : Source) (item : Item) (count : ℕ) : Type 0 where
  pub some : 0 < length s.tokens
  pub log : List Event
  pub longest : IsFront table DDL_ITEM_RULE (kinds s) count
  pub reading : IsReading table DDL_ITEM_RULE (take count (kinds s)) log
  pub built : build s log none ≡ record none { items = item ∷ [] }

-- A text has tokens, and the longest front that begins an item is none.
pub record IsNoItem (s : Source) (count : ℕ) : Type 0 where
  pub some : 0 < length s.tokens
  pub longest : IsFront table DDL_ITEM_RULE (kinds s) count
  pub none : IsNone table DDL_ITEM_RULE (take count (kinds s))

-- an item ends before a `;` and where its text ends
abbrev pub is_end : Option ℕ → Bool
is_end None = true
is_end (Some kind) = kind == SEMICOLON

abbrev pub ends_at : Source → ℕ → Bool
ends_at s n = is_end (slice_get (kinds s) n)

-- A text is these items in turn, each with a `;` after it, which the last one may lack.
pub data IsItems : Source → List Item → Type 0 where
  no_more : {s : Source} → s.tokens ≡ [] → IsItems s []
  and_then : {s : Source} {item : Item} {items : List Item} → (count : ℕ) → IsItem s item count → ends_at s count ≡ true
      → IsItems (after (count + 1) s) items → IsItems s (item ∷ items)

-- A text's first fault: the token with which no item goes on, or that stands after an item and is no `;`, or the text's end.
pub data IsFault : Source → ℕ → Type 0 where
  no_item : {s : Source} {at : ℕ} → (count : ℕ) → IsNoItem s count → at ≡ place_of s count → IsFault s at
  no_end : {s : Source} {at : ℕ} → (count : ℕ) (item : Item) → IsItem s item count → ends_at s count ≡ false → at ≡ place_of s count
      → IsFault s at
  later : {s : Source} {at : ℕ} → (count : ℕ) (item : Item) → IsItem s item count → ends_at s count ≡ true
      → IsFault (after (count + 1) s) at → IsFault s at

-- how many bytes a DDL text may have
abbrev pub max_bytes : ℕ
max_bytes = 4194304

-- A DDL text is these items.
pub record IsDdl (text : List ℕ) (items : List Item) : Type 0 where
  pub short : length text ≤ max_bytes
  pub all : IsItems (source_of text) items

-- A DDL text is refused at its first fault or, where it is too long and has none before, at the limit.
pub data IsRefused (text : List ℕ) (at : ℕ) : Type 0 where
  at_fault : IsFault (source_of text) at → at ≤ max_bytes → IsRefused text at
  at_limit : max_bytes < length text → ((other : ℕ) → IsFault (source_of text) other → max_bytes ≤ other) → at ≡ max_bytes → IsRefused text at
