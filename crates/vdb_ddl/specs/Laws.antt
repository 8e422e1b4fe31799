-- What holds of DDL texts: a text has items or a fault, and one alone, and each item builds one tree.
use Rattle.std.specs.Prelude.{ℕ, List, [], ◌∷◌, ◌≡◌}
use Rattle.grammar.specs.declared.machine.Event.{Event}
use Rattle.grammar.specs.Reading.{IsSentence}
use Rattle.sql_reader.specs.Source.{Source}
use Rattle.vdb_ddl.specs.declared.tree.Item.{Item}
use Rattle.vdb_ddl.specs.Build.{build}
use Rattle.vdb_ddl.specs.Items.{IsItems, IsFault}
use Rattle.vdb_ddl.specs.Symbols.{DDL_ITEM_RULE}
use Rattle.vdb_ddl.specs.Table.{table}
use Rattle.vdb_ddl.specs.Waiting.{none}

abbrev pub ItemsAlone : Type 0
ItemsAlone = (s : Source) (items others : List Item) → IsItems s items → IsItems s others → items ≡ others

abbrev pub FaultAlone : Type 0
FaultAlone = (s : Source) (at other : ℕ) → IsFault s at → IsFault s other → at ≡ other

abbrev pub NeverBoth : Type 0
NeverBoth = (s : Source) (items : List Item) (at : ℕ) → IsItems s items → IsFault s at → ⊥

-- The actions of every derivation of an item leave one tree, and no other part.
abbrev pub OneItemBuilt : Type 0
OneItemBuilt = (s : Source) (kinds : List ℕ) (log : List Event) → IsSentence table DDL_ITEM_RULE kinds log
    → (tree : Item) × (build s log none ≡ record none { items = tree ∷ [] })
