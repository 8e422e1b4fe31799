-- How items are read one after another.
use Rattle.std.specs.Prelude.{ℕ, true, List, [], ◌∷◌, ◌++◌, ◌≡◌, ◌+◌}
use Rattle.sql_reader.specs.Source.{Source}
use Rattle.vdb_ddl.specs.declared.tree.Item.{Item}
use Rattle.vdb_ddl.specs.Items.{IsItem, after, ends_at}

-- the item that a text begins with, so many tokens, is added to a list
pub record IsAdded (s : Source) (old new : List Item) (count : ℕ) : Type 0 where
  pub item : Item
  pub is : IsItem s item count
  pub added : new ≡ old ++ item ∷ []

-- and this is left after the `;`
pub record IsNext (s : Source) (old new : List Item) (rest : Source) : Type 0 where
  pub count : ℕ
  pub item : Item
  pub is : IsItem s item count
  pub end : ends_at s count ≡ true
  pub added : new ≡ old ++ item ∷ []
  pub left : rest ≡ after (count + 1) s
