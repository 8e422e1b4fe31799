-- The parts of an item that wait for their place, of each kind the last one first.
use Rattle.std.specs.Prelude.{List, [], ◌∷◌}
use Rattle.sql_reader.specs.Waiting as sql
use Rattle.sql_reader.specs.Waiting.{made_of_two, made3, put_two}
use Rattle.vdb_ddl.specs.declared.tree.Item.{Item}
use Rattle.vdb_ddl.specs.declared.tree.Setting.{Setting}
use Rattle.vdb_ddl.specs.declared.tree.TablePart.{TablePart}
use Rattle.vdb_ddl.specs.declared.tree.ViewColumn.{ViewColumn}

-- names, literals and queries wait as in statements
pub record Waiting : Type 0 where
  pub sql : sql.Waiting
  pub settings : List (List Setting)
  pub table_parts : List (List TablePart)
  pub view_columns : List (List ViewColumn)
  pub items : List Item

abbrev pub none : Waiting
none = record { sql = sql.none; settings = []; table_parts = []; view_columns = []; items = [] }

-- one more, made of the last of one kind and the last two of another, in the order in which they are written
abbrev pub made_with_two : {A B Z : Type 0} → (A → B → B → Z) → List A → List B → List Z → List Z
made_with_two f [] ys zs = zs
made_with_two f (x ∷ xs) ys zs = made_of_two (f x) ys zs

-- made of the last of four kinds
abbrev pub made4 : {A B C D Z : Type 0} → (A → B → C → D → Z) → List A → List B → List C → List D → List Z → List Z
made4 f [] ys us vs zs = zs
made4 f (x ∷ xs) ys us vs zs = made3 (f x) ys us vs zs

-- the last of one kind and the last two of another put into the last of a third
abbrev pub put_with_two : {A B Z : Type 0} → (A → B → B → Z → Z) → List A → List B → List Z → List Z
put_with_two f [] ys zs = zs
put_with_two f (x ∷ xs) ys zs = put_two (f x) ys zs
