-- The parts of a tree that wait for their place, of each kind the last one first, and how one part is made of others.
use Rattle.std.specs.Prelude.{ℕ, List, [], ◌∷◌}
use Rattle.sql_reader.specs.declared.tree.name.Name.{Name}
use Rattle.sql_reader.specs.declared.tree.name.RelationName.{RelationName}
use Rattle.sql_reader.specs.declared.tree.name.ColumnName.{ColumnName}
use Rattle.sql_reader.specs.declared.tree.expr.Literal.{Literal}
use Rattle.sql_reader.specs.declared.tree.expr.Expr.{Expr}
use Rattle.sql_reader.specs.declared.tree.expr.Link.{Link}
use Rattle.sql_reader.specs.declared.tree.expr.Arm.{Arm}
use Rattle.sql_reader.specs.declared.tree.query.Select.{Select}
use Rattle.sql_reader.specs.declared.tree.query.SetQuery.{SetQuery}
use Rattle.sql_reader.specs.declared.tree.query.TableRef.{TableRef}
use Rattle.sql_reader.specs.declared.tree.query.Query.{Query}
use Rattle.sql_reader.specs.declared.tree.statement.Assignment.{Assignment}
use Rattle.sql_reader.specs.declared.tree.statement.Statement.{Statement}

pub record Waiting : Type 0 where
  pub places : List ℕ
  pub names : List Name
  pub literals : List Literal
  pub columns : List ColumnName
  pub relations : List RelationName
  pub exprs : List Expr
  pub lists : List (List Expr)
  pub links : List (List Link)
  pub arms : List (List Arm)
  pub selects : List Select
  pub sets : List SetQuery
  pub tables : List TableRef
  pub queries : List Query
  pub name_lists : List (List Name)
  pub assignments : List (List Assignment)
  pub statements : List Statement

abbrev pub none : Waiting
none = record { places = []; names = []; literals = []; columns = []; relations = []; exprs = []; lists = []; links = []; arms = []; selects = []; sets = []; tables = []; queries = []; name_lists = []; assignments = []; statements = [] }

-- all but the last
abbrev pub rest : {A : Type 0} → List A → List A
rest [] = []
rest (x ∷ xs) = xs

-- the last one changed
abbrev pub on : {A : Type 0} → (A → A) → List A → List A
on f [] = []
on f (x ∷ xs) = f x ∷ xs

-- one more, made of the last of another kind
abbrev pub made : {A Z : Type 0} → (A → Z) → List A → List Z → List Z
made f [] zs = zs
made f (x ∷ xs) zs = f x ∷ zs

-- made of the last of two kinds
abbrev pub made2 : {A B Z : Type 0} → (A → B → Z) → List A → List B → List Z → List Z
made2 f [] ys zs = zs
made2 f (x ∷ xs) ys zs = made (f x) ys zs

-- made of the last of three kinds
abbrev pub made3 : {A B C Z : Type 0} → (A → B → C → Z) → List A → List B → List C → List Z → List Z
made3 f [] ys ws zs = zs
made3 f (x ∷ xs) ys ws zs = made2 (f x) ys ws zs

-- made of the last two, in the order in which they are written
abbrev pub made_of_two : {A Z : Type 0} → (A → A → Z) → List A → List Z → List Z
made_of_two f [] zs = zs
made_of_two f (y ∷ xs) zs = made (λ x. f x y) xs zs

-- made of the last three
abbrev pub made_of_three : {A Z : Type 0} → (A → A → A → Z) → List A → List Z → List Z
made_of_three f [] zs = zs
made_of_three f (z ∷ xs) zs = made_of_two (λ x y. f x y z) xs zs

-- the last of one kind put into the last of another
abbrev pub put : {A Z : Type 0} → (A → Z → Z) → List A → List Z → List Z
put f [] zs = zs
put f (x ∷ xs) zs = on (f x) zs

-- the last of two kinds put into the last of a third
abbrev pub put2 : {A B Z : Type 0} → (A → B → Z → Z) → List A → List B → List Z → List Z
put2 f [] ys zs = zs
put2 f (x ∷ xs) ys zs = put (f x) ys zs

-- the last two of one kind put into the last of another
abbrev pub put_two : {A Z : Type 0} → (A → A → Z → Z) → List A → List Z → List Z
put_two f [] zs = zs
put_two f (y ∷ xs) zs = put (λ x. f x y) xs zs

-- the last two made one
abbrev pub joined : {A : Type 0} → (A → A → A) → List A → List A
joined f [] = []
joined f (y ∷ xs) = on (λ x. f x y) xs

-- the last three made one
abbrev pub joined3 : {A : Type 0} → (A → A → A → A) → List A → List A
joined3 f [] = []
joined3 f (z ∷ xs) = joined (λ x y. f x y z) xs

-- with the last of another kind
abbrev pub with : {A Z : Type 0} → (A → List Z → List Z) → List A → List Z → List Z
with f [] zs = zs
with f (x ∷ xs) zs = f x zs
