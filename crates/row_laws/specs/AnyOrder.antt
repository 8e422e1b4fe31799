-- The order in which rows stand makes no difference.
use Rattle.std.specs.Prelude.{◌≡◌, ℕ, List, Option, IsPermutation}
use Rattle.std.specs.List.{AllZip}
use Rattle.vdb_model.specs.declared.rel.Key.{Key}
use Rattle.vdb_model.specs.declared.rel.Rel.{Rel}
use Rattle.vdb_model.specs.declared.bag.Bag.{Bag}
use Rattle.vdb_model.specs.Rows.{Cells}
use Rattle.vdb_model.specs.Relations.{bag_of, views_after}
use Rattle.vdb_model.specs.Defined.{Defined}
use Rattle.vdb_model.specs.World.{rows_in}
use Rattle.vdb_model.specs.Arranged.{Arranged}

-- the same width, and the same rows in any order
pub record SameBag (a b : Bag) : Type 0 where
  pub width : a.width ≡ b.width
  pub rows : IsPermutation a.rows b.rows

-- as many, and the same at each place
abbrev pub SameBags : List Bag → List Bag → Type 0
SameBags = AllZip SameBag

-- a relation over tables and views with the same rows has the same rows
abbrev pub RelationsInAnyOrder : Type 0
RelationsInAnyOrder = (rel : Rel) (tables others views other_views : List Bag) (vars : Cells) → SameBags tables others → SameBags views other_views
    → SameBag (bag_of tables views vars rel) (bag_of others other_views vars rel)

-- views over tables, and over views before them, with the same rows have the same rows
abbrev pub ViewsInAnyOrder : Type 0
ViewsInAnyOrder = (rels : List Rel) (tables others done other_done : List Bag) (vars : Cells) → SameBags tables others → SameBags done other_done
    → SameBags (views_after tables vars done rels) (views_after others vars other_done rels)

-- a relation of a catalog has the same rows in worlds whose tables have the same rows
abbrev pub WorldsInAnyOrder : Type 0
WorldsInAnyOrder = (cat : Defined) (world other : List (List Cells)) (vars : Cells) (rel : Rel) → AllZip IsPermutation world other
    → IsPermutation (rows_in cat world vars rel) (rows_in cat other vars rel)

-- a window of rows arranged by keys is one of the same rows in another order
abbrev pub AnswersInAnyOrder : Type 0
AnswersInAnyOrder = (keys : List Key) (offset : ℕ) (limit : Option ℕ) (rows other out : List Cells) → Arranged keys offset limit rows out → IsPermutation rows other
    → Arranged keys offset limit other out
