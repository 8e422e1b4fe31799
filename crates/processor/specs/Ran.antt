-- What running a query over the rows of tables gives.
use Rattle.std.specs.Prelude.{◌≡◌, ℕ, true, List, [], slice_index_or}
use Rattle.vdb_model.specs.declared.bag.Bag.{Bag}
use Rattle.vdb_model.specs.declared.rel.Ranked.{Ranked}
use Rattle.vdb_model.specs.declared.rel.Rel.{Rel}
use Rattle.vdb_model.specs.Arranged.{Arranged}
use Rattle.vdb_model.specs.Relations.{no_bag, bag_of}
use Rattle.vdb_model.specs.Rows.{Cells}
use Rattle.processor.specs.Reads.{reads}

-- the rows of its relation, arranged as it asks
abbrev pub IsRun : List Bag → Cells → Ranked → List Cells → Type 0
IsRun tables vars q rows = Arranged q.keys q.offset q.limit (bag_of tables [] vars q.rel).rows rows

-- two lists of tables agree on those that a relation reads
abbrev pub AgreeOn : Rel → List Bag → List Bag → Type 0
AgreeOn rel some others = (table : ℕ) → reads table rel ≡ true → slice_index_or some table no_bag ≡ slice_index_or others table no_bag

-- other tables than those that are read make no difference
abbrev pub SameWhereRead : Type 0
SameWhereRead = (rel : Rel) (some others views : List Bag) (vars : Cells) → AgreeOn rel some others → bag_of some views vars rel ≡ bag_of others views vars rel
