-- Tables that a relation doesn't read make no difference to its rows.
use Rattle.std.proofs.Common.{◌≡◌, ◌∙◌, Bool, true, false, ◌||◌, List, [], ◌∷◌, ℕ, refl, slice_index_or}
use Rattle.std.specs.List.{AllByRecursion}
use Rattle.std.proofs.lemmas.Bool.{eq-eqb}
use Rattle.vdb_model.specs.declared.bag.Bag.{Bag}
use Rattle.vdb_model.specs.declared.rel.Rel.{Rel}
use Rattle.vdb_model.specs.Relations.{no_bag, bag_of, bags_of}
use Rattle.vdb_model.specs.Rows.{Cells}
use Rattle.vdb_model.proofs.Bags.{bag-One, bag-Table, bag-View, bag-Where, bag-Select, bag-Join, bag-Group, bag-Distinct, bag-Union}
use Rattle.vdb_model.proofs.RelByKinds.{rel_by_kinds}
use Rattle.processor.specs.Ran.{AgreeOn}
use Rattle.processor.specs.Reads.{any_true, reads, reads_each}
use Rattle.processor.proofs.ReadsByKinds.{reads-Table, reads-Where, reads-Select, reads-Join, reads-Group, reads-Distinct, reads-Union}

left_or : (a b : Bool) → a ≡ true → (a || b) ≡ true
left_or true b is = refl
left_or false b is = absurd (cc is)

right_or : (a b : Bool) → b ≡ true → (a || b) ≡ true
right_or true b is = refl
right_or false b is = is

module _ (some others views : List Bag) (vars : Cells) where
  abbrev of_some : Rel → Bag
  of_some r = bag_of some views vars r

  abbrev of_others : Rel → Bag
  of_others r = bag_of others views vars r

  abbrev SameBag : Rel → Type 0
  SameBag r = AgreeOn r some others → of_some r ≡ of_others r

  abbrev AgreeOnAll : List Rel → Type 0
  AgreeOnAll rs = (table : ℕ) → any_true (reads_each table rs) ≡ true → slice_index_or some table no_bag ≡ slice_index_or others table no_bag

  parts : (rs : List Rel) → AllByRecursion SameBag rs → AgreeOnAll rs → bags_of some views vars rs ≡ bags_of others views vars rs
  parts [] all agree = refl
  parts (r ∷ rs) all agree = cc (
    all.0 (λ table is. agree table (left_or (reads table r) (any_true (reads_each table rs)) is)),
    parts rs all.1 (λ table is. agree table (right_or (reads table r) (any_true (reads_each table rs)) is)),
  )

  same_bag : (r : Rel) → SameBag r
  same_bag = rel_by_kinds SameBag (record {
    onOne = λ agree. cc (bag-One some views vars, bag-One others views vars);
    onTable = λ t agree. cc (bag-Table some views vars t, bag-Table others views vars t, agree t (reads-Table t t ∙ eq-eqb t t refl));
    onView = λ v agree. cc (bag-View some views vars v, bag-View others views vars v);
    onWhere = λ r e is agree. cc (bag-Where some views vars r e, bag-Where others views vars r e, is (λ table read. agree table (reads-Where table r e ∙ read)));
    onSelect = λ r es is agree. cc (bag-Select some views vars r es, bag-Select others views vars r es, is (λ table read. agree table (reads-Select table r es ∙ read)));
    onJoin = λ kind l r on is too agree. cc (
      bag-Join some views vars kind l r on,
      bag-Join others views vars kind l r on,
      is (λ table read. agree table (reads-Join table kind l r on ∙ left_or (reads table l) (reads table r) read)),
      too (λ table read. agree table (reads-Join table kind l r on ∙ right_or (reads table l) (reads table r) read)),
    );
    onGroup = λ r keys aggs is agree. cc (bag-Group some views vars r keys aggs, bag-Group others views vars r keys aggs, is (λ table read. agree table (reads-Group table r keys aggs ∙ read)));
    onDistinct = λ r is agree. cc (bag-Distinct some views vars r, bag-Distinct others views vars r, is (λ table read. agree table (reads-Distinct table r ∙ read)));
    onUnion = λ rs is agree. cc (bag-Union some views vars rs, bag-Union others views vars rs, parts rs is (λ table read. agree table (reads-Union table rs ∙ read)));
  })

pub same_where_read : (rel : Rel) (some others views : List Bag) (vars : Cells) → AgreeOn rel some others → bag_of some views vars rel ≡ bag_of others views vars rel
same_where_read rel some others views vars = same_bag some others views vars rel
