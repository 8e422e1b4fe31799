-- The rows of a query over fetched tables are its rows in the world that the lanes show.
use Rattle.std.proofs.Common.{◌≡◌, ℕ, zero, suc, ◌<◌, Bool, true, false, List, [], ◌∷◌, Option, Some, None, length, slice_index_or, IsPermutation, refl, sym, subst, arith}
use Rattle.std.proofs.lemmas.List.Sorted.{IsPermutation-refl, IsPermutation-sym}
use Rattle.std.specs.Prelude.{IfSome}
use Rattle.std.specs.Option.{option_map}
use Rattle.vdb_model.specs.declared.bag.Bag.{Bag}
use Rattle.vdb_model.specs.declared.rel.Ranked.{Ranked}
use Rattle.vdb_model.specs.declared.rel.Rel.{Rel}
use Rattle.vdb_model.specs.declared.table.TableDef.{TableDef}
use Rattle.vdb_model.specs.Arranged.{Arranged}
use Rattle.vdb_model.specs.Defined.{Defined}
use Rattle.vdb_model.specs.Defs.{no_table}
use Rattle.vdb_model.specs.Relations.{no_bag, bag_of, views_after}
use Rattle.vdb_model.specs.Rows.{Cells}
use Rattle.vdb_model.specs.World.{bags, rows_in, view_rels}
use Rattle.processor.specs.Reads.{mark}
use Rattle.processor.proofs.SameWhereRead.{same_where_read}
use Rattle.resource.specs.declared.lane.Lane.{Lane}
use Rattle.resource.specs.Told.{Told}
use Rattle.row_laws.specs.AnyOrder.{SameBag, SameBags}
use Rattle.row_laws.proofs.OfRelations.{relations_in_any_order}
use Rattle.row_laws.proofs.OfWorlds.{answers_in_any_order}
use Rattle.view_stack.specs.Expansion.{HasRowsOf}
use Rattle.vdb_session.specs.Fetching.{IsFetched, AreFetched}
use Rattle.vdb_session.specs.Querying.{AreMarked, AreRowsOf}
use Rattle.vdb_session.specs.Shown.{rows_of_table, with_rows, rows_of_tables, world_by, server_shows, sees}

-- the first rows and the rest of the rows of tables that are all shown
record Split (f : List (List Cells) → List Cells) (shown : Option (List (List Cells))) (more : Option (List (List Cells))) (w : List (List Cells)) : Type 0 where
  pub first : List (List Cells)
  pub rest : List (List Cells)
  pub shown_is : shown ≡ Some first
  pub more_is : more ≡ Some rest
  pub whole : w ≡ f first ∷ rest

split : (f : List (List Cells) → List Cells) (shown more : Option (List (List Cells))) (w : List (List Cells)) → with_rows (option_map f shown) more ≡ Some w → Split f shown more w
split f None more w e = let wrong : None ≡ Some w = e in cc
split f (Some s) None w e = let wrong : None ≡ Some w = e in cc
split f (Some s) (Some rest) w e = let same : Some (f s ∷ rest) ≡ Some w = e in record { first = s; rest = rest; shown_is = refl; more_is = refl; whole = cc }

-- the world's tables, with those that are marked as they were fetched
record Mixed (world fetched : List Bag) (marked : ℕ → Bool) : Type 0 where
  pub tables : List Bag
  pub same : SameBags world tables
  pub agree : (n : ℕ) → (n < length fetched → marked n ≡ true) → slice_index_or tables n no_bag ≡ slice_index_or fetched n no_bag

some_at : {X : Type 0} (o : Option X) (P : X → Type 0) (x : X) → o ≡ Some x → IfSome o P → P x
some_at None P x e h = cc
some_at (Some y) P x e h = let same : y ≡ x = cc in subst P same h

-- one table more
mixed_more : (d : TableDef) (rows : List Cells) (bag : Bag) (world fetched : List Bag) (marked : ℕ → Bool) (b : Bool) → marked 0 ≡ b → (marked 0 ≡ true → SameBag (record { width = length d.columns; rows = rows }) bag)
    → Mixed world fetched (λ n. marked (suc n)) → Mixed (record { width = length d.columns; rows = rows } ∷ world) (bag ∷ fetched) marked
mixed_more d rows bag world fetched marked true m here more = record {
  tables = bag ∷ more.tables;
  same = (here m, more.same);
  agree = agrees;
}
  where
    agrees : (n : ℕ) → (n < suc (length fetched) → marked n ≡ true) → slice_index_or (bag ∷ more.tables) n no_bag ≡ slice_index_or (bag ∷ fetched) n no_bag
    agrees zero h = refl
    agrees (suc n) h = more.agree n (λ lt. h (omega (arith, lt)))
mixed_more d rows bag world fetched marked false m here more = record {
  tables = record { width = length d.columns; rows = rows } ∷ more.tables;
  same = (record { width = refl; rows = IsPermutation-refl rows }, more.same);
  agree = agrees;
}
  where
    agrees : (n : ℕ) → (n < suc (length fetched) → marked n ≡ true) → slice_index_or (record { width = length d.columns; rows = rows } ∷ more.tables) n no_bag ≡ slice_index_or (bag ∷ fetched) n no_bag
    agrees zero h = let set : marked 0 ≡ true = h (omega arith) in cc
    agrees (suc n) h = more.agree n (λ lt. h (omega (arith, lt)))

same_bag : {S : Type 0} (told : S → Told) (cat : Defined) (lanes : List (Lane S)) (d : TableDef) (bag : Bag) (shown : List (List Cells)) → server_shows (sees told) cat lanes d.server ≡ Some shown
    → IsFetched told cat lanes d bag → SameBag (record { width = length d.columns; rows = rows_of_table cat d shown }) bag
same_bag told cat lanes d bag shown e h = record {
  width = sym h.width;
  rows = some_at (server_shows (sees told) cat lanes d.server) (λ shown. IsPermutation (rows_of_table cat d shown) bag.rows) shown e h.rows;
}

mixed : {S : Type 0} (told : S → Told) (cat : Defined) (lanes : List (Lane S)) (ds : List TableDef) (w : List (List Cells)) (fetched : List Bag) (marked : ℕ → Bool)
    → rows_of_tables (sees told) cat lanes ds ≡ Some w → length fetched ≡ length ds
    → ((n : ℕ) → n < length ds → marked n ≡ true → IsFetched told cat lanes (slice_index_or ds n no_table) (slice_index_or fetched n no_bag)) → Mixed (bags ds w) fetched marked
mixed told cat lanes [] w [] marked e c each = record { tables = []; same = tt; agree = λ n h. refl }
mixed told cat lanes [] w (bag ∷ fetched) marked e c each = absurd (omega arith)
mixed told cat lanes (d ∷ ds) w [] marked e c each = absurd (omega arith)
mixed told cat lanes (d ∷ ds) w (bag ∷ fetched) marked e c each =
    let s = split (rows_of_table cat d) (server_shows (sees told) cat lanes d.server) (rows_of_tables (sees told) cat lanes ds) w e in
    let c2 : length fetched ≡ length ds = omega arith in
    let rest = mixed told cat lanes ds s.rest fetched (λ n. marked (suc n)) s.more_is c2 (λ n h m. each (suc n) (omega (arith, h)) m) in
    subst (λ w. Mixed (bags (d ∷ ds) w) (bag ∷ fetched) marked) (sym s.whole)
    (mixed_more d (rows_of_table cat d s.first) bag (bags ds s.rest) fetched marked (marked 0) refl (λ m. same_bag told cat lanes d bag s.first s.shown_is (each 0 (omega arith) m)) rest)

in_world : (cat : Defined) (q : Ranked) (made : Rel) (marks : List Bool) (fetched : List Bag) (w : List (List Cells)) (rows : List Cells) → HasRowsOf cat q.rel made
    → AreMarked made (length fetched) marks → Mixed (bags cat.tables w) fetched (mark marks) → Arranged q.keys q.offset q.limit (bag_of fetched [] [] made).rows rows
    → Arranged q.keys q.offset q.limit (rows_in cat w [] q.rel) rows
in_world cat q made marks fetched w rows x m mix a =
    let world = bags cat.tables w in
    let read : bag_of mix.tables [] [] made ≡ bag_of fetched [] [] made = same_where_read made mix.tables fetched [] [] (λ n r. mix.agree n (λ lt. m.each n lt r)) in
    let order : SameBag (bag_of world [] [] made) (bag_of mix.tables [] [] made) = relations_in_any_order made world mix.tables [] [] [] mix.same tt in
    let expanded : bag_of world [] [] made ≡ bag_of world (views_after world [] [] (view_rels cat.views)) [] q.rel = x world [] [] in
    let same : IsPermutation (bag_of world [] [] made).rows (bag_of fetched [] [] made).rows = subst (λ (b : Bag). IsPermutation (bag_of world [] [] made).rows b.rows) read order.rows in
    let there = answers_in_any_order q.keys q.offset q.limit (bag_of fetched [] [] made).rows (bag_of world [] [] made).rows rows a (IsPermutation-sym _ _ same) in
    subst (λ (b : Bag). Arranged q.keys q.offset q.limit b.rows rows) expanded there

where_told : {X : Type 0} (o : Option X) (P : X → Type 0) → ((x : X) → o ≡ Some x → P x) → IfSome o P
where_told None P h = tt
where_told (Some x) P h = h x refl

pub are_rows_of : {S : Type 0} (told : S → Told) (cat : Defined) (lanes : List (Lane S)) (q : Ranked) (made : Rel) (marks : List Bool) (fetched : List Bag) (rows : List Cells)
    → HasRowsOf cat q.rel made → AreMarked made (length cat.tables) marks → AreFetched told cat lanes marks fetched → Arranged q.keys q.offset q.limit (bag_of fetched [] [] made).rows rows
    → AreRowsOf told cat lanes q rows
are_rows_of told cat lanes q made marks fetched rows x m f a =
    where_told (world_by (sees told) cat lanes) (λ w. Arranged q.keys q.offset q.limit (rows_in cat w [] q.rel) rows)
    (λ w e. in_world cat q made marks fetched w rows x (subst (λ n. AreMarked made n marks) (sym f.count) m) (mixed told cat lanes cat.tables w fetched (mark marks) e f.count f.each) a)
