-- Relations of a catalog in worlds with the same rows, and what may be answered over them.
use Rattle.std.proofs.Common.{List, [], ◌∷◌, refl, IsPermutation}
use Rattle.std.specs.List.{AllZip}
use Rattle.std.proofs.lemmas.List.Sorted.{IsPermutation-sym, IsPermutation-trans}
use Rattle.vdb_model.specs.declared.table.TableDef.{TableDef}
use Rattle.vdb_model.specs.Rows.{Cells}
use Rattle.vdb_model.specs.World.{bags, view_rels}
use Rattle.row_laws.specs.AnyOrder.{SameBags, WorldsInAnyOrder, AnswersInAnyOrder}
use Rattle.row_laws.proofs.OfRelations.{relations_in_any_order, views_in_any_order}

same_tables : (defs : List TableDef) (world other : List (List Cells)) → AllZip IsPermutation world other → SameBags (bags defs world) (bags defs other)
same_tables [] world other h = tt
same_tables (d ∷ defs) [] [] h = tt
same_tables (d ∷ defs) [] (rows ∷ other) h = absurd h
same_tables (d ∷ defs) (rows ∷ world) [] h = absurd h
same_tables (d ∷ defs) (rows ∷ world) (more ∷ other) h = (record { width = refl; rows = h.0 }, same_tables defs world other h.1)

pub worlds_in_any_order : WorldsInAnyOrder
worlds_in_any_order cat world other vars rel h =
    let t = same_tables cat.tables world other h in
    let v = views_in_any_order (view_rels cat.views) _ _ [] [] [] t tt in
    (relations_in_any_order rel _ _ _ _ vars t v).rows

pub answers_in_any_order : AnswersInAnyOrder
answers_in_any_order keys offset limit rows other out a h = record {
  sorted = a.sorted;
  same = IsPermutation-trans other rows a.sorted (IsPermutation-sym rows other h) a.same;
  in_order = a.in_order;
  cut = a.cut;
}
