-- Relations and views over tables and views with the same rows.
use Rattle.std.proofs.Common.{◌≡◌, ◌+◌, List, [], ◌∷◌, refl, sym, subst}
use Rattle.std.specs.List.{AllByRecursion}
use Rattle.std.proofs.lemmas.List.Elements.{AllZip-push}
use Rattle.vdb_model.specs.declared.expr.Expr.{Expr}
use Rattle.vdb_model.specs.declared.rel.JoinKind.{JoinKind}
use Rattle.vdb_model.specs.declared.bag.Bag.{Bag}
use Rattle.vdb_model.specs.declared.rel.Rel.{Rel}
use Rattle.vdb_model.specs.declared.rel.Rel.TheVariants.{Union}
use Rattle.vdb_model.specs.Rows.{Cells, join_rows}
use Rattle.vdb_model.specs.Relations.{bag_of, bags_of}
use Rattle.vdb_model.proofs.Bags.{bag-One, bag-Table, bag-View, bag-Where, bag-Select, bag-Join, bag-Group, bag-Distinct, bag-Union}
use Rattle.vdb_model.proofs.RelByKinds.{rel_by_kinds}
use Rattle.vdb_model.proofs.SameRows.{Same, same_where, same_select, same_join}
use Rattle.vdb_model.proofs.SameDistinct.{same_distinct}
use Rattle.row_laws.specs.AnyOrder.{SameBag, SameBags, RelationsInAnyOrder, ViewsInAnyOrder}
use Rattle.row_laws.proofs.Groups.{same_groups}
use Rattle.row_laws.proofs.Unions.{same_itself, same_at, same_width, same_union}

-- along equations of both sides
along_both : (a b c d : Bag) → a ≡ c → b ≡ d → SameBag c d → SameBag a b
along_both a b c d e f h = subst (λ z. SameBag z b) (sym e) (subst (SameBag c) (sym f) h)

module _ (tables others views other_views : List Bag) (vars : Cells) (t : SameBags tables others) (v : SameBags views other_views) where
  abbrev bag : Rel → Bag
  bag rel = bag_of tables views vars rel

  abbrev other : Rel → Bag
  other rel = bag_of others other_views vars rel

  abbrev P : Rel → Type 0
  P rel = SameBag (bag rel) (other rel)

  same_each : (rels : List Rel) → AllByRecursion P rels → SameBags (bags_of tables views vars rels) (bags_of others other_views vars rels)
  same_each [] h = tt
  same_each (rel ∷ rels) h = (h.0, same_each rels h.1)

  same_union_of : (rels : List Rel) → AllByRecursion P rels → P (Union rels)
  same_union_of rels h =
      let each = same_each rels h in
      along_both _ _ _ _ (bag-Union tables views vars rels) (bag-Union others other_views vars rels)
      (record { width = same_width _ _ each; rows = same_union _ _ each })

  joined : (a b c d : Bag) → SameBag a b → SameBag c d → (kind : JoinKind) (on : Expr) → Same (join_rows kind c.width on vars a.rows c.rows) (join_rows kind d.width on vars b.rows d.rows)
  joined a b c d h k kind on = subst (λ n. Same (join_rows kind c.width on vars a.rows c.rows) (join_rows kind n on vars b.rows d.rows)) k.width (same_join kind c.width on vars a.rows b.rows c.rows d.rows h.rows k.rows)

  pub same_relation : (rel : Rel) → P rel
  same_relation = rel_by_kinds P (record {
    onOne = along_both _ _ _ _ (bag-One tables views vars) (bag-One others other_views vars) (same_itself _);
    onTable = λ i. along_both _ _ _ _ (bag-Table tables views vars i) (bag-Table others other_views vars i) (same_at tables others t i);
    onView = λ i. along_both _ _ _ _ (bag-View tables views vars i) (bag-View others other_views vars i) (same_at views other_views v i);
    onWhere = λ r e h. along_both _ _ _ _ (bag-Where tables views vars r e) (bag-Where others other_views vars r e)
        (record { width = h.width; rows = same_where e vars _ _ h.rows });
    onSelect = λ r es h. along_both _ _ _ _ (bag-Select tables views vars r es) (bag-Select others other_views vars r es)
        (record { width = refl; rows = same_select es vars _ _ h.rows });
    onJoin = λ kind l r on h k. along_both _ _ _ _ (bag-Join tables views vars kind l r on) (bag-Join others other_views vars kind l r on)
        (record { width = λ i. h.width i + k.width i; rows = joined (bag l) (other l) (bag r) (other r) h k kind on });
    onGroup = λ r keys aggs h. along_both _ _ _ _ (bag-Group tables views vars r keys aggs) (bag-Group others other_views vars r keys aggs)
        (record { width = refl; rows = same_groups keys aggs vars _ _ h.rows });
    onDistinct = λ r h. along_both _ _ _ _ (bag-Distinct tables views vars r) (bag-Distinct others other_views vars r)
        (record { width = h.width; rows = same_distinct _ _ h.rows });
    onUnion = same_union_of;
  })

pub relations_in_any_order : RelationsInAnyOrder
relations_in_any_order rel tables others views other_views vars t v = same_relation tables others views other_views vars t v rel

pub views_in_any_order : ViewsInAnyOrder
views_in_any_order [] tables others done other_done vars t d = d
views_in_any_order (rel ∷ rels) tables others done other_done vars t d =
    views_in_any_order rels tables others _ _ vars t
    (AllZip-push SameBag done other_done _ _ d (relations_in_any_order rel tables others done other_done vars t d))
