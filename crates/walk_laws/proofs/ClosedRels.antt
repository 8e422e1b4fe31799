-- Each kind of relation is closed over a catalog where its parts are, and so is a relation that a name means.
use Rattle.std.proofs.Common.{◌≡◌, ◌∙◌, ℕ, ◌+◌, Bool, true, false, if◌then◌else◌, List, [], ◌∷◌, ◌++◌, length, refl, arith}
use Rattle.std.specs.Prelude.{nat_lt}
use Rattle.std.specs.List.{AllByRecursion}
use Rattle.std.specs.Cmp.Derive.{both_true}
use Rattle.std.proofs.lemmas.Bool.Decides.{nat_tests}
use Rattle.vdb_model.specs.declared.catalog.ViewDef.{ViewDef}
use Rattle.vdb_model.specs.declared.expr.Expr.{Expr}
use Rattle.vdb_model.specs.declared.rel.Agg.{Agg}
use Rattle.vdb_model.specs.declared.rel.JoinKind.{JoinKind}
use Rattle.vdb_model.specs.declared.rel.Rel.{Rel}
use Rattle.vdb_model.specs.declared.rel.Rel.TheVariants as rel
use Rattle.vdb_model.specs.declared.table.TableDef.{TableDef}
use Rattle.vdb_model.specs.Closed.{all_true, is_closed, are_closed, are_closed_aggs}
use Rattle.vdb_model.specs.Defined.{Defined}
use Rattle.view_stack.specs.Parts.{named_each}
use Rattle.view_stack.proofs.NamedByKinds.{named-One, named-Table, named-View, named-Where, named-Select, named-Join, named-Group, named-Distinct, named-Union}
use Rattle.view_stack.proofs.UnreadByKinds.{unread_each, unread-One, unread-Table, unread-View, unread-Where, unread-Select, unread-Join, unread-Group, unread-Distinct, unread-Union}
use Rattle.sql_reader.specs.declared.tree.name.RelationName.{RelationName}
use Rattle.resolver.specs.declared.relation.Relation.{Relation}
use Rattle.walk_laws.specs.Closed.{IsClosedOver}
use Rattle.resolver.specs.Relations.{is_meant, of_table, of_view, tables_named, views_named, relation_of, rel_of, written_relation}
use Rattle.walk_laws.proofs.Gives.{gives_only, Gives, all_append}

module _ (defined : Defined) where
  abbrev count : ℕ
  count = length defined.views

  pub one_closed : IsClosedOver defined rel.One
  one_closed = record { views = named-One count; closed = unread-One }

  pub table_closed : (t : ℕ) → IsClosedOver defined (rel.Table t)
  table_closed t = record { views = named-Table count t; closed = unread-Table t }

  pub view_closed : (v : ℕ) → nat_lt v count ≡ true → IsClosedOver defined (rel.View v)
  view_closed v there = record { views = named-View count v ∙ there; closed = unread-View v }

  pub where_closed : (r : Rel) (e : Expr) → IsClosedOver defined r → is_closed e ≡ true → IsClosedOver defined (rel.Where r e)
  where_closed r e h k = record { views = named-Where count r e ∙ h.views; closed = unread-Where r e ∙ both_true h.closed k }

  pub select_closed : (r : Rel) (es : List Expr) → IsClosedOver defined r → are_closed es ≡ true → IsClosedOver defined (rel.Select r es)
  select_closed r es h k = record { views = named-Select count r es ∙ h.views; closed = unread-Select r es ∙ both_true h.closed k }

  pub join_closed : (kind : JoinKind) (l r : Rel) (on : Expr) → IsClosedOver defined l → IsClosedOver defined r → is_closed on ≡ true → IsClosedOver defined (rel.Join kind l r on)
  join_closed kind l r on h k i = record {
    views = named-Join count kind l r on ∙ both_true h.views k.views;
    closed = unread-Join kind l r on ∙ both_true (both_true h.closed k.closed) i;
  }

  pub group_closed : (r : Rel) (keys : List ℕ) (aggs : List Agg) → IsClosedOver defined r → are_closed_aggs aggs ≡ true → IsClosedOver defined (rel.Group r keys aggs)
  group_closed r keys aggs h k = record { views = named-Group count r keys aggs ∙ h.views; closed = unread-Group r keys aggs ∙ both_true h.closed k }

  pub distinct_closed : (r : Rel) → IsClosedOver defined r → IsClosedOver defined (rel.Distinct r)
  distinct_closed r h = record { views = named-Distinct count r ∙ h.views; closed = unread-Distinct r ∙ h.closed }

  parts_named : (rs : List Rel) → AllByRecursion (IsClosedOver defined) rs → all_true (named_each count rs) ≡ true
  parts_named [] all = refl
  parts_named (r ∷ rs) all = both_true all.0.views (parts_named rs all.1)

  parts_unread : (rs : List Rel) → AllByRecursion (IsClosedOver defined) rs → all_true (unread_each rs) ≡ true
  parts_unread [] all = refl
  parts_unread (r ∷ rs) all = both_true all.0.closed (parts_unread rs all.1)

  pub union_closed : (rs : List Rel) → AllByRecursion (IsClosedOver defined) rs → IsClosedOver defined (rel.Union rs)
  union_closed rs all = record { views = named-Union count rs ∙ parts_named rs all; closed = unread-Union rs ∙ parts_unread rs all }

  -- what it names is there
  abbrev pub IsThere : Relation → Type 0
  IsThere relation = IsClosedOver defined (rel_of relation.target)

  all_if : (b : Bool) (x : Relation) (xs : List Relation) → IsThere x → AllByRecursion IsThere xs → AllByRecursion IsThere (if b then x ∷ xs else xs)
  all_if true x xs h all = (h, all)
  all_if false x xs h all = all

  tables_there : (r : RelationName) (ds : List TableDef) → AllByRecursion IsThere (tables_named r ds)
  tables_there r [] = tt
  tables_there r (d ∷ ds) = all_if (is_meant r d.schema d.name) (of_table d) (tables_named r ds) (table_closed d.number) (tables_there r ds)

  views_there : (n : ℕ) (r : RelationName) (ds : List ViewDef) → n + length ds ≡ count → AllByRecursion IsThere (views_named n r ds)
  views_there n r [] all = tt
  views_there n r (d ∷ ds) all =
      let here : nat_lt n count ≡ true = grind (arith, nat_tests) in
      all_if (is_meant r d.schema d.name) (of_view n d) (views_named (n + 1) r ds) (view_closed n here) (views_there (n + 1) r ds (omega arith))

  pub relation_there : (r : RelationName) → Gives (relation_of defined r) IsThere
  relation_there r =
      gives_only IsThere (written_relation r) (tables_named r defined.tables ++ views_named 0 r defined.views)
      (all_append IsThere (tables_named r defined.tables) (views_named 0 r defined.views) (tables_there r defined.tables) (views_there 0 r defined.views (omega arith)))
