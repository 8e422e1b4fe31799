-- What a select gives is closed over the catalog where its FROM is, and so is a chain of selects.
use Rattle.std.proofs.Common.{◌≡◌, ℕ, ◌==◌, Bool, true, false, List, [], ◌∷◌, length, Option, Some, None, refl}
use Rattle.std.specs.List.{AllByRecursion}
use Rattle.vdb_model.specs.declared.rel.Agg.{Agg}
use Rattle.vdb_model.specs.declared.rel.Rel.{Rel}
use Rattle.vdb_model.specs.declared.rel.Rel.TheVariants as rel
use Rattle.vdb_model.specs.declared.reply.Refusal.TheVariants.{Mismatch}
use Rattle.vdb_model.specs.Closed.{are_closed_aggs}
use Rattle.vdb_model.specs.Defined.{Defined}
use Rattle.sql_reader.specs.declared.tree.expr.Expr.{Expr}
use Rattle.sql_reader.specs.declared.tree.name.ColumnName.{ColumnName}
use Rattle.sql_reader.specs.declared.tree.query.SelectItem.{SelectItem}
use Rattle.expr_resolver.specs.declared.known.Known.{Known}
use Rattle.expr_resolver.specs.declared.scope.Names.{Names}
use Rattle.expr_resolver.specs.declared.scope.Over.{Over}
use Rattle.expr_resolver.specs.declared.scope.Over.TheVariants.{Rows, Groups}
use Rattle.resolver.specs.declared.selected.Chosen.{Chosen}
use Rattle.resolver.specs.declared.selected.Selected.{Selected}
use Rattle.resolver.specs.declared.selected.Source.{Source}
use Rattle.resolver.specs.From.{TablePart}
use Rattle.resolver.specs.Items.{exprs_of}
use Rattle.walk_laws.specs.Closed.{IsClosedOver}
use Rattle.resolver.specs.Selects.{filtered, keys_of, level, is_grouped, having_rel, grouped_rel, distinct_rel, selected, level_walk, grouped_walk, select_of, union_of, merge, parts_by, united_as, united}
use Rattle.expr_resolver.specs.Walking.{next}
use Rattle.walk_laws.proofs.ClosedFrom.{condition_closed, SourceClosed, TableClosed, from_closed}
use Rattle.walk_laws.proofs.ClosedItems.{ChosenShut, chosen_shut, HavingShut, items_shut, having_shut}
use Rattle.walk_laws.proofs.ClosedRels.{where_closed, select_closed, group_closed, distinct_closed, union_closed}
use Rattle.walk_laws.proofs.Gives.{Gives, gives, gives_any, gives_if_else, gives_next, all_append}

module _ (defined : Defined) where
  -- each of its parts is closed
  abbrev pub SelectedClosed : Selected → Type 0
  SelectedClosed s = AllByRecursion (IsClosedOver defined) s.parts

  pub filtered_closed : (condition : Option Expr) (source : Source) → SourceClosed defined source → Gives (filtered condition source) (SourceClosed defined)
  filtered_closed None source h = gives (SourceClosed defined) source h
  filtered_closed (Some e) source h =
      gives_next (condition_closed source.entries e)
      (λ k shut. gives (SourceClosed defined) _ (where_closed defined source.rel k.expr h shut))

  having_closed : (having : Option Known) (r : Rel) → HavingShut having → IsClosedOver defined r → IsClosedOver defined (having_rel having r)
  having_closed None r shut h = h
  having_closed (Some k) r shut h = where_closed defined r k.expr h shut

  grouped_closed : (over : Over) (keys : List ℕ) (aggs : List Agg) (having : Option Known) (r : Rel) → are_closed_aggs aggs ≡ true → HavingShut having → IsClosedOver defined r → IsClosedOver defined (grouped_rel over keys aggs having r)
  grouped_closed Rows keys aggs having r closed shut h = h
  grouped_closed Groups keys aggs having r closed shut h = having_closed having (rel.Group r keys aggs) shut (group_closed defined r keys aggs h closed)

  distinct_if : (distinct : Bool) (r : Rel) → IsClosedOver defined r → IsClosedOver defined (distinct_rel distinct r)
  distinct_if false r h = h
  distinct_if true r h = distinct_closed defined r h

  selected_closed : (distinct : Bool) (items : List SelectItem) (r : Rel) (chosen : List Chosen) → IsClosedOver defined r → AllByRecursion ChosenShut chosen → SelectedClosed (selected distinct items r chosen)
  selected_closed distinct items r chosen h all = (distinct_if distinct (rel.Select r (exprs_of chosen)) (select_closed defined r (exprs_of chosen) h (chosen_shut chosen all)), tt)

  level_closed : (distinct : Bool) (items : List SelectItem) (having : Option Expr) (names : Names) (over : Over) (r : Rel) → IsClosedOver defined r → Gives (level_walk distinct items having names over r) SelectedClosed
  level_closed distinct items having names over r h =
      gives_next ((having_shut names over having).each [] refl) (λ met closed.
      gives_next ((items_shut names over 1 items [] tt).each met.1 closed.1) (λ chosen all.
      gives SelectedClosed (selected distinct items (grouped_rel over names.keys chosen.1 met.0 r) chosen.0)
      (selected_closed distinct items (grouped_rel over names.keys chosen.1 met.0 r) chosen.0 (grouped_closed over names.keys chosen.1 met.0 r all.1 closed.0 h) all.0)))

  rest_closed : (group : List ColumnName) (having : Option Expr) (items : List SelectItem) (distinct : Bool) (source : Source) → SourceClosed defined source → Gives (grouped_walk group having items distinct source) SelectedClosed
  rest_closed group having items distinct source h =
      gives_next (gives_any (keys_of source.entries group []))
      (λ keys any. level_closed distinct items having (record { entries = source.entries; keys = keys }) (level (is_grouped group having items)) source.rel h)

  pub select_of_closed : (tables : List TablePart) (condition : Option Expr) (group : List ColumnName) (having : Option Expr) (items : List SelectItem) (distinct : Bool)
      → AllByRecursion (TableClosed defined) tables → Gives (select_of tables condition group having items distinct) SelectedClosed
  select_of_closed tables condition group having items distinct all =
      gives_next (gives_next (from_closed defined tables all) (filtered_closed condition)) (rest_closed group having items distinct)

  pub union_of_closed : (rs : List Rel) → AllByRecursion (IsClosedOver defined) rs → IsClosedOver defined (union_of rs)
  union_of_closed [] all = union_closed defined [] all
  union_of_closed (r ∷ []) all = all.0
  union_of_closed (r ∷ s ∷ more) all = union_closed defined (r ∷ s ∷ more) all

  parts_closed : (all : Bool) (ls rs : List Rel) → AllByRecursion (IsClosedOver defined) ls → AllByRecursion (IsClosedOver defined) rs → AllByRecursion (IsClosedOver defined) (parts_by all ls rs)
  parts_closed true ls rs h k = all_append (IsClosedOver defined) ls (union_of rs ∷ []) h (union_of_closed rs k, tt)
  parts_closed false ls rs h k = (distinct_closed defined (rel.Union (union_of ls ∷ union_of rs ∷ [])) (union_closed defined (union_of ls ∷ union_of rs ∷ []) (union_of_closed ls h, (union_of_closed rs k, tt))), tt)

  pub united_closed : (all : Bool) (l r : Selected) → SelectedClosed l → SelectedClosed r → Gives (united all l r) SelectedClosed
  united_closed all l r h k =
      gives_if_else SelectedClosed (length l.columns == length r.columns) (next (merge l.columns r.columns []) (united_as all l r)) (Mismatch r.first)
      (gives_next (gives_any (merge l.columns r.columns [])) (λ columns any. gives SelectedClosed _ (parts_closed all l.parts r.parts h k)))
