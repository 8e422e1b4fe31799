-- The expressions of an item list and of HAVING read no variable.
use Rattle.std.proofs.Common.{◌≡◌, ℕ, ◌+◌, true, List, [], ◌∷◌, ◌++◌, Option, Some, None, Ok, refl}
use Rattle.std.specs.List.{AllByRecursion}
use Rattle.std.specs.Cmp.Derive.{both_true}
use Rattle.vdb_model.specs.declared.typed.VarDef.{VarDef}
use Rattle.vdb_model.specs.Closed.{is_closed, are_closed}
use Rattle.vdb_model.specs.NameText.{name_text}
use Rattle.view_stack.proofs.ClosedByKinds.{closed-Col}
use Rattle.sql_reader.specs.declared.tree.expr.Expr.{Expr}
use Rattle.sql_reader.specs.declared.tree.name.Name.{Name}
use Rattle.sql_reader.specs.declared.tree.query.SelectItem.{SelectItem}
use Rattle.sql_reader.specs.declared.tree.query.SelectItem.TheVariants as item
use Rattle.expr_resolver.specs.declared.known.Known.{Known}
use Rattle.expr_resolver.specs.declared.scope.Names.{Names}
use Rattle.expr_resolver.specs.declared.scope.Over.{Over}
use Rattle.resolver.specs.declared.selected.Chosen.{Chosen}
use Rattle.expr_resolver.specs.Exprs.{walk}
use Rattle.resolver.specs.Items.{column_chosen, columns_chosen, all_columns, columns_named, columns_of_entry, item_walk, items_walk, exprs_of}
use Rattle.expr_resolver.specs.Operators.{condition}
use Rattle.expr_resolver.specs.Scope.{only, column_over}
use Rattle.resolver.specs.Selects.{having_walk}
use Rattle.expr_resolver.specs.Walking.{next, one}
use Rattle.walk_laws.proofs.ClosedExprs.{expr_walks}
use Rattle.walk_laws.proofs.ClosedKnown.{Shut, condition_shut}
use Rattle.walk_laws.proofs.Gives.{Gives, gives, gives_any, gives_next, all_append}
use Rattle.walk_laws.proofs.WalkClosed.{Walks, walks_given, walks_in_turn, walks_one}

abbrev pub ChosenShut : Chosen → Type 0
ChosenShut c = is_closed c.expr ≡ true

pub chosen_shut : (cs : List Chosen) → AllByRecursion ChosenShut cs → are_closed (exprs_of cs) ≡ true
chosen_shut [] all = refl
chosen_shut (c ∷ cs) all = both_true all.0 (chosen_shut cs all.1)

-- there is no condition, or it reads no variable
abbrev pub HavingShut : Option Known → Type 0
HavingShut None = Unit {0}
HavingShut (Some k) = Shut k

module _ (names : Names) (over : Over) where
  column_shut : (first at : ℕ) (c : VarDef) → Gives (next (column_over over names.keys first (at, c.ty)) (column_chosen first c.name)) ChosenShut
  column_shut first at c =
      gives_next (gives_any (column_over over names.keys first (at, c.ty)))
      (λ column h. gives ChosenShut _ (closed-Col column.0))

  columns_shut : (first at : ℕ) (cs : List VarDef) (made : List Chosen) → AllByRecursion ChosenShut made → Gives (columns_chosen names over first at cs made) (AllByRecursion ChosenShut)
  columns_shut first at [] made all = gives (AllByRecursion ChosenShut) made all
  columns_shut first at (c ∷ cs) made all =
      gives_next (column_shut first at c)
      (λ chosen h. columns_shut first (at + 1) cs (made ++ chosen ∷ []) (all_append ChosenShut made (chosen ∷ []) all (h, tt)))

  entry_shut : (relation : Name) → Gives (columns_of_entry names over relation) (AllByRecursion ChosenShut)
  entry_shut relation =
      let entry = only (name_text relation.text) (columns_named 0 relation.text names.entries) in
      gives_next (gives_any entry) (λ found h. columns_shut relation.at found.0 found.1 [] tt)

  item_shut : (n : ℕ) (i : SelectItem) → Walks (item_walk names over n i) (AllByRecursion ChosenShut)
  item_shut n (item.All at) = walks_given (columns_chosen names over at 0 (all_columns names.entries) []) (columns_shut at 0 (all_columns names.entries) [] tt)
  item_shut n (item.AllOf relation) = walks_given (columns_of_entry names over relation) (entry_shut relation)
  item_shut n (item.Expr e alias) = walks_one (expr_walks names e over) (λ k h. gives (AllByRecursion ChosenShut) _ (h, tt))

  pub items_shut : (n : ℕ) (is : List SelectItem) (made : List Chosen) → AllByRecursion ChosenShut made → Walks (items_walk names over n is made) (AllByRecursion ChosenShut)
  items_shut n [] made all = walks_given (Ok made) (gives (AllByRecursion ChosenShut) made all)
  items_shut n (i ∷ is) made all =
      walks_in_turn (item_shut n i) (λ cs h. items_shut (n + 1) is (made ++ cs) (all_append ChosenShut made cs all h))

  pub having_shut : (having : Option Expr) → Walks (having_walk names over having) HavingShut
  having_shut None = walks_given (Ok None) (gives HavingShut None tt)
  having_shut (Some e) =
      let tested : Walks (one (walk names e over) condition) Shut = walks_one (expr_walks names e over) condition_shut in
      walks_one tested (λ k h. gives HavingShut (Some k) h)
