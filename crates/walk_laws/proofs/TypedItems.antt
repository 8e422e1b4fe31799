-- The expressions of an item list and of HAVING are typed over the rows or over the groups.
use Rattle.std.proofs.Common.{◌≡◌, ℕ, suc, ◌+◌, Bool, true, false, if◌then◌else◌, List, [], ◌∷◌, ◌++◌, length, Option, Some, None, Ok, refl, ap, subst}
use Rattle.std.specs.List.{AllByRecursion}
use Rattle.std.specs.Cmp.Derive.{both_true}
use Rattle.vdb_base.specs.declared.value.Ty.{Ty}
use Rattle.vdb_base.specs.declared.value.Ty.TheVariants.{Boolean}
use Rattle.vdb_model.specs.declared.typed.VarDef.{VarDef}
use Rattle.vdb_model.specs.Columns.{all_have}
use Rattle.vdb_model.specs.Defs.{same_name}
use Rattle.vdb_model.specs.NameText.{name_text}
use Rattle.vdb_model.specs.Typed.{has_type}
use Rattle.vdb_model.specs.WellFormed.{variable_types}
use Rattle.sql_reader.specs.declared.tree.expr.Expr.{Expr}
use Rattle.sql_reader.specs.declared.tree.name.Name.{Name}
use Rattle.sql_reader.specs.declared.tree.query.SelectItem.{SelectItem}
use Rattle.sql_reader.specs.declared.tree.query.SelectItem.TheVariants as item
use Rattle.expr_resolver.specs.declared.known.Known.{Known}
use Rattle.expr_resolver.specs.declared.scope.Entry.{Entry}
use Rattle.expr_resolver.specs.declared.scope.Names.{Names}
use Rattle.expr_resolver.specs.declared.scope.Over.{Over}
use Rattle.resolver.specs.declared.selected.Chosen.{Chosen}
use Rattle.expr_resolver.specs.Exprs.{walk}
use Rattle.resolver.specs.Items.{column_chosen, columns_chosen, all_columns, columns_named, columns_of_entry, item_walk, items_walk, exprs_of, columns_of}
use Rattle.expr_resolver.specs.Scope.{column_over}
use Rattle.resolver.specs.Selects.{having_walk}
use Rattle.expr_resolver.specs.Walking.{next}
use Rattle.walk_laws.proofs.Gives.{Gives, gives, gives_next, gives_only, all_append}
use Rattle.walk_laws.proofs.KnownTypes.{Has, has_at}
use Rattle.walk_laws.proofs.Scope.{IsAt, Behind, behind_none, behind_first, behind_rest, behind_next, behind_here, entry_types, types_append, types_length, Seen, stays_seen, column_over_seen}
use Rattle.walk_laws.proofs.TypedAggs.{at_typed}
use Rattle.walk_laws.proofs.TypedExprs.{expr_walks, condition_walks, Of}
use Rattle.walk_laws.proofs.TypedFrom.{AllAgree}
use Rattle.walk_laws.proofs.WalkTyped.{Walks, WalksFrom, Each, stays_each, walks_given, walks_in_turn, walks_one}

-- the expression has the type that is known of the column
abbrev pub ChosenTyped : List Ty → Chosen → Type 0
ChosenTyped cols c = Has (has_type cols [] c.expr) c.column.ty

-- whatever the types of the columns of which none is known
pub chosen_have : (cols : List Ty) (cs : List Chosen) (ts : List Ty) → AllByRecursion (ChosenTyped cols) cs → AllAgree (columns_of cs) ts → all_have cols [] (exprs_of cs) ts ≡ true
chosen_have cols [] [] all agree = refl
chosen_have cols [] (t ∷ ts) all agree = absurd agree
chosen_have cols (c ∷ cs) [] all agree = absurd agree
chosen_have cols (c ∷ cs) (t ∷ ts) all agree = both_true (has_at (has_type cols [] c.expr) c.column.ty t all.0 agree.0) (chosen_have cols cs ts all.1 agree.1)

pub chosen_count : (cs : List Chosen) (ts : List Ty) → AllAgree (columns_of cs) ts → length (exprs_of cs) ≡ length ts
chosen_count [] [] agree = refl
chosen_count [] (t ∷ ts) agree = absurd agree
chosen_count (c ∷ cs) [] agree = absurd agree
chosen_count (c ∷ cs) (t ∷ ts) agree = ap suc (chosen_count cs ts agree.1)

-- the columns of an entry stand among the joined row's
abbrev StandIn : List Ty → ℕ × List VarDef → Type 0
StandIn rows found = Behind rows found.0 (variable_types found.1)

stand_if : (rows : List Ty) (b : Bool) (x : ℕ × List VarDef) (xs : List (ℕ × List VarDef)) → StandIn rows x → AllByRecursion (StandIn rows) xs → AllByRecursion (StandIn rows) (if b then x ∷ xs else xs)
stand_if rows true x xs h all = (h, all)
stand_if rows false x xs h all = all

entries_stand : (rows : List Ty) (at : ℕ) (name : List ℕ) (entries : List Entry) → Behind rows at (entry_types entries) → AllByRecursion (StandIn rows) (columns_named at name entries)
entries_stand rows at name [] b = tt
entries_stand rows at name (entry ∷ entries) b =
    let own = variable_types entry.columns in
    let split = subst (Behind rows at) (types_append entry.columns (all_columns entries)) b in
    let rest = subst (λ n. Behind rows (at + n) (entry_types entries)) (types_length entry.columns) (behind_rest rows at own (entry_types entries) split) in
    stand_if rows (same_name entry.name name) (at, entry.columns) (columns_named (at + length entry.columns) name entries) (behind_first rows at own (entry_types entries) split)
    (entries_stand rows (at + length entry.columns) name entries rest)

module _ (names : Names) (over : Over) where
  abbrev rows : List Ty
  rows = entry_types names.entries

  -- typed over all that it sees
  abbrev pub ItemTyped : List Ty → Chosen → Type 0
  ItemTyped = Seen (entry_types names.entries) names.keys over ChosenTyped

  -- there is no condition, or it is a boolean
  abbrev pub HavingTyped : List Ty → Option Known → Type 0
  HavingTyped ts None = Unit {0}
  HavingTyped ts (Some k) = Of names Boolean over ts k

  column_item : (ts : List Ty) (first at : ℕ) (c : VarDef) → IsAt rows (at, c.ty) → Gives (next (column_over over names.keys first (at, c.ty)) (column_chosen first c.name)) (ItemTyped ts)
  column_item ts first at c h =
      gives_next (column_over_seen rows names.keys over first (at, c.ty) ts h)
      (λ column seen. gives (ItemTyped ts) _ (λ cols s. at_typed cols column.0 column.1 (seen cols s)))

  columns_items : (ts : List Ty) (first at : ℕ) (cs : List VarDef) (made : List Chosen) → Behind rows at (variable_types cs) → AllByRecursion (ItemTyped ts) made
      → Gives (columns_chosen names over first at cs made) (AllByRecursion (ItemTyped ts))
  columns_items ts first at [] made b all = gives (AllByRecursion (ItemTyped ts)) made all
  columns_items ts first at (c ∷ cs) made b all =
      gives_next (column_item ts first at c (behind_here rows at c.ty (variable_types cs) b))
      (λ chosen h. columns_items ts first (at + 1) cs (made ++ chosen ∷ []) (behind_next rows at c.ty (variable_types cs) b) (all_append (ItemTyped ts) made (chosen ∷ []) all (h, tt)))

  entry_items : (ts : List Ty) (relation : Name) → Gives (columns_of_entry names over relation) (AllByRecursion (ItemTyped ts))
  entry_items ts relation =
      let entries = columns_named 0 relation.text names.entries in
      gives_next (gives_only (StandIn rows) (name_text relation.text) entries (entries_stand rows 0 relation.text names.entries (behind_none rows)))
      (λ found b. columns_items ts relation.at found.0 found.1 [] b tt)

  item_typed : (n : ℕ) (i : SelectItem) → Walks rows (item_walk names over n i) (Each rows ItemTyped)
  item_typed n (item.All at) = record {
    from = λ ts. walks_given rows {P = Each rows ItemTyped} ts (columns_chosen names over at 0 (all_columns names.entries) []) (columns_items ts at 0 (all_columns names.entries) [] (behind_none rows) tt);
  }
  item_typed n (item.AllOf relation) = record { from = λ ts. walks_given rows {P = Each rows ItemTyped} ts (columns_of_entry names over relation) (entry_items ts relation) }
  item_typed n (item.Expr e alias) = walks_one rows {Q = Each rows ItemTyped} (expr_walks names e over) (λ us k h. gives (AllByRecursion (ItemTyped us)) _ (h, tt))

  pub items_typed : (n : ℕ) (is : List SelectItem) (made : List Chosen) (ts : List Ty) → Each rows ItemTyped ts made → WalksFrom rows ts (items_walk names over n is made) (Each rows ItemTyped)
  items_typed n [] made ts all = walks_given rows {P = Each rows ItemTyped} ts (Ok made) (gives (AllByRecursion (ItemTyped ts)) made all)
  items_typed n (i ∷ is) made ts all =
      let stays = stays_each rows ItemTyped (stays_seen rows names.keys over ChosenTyped) in
      walks_in_turn rows {f = λ cs. items_walk names over (n + 1) is (made ++ cs)} ((item_typed n i).from ts)
      (λ us cs later h. items_typed (n + 1) is (made ++ cs) us (all_append (ItemTyped us) made cs (stays.each ts us made later all) h))

  pub having_typed : (having : Option Expr) → Walks rows (having_walk names over having) HavingTyped
  having_typed None = record { from = λ ts. walks_given rows {P = HavingTyped} ts (Ok None) (gives (HavingTyped ts) None tt) }
  having_typed (Some e) = walks_one rows {Q = HavingTyped} (condition_walks names over (walk names e) (expr_walks names e)) (λ us k h. gives (HavingTyped us) (Some k) h)
