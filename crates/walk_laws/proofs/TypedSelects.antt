-- What a select gives is typed where its FROM is, and so is a chain of selects.
use Rattle.std.proofs.Common.{◌≡◌, ℕ, ◌==◌, Bool, true, false, List, [], ◌∷◌, ◌++◌, length, Option, Some, None, refl, sym, subst, arith}
use Rattle.std.specs.Prelude.{nat_lt}
use Rattle.std.specs.List.{AllByRecursion}
use Rattle.std.specs.Cmp.Derive.{both_true}
use Rattle.std.proofs.lemmas.Bool.Decides.{nat_tests}
use Rattle.vdb_base.specs.declared.value.Ty.{Ty}
use Rattle.vdb_base.specs.declared.value.Ty.TheVariants.{Boolean}
use Rattle.vdb_model.specs.declared.rel.Agg.{Agg}
use Rattle.vdb_model.specs.declared.rel.Rel.{Rel}
use Rattle.vdb_model.specs.declared.rel.Rel.TheVariants as rel
use Rattle.vdb_model.specs.declared.reply.Refusal.TheVariants.{Mismatch}
use Rattle.vdb_model.specs.Columns.{aggs_have, key_types}
use Rattle.vdb_model.specs.Defined.{Defined}
use Rattle.vdb_model.specs.Defs.{all_below}
use Rattle.vdb_model.proofs.Ranges.{and_left, and_right}
use Rattle.sql_reader.specs.declared.tree.expr.Expr.{Expr}
use Rattle.sql_reader.specs.declared.tree.name.ColumnName.{ColumnName}
use Rattle.sql_reader.specs.declared.tree.query.SelectItem.{SelectItem}
use Rattle.expr_resolver.specs.declared.known.Known.{Known}
use Rattle.expr_resolver.specs.declared.scope.Entry.{Entry}
use Rattle.expr_resolver.specs.declared.scope.Names.{Names}
use Rattle.expr_resolver.specs.declared.scope.Over.{Over}
use Rattle.expr_resolver.specs.declared.scope.Over.TheVariants.{Rows, Groups}
use Rattle.resolver.specs.declared.selected.Chosen.{Chosen}
use Rattle.resolver.specs.declared.selected.Selected.{Selected}
use Rattle.resolver.specs.declared.selected.Source.{Source}
use Rattle.resolver.specs.From.{TablePart}
use Rattle.resolver.specs.Items.{exprs_of, columns_of}
use Rattle.resolver.specs.Selects.{filtered, keys_of, level, is_grouped, having_rel, grouped_rel, distinct_rel, selected, level_walk, grouped_walk, select_of, merge, parts_by, united_as, united}
use Rattle.expr_resolver.specs.Walking.{next}
use Rattle.walk_laws.proofs.Gives.{Gives, gives, gives_become, gives_next, gives_where, all_become}
use Rattle.walk_laws.proofs.Scope.{entry_types, column_found, place_below, Sees, stays_seen}
use Rattle.walk_laws.proofs.TypedFrom.{SourceTyped, TableTyped, condition_typed, from_typed}
use Rattle.walk_laws.proofs.TypedItems.{ChosenTyped, ItemTyped, HavingTyped, chosen_have, chosen_count, items_typed, having_typed}
use Rattle.walk_laws.proofs.TypedKnown.{IsOf}
use Rattle.walk_laws.proofs.TypedRels.{HasTypes, where_has, select_has, distinct_has, group_has_types}
use Rattle.walk_laws.proofs.TypedUnions.{PartsTyped, alone_typed, merge_goes, united_parts}
use Rattle.walk_laws.proofs.WalkTyped.{Later, later_self}

pub below_more : (n : ℕ) (keys : List ℕ) (key : ℕ) → all_below n keys ≡ true → nat_lt key n ≡ true → all_below n (keys ++ key ∷ []) ≡ true
below_more n [] key all h = both_true h refl
below_more n (k ∷ keys) key all h = both_true (and_left (nat_lt k n) (all_below n keys) all) (below_more n keys key (and_right (nat_lt k n) (all_below n keys) all) h)

-- each key is a column of the joined row
keys_typed : (entries : List Entry) (group : List ColumnName) (made : List ℕ) → all_below (length (entry_types entries)) made ≡ true
    → Gives (keys_of entries group made) (λ keys. all_below (length (entry_types entries)) keys ≡ true)
keys_typed entries [] made all = gives _ made all
keys_typed entries (c ∷ cs) made all =
    gives_next (column_found entries c)
    (λ column h. keys_typed entries cs (made ++ column.0 ∷ []) (below_more (length (entry_types entries)) made column.0 all (place_below (entry_types entries) column h)))

pub test_same : (m n : ℕ) → (m == n) ≡ true → m ≡ n
test_same m n h = grind (arith, nat_tests)

module _ (defined : Defined) where
  abbrev pub SelectedTyped : Selected → Type 0
  SelectedTyped s = PartsTyped defined s.parts s.columns

  -- the rows that are left have the entries and the types that they had
  abbrev Keeps : Source → Source → Type 0
  Keeps source left = (left.entries ≡ source.entries) × HasTypes defined left.rel (entry_types source.entries)

  pub filtered_keeps : (condition : Option Expr) (source : Source) → SourceTyped defined source → Gives (filtered condition source) (Keeps source)
  filtered_keeps None source h = gives (Keeps source) source (refl, h)
  filtered_keeps (Some e) source h =
      gives_next (condition_typed source.entries e)
      (λ k is. gives (Keeps source) _ (refl, where_has defined source.rel k.expr (entry_types source.entries) h is))

  filtered_typed : (condition : Option Expr) (source : Source) → SourceTyped defined source → Gives (filtered condition source) (SourceTyped defined)
  filtered_typed condition source h =
      gives_become (filtered_keeps condition source h) (λ left kept. subst (λ entries. HasTypes defined left.rel (entry_types entries)) (sym kept.0) kept.1)

  distinct_if : (distinct : Bool) (r : Rel) (ts : List Ty) → HasTypes defined r ts → HasTypes defined (distinct_rel distinct r) ts
  distinct_if false r ts h = h
  distinct_if true r ts h = distinct_has defined r ts h

  selected_typed : (distinct : Bool) (items : List SelectItem) (r : Rel) (chosen : List Chosen) (cols : List Ty) → HasTypes defined r cols → AllByRecursion (ChosenTyped cols) chosen
      → SelectedTyped (selected distinct items r chosen)
  selected_typed distinct items r chosen cols h all =
      alone_typed defined (distinct_rel distinct (rel.Select r (exprs_of chosen))) (columns_of chosen)
      (λ ts agree. distinct_if distinct (rel.Select r (exprs_of chosen)) ts (select_has defined r (exprs_of chosen) cols ts h (chosen_count chosen ts agree) (chosen_have cols chosen ts all agree)))

  module _ (names : Names) where
    abbrev rows : List Ty
    rows = entry_types names.entries

    -- what the items are over
    record Grouped (over : Over) (ts : List Ty) (r : Rel) : Type 0 where
      cols : List Ty
      sees : Sees rows names.keys over ts cols
      has : HasTypes defined r cols

    having_has : (having : Option Known) (r : Rel) (ts cols : List Ty) → HavingTyped names Groups ts having → Sees rows names.keys Groups ts cols → HasTypes defined r cols → HasTypes defined (having_rel having r) cols
    having_has None r ts cols is s h = h
    having_has (Some k) r ts cols is s h = where_has defined r k.expr cols h (is cols s)

    having_later : (having : Option Known) (ts us : List Ty) → Later ts us → HavingTyped names Groups ts having → HavingTyped names Groups us having
    having_later None ts us later is = tt
    having_later (Some k) ts us later is = (stays_seen rows names.keys Groups (λ cols. IsOf cols Boolean)).each ts us k later is

    grouped_typed : (over : Over) (aggs : List Agg) (having : Option Known) (r : Rel) (ts us : List Ty) → all_below (length rows) names.keys ≡ true → Later ts us → HavingTyped names over ts having
        → aggs_have rows [] aggs us ≡ true → HasTypes defined r rows → Grouped over us (grouped_rel over names.keys aggs having r)
    grouped_typed Rows aggs having r ts us below later is have h = record { cols = rows; sees = refl; has = h }
    grouped_typed Groups aggs having r ts us below later is have h =
        let cols = key_types rows names.keys ++ us in
        let seen = later_self cols in
        record { cols = cols; sees = seen; has = having_has having (rel.Group r names.keys aggs) us cols (having_later having ts us later is) seen (group_has_types defined r names.keys aggs rows us h below have) }

    level_typed : (distinct : Bool) (items : List SelectItem) (having : Option Expr) (over : Over) (r : Rel) → all_below (length rows) names.keys ≡ true → HasTypes defined r rows
        → Gives (level_walk distinct items having names over r) SelectedTyped
    level_typed distinct items having over r below h =
        gives_next (((having_typed names over having).from []).each [] refl) (λ met i.
        gives_next ((items_typed names over 1 items [] i.by_end tt).each met.1 i.aggs) (λ chosen j.
        let g = grouped_typed over chosen.1 met.0 r i.by_end j.by_end below j.later i.holds j.aggs h in
        let each = all_become (ItemTyped names over j.by_end) (ChosenTyped g.cols) chosen.0 (λ c seen. seen g.cols g.sees) j.holds in
        gives SelectedTyped _ (selected_typed distinct items (grouped_rel over names.keys chosen.1 met.0 r) chosen.0 g.cols g.has each)))

  rest_typed : (group : List ColumnName) (having : Option Expr) (items : List SelectItem) (distinct : Bool) (source : Source) → SourceTyped defined source → Gives (grouped_walk group having items distinct source) SelectedTyped
  rest_typed group having items distinct source h =
      gives_next (keys_typed source.entries group [] refl)
      (λ keys below. level_typed (record { entries = source.entries; keys = keys }) distinct items having (level (is_grouped group having items)) source.rel below h)

  pub select_of_typed : (tables : List TablePart) (condition : Option Expr) (group : List ColumnName) (having : Option Expr) (items : List SelectItem) (distinct : Bool)
      → AllByRecursion (TableTyped defined) tables → Gives (select_of tables condition group having items distinct) SelectedTyped
  select_of_typed tables condition group having items distinct all =
      gives_next (gives_next (from_typed defined tables all) (filtered_typed condition)) (rest_typed group having items distinct)

  pub united_typed : (all : Bool) (l r : Selected) → SelectedTyped l → SelectedTyped r → Gives (united all l r) SelectedTyped
  united_typed all l r h k =
      gives_where SelectedTyped (length l.columns == length r.columns) (next (merge l.columns r.columns []) (united_as all l r)) (Mismatch r.first)
      (λ same. gives_next (merge_goes l.columns r.columns [] (test_same (length l.columns) (length r.columns) same))
      (λ columns m. gives SelectedTyped _ (subst (PartsTyped defined (parts_by all l.parts r.parts)) (sym m.is) (united_parts defined l.parts r.parts l.columns r.columns m.rest h k m.left m.right all))))
