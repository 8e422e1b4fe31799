-- What the walk of a query's selects gives is typed.
use Rattle.std.proofs.Common.{◌≡◌, ℕ, true, List, [], ◌∷◌, Result, map, sym, subst}
use Rattle.std.specs.List.{AllByRecursion}
use Rattle.vdb_model.specs.declared.reply.Refusal.{Refusal}
use Rattle.vdb_model.specs.Defined.{Defined}
use Rattle.vdb_model.specs.WellFormed.{are_placed}
use Rattle.sql_reader.specs.declared.tree.name.Name.{Name}
use Rattle.sql_reader.specs.declared.tree.query.Select.{Select}
use Rattle.sql_reader.specs.declared.tree.query.SetQuery.{SetQuery}
use Rattle.sql_reader.specs.declared.tree.query.SetQuery.TheFolds.{ind-SetQuery, map-SetQuery, map-TableRef}
use Rattle.sql_reader.specs.declared.tree.query.SetQuery.TheOpen.{SetQuery-F, TableRef-F}
use Rattle.sql_reader.specs.declared.tree.query.SetQuery.TheVariants as set
use Rattle.sql_reader.specs.declared.tree.query.SetQuery.TheViews.{roll-SetQuery, roll-TableRef}
use Rattle.sql_reader.specs.declared.tree.query.TableRef.{TableRef}
use Rattle.sql_reader.specs.declared.tree.query.TableRef.TheVariants as table
use Rattle.resolver.specs.declared.selected.Selected.{Selected}
use Rattle.resolver.specs.declared.selected.Source.{Source}
use Rattle.resolver.specs.Selects.{select_of, set_walk, table_walk, tables_walk, select_walk, union_of, derived}
use Rattle.resolver.proofs.SetsByKinds.{set-Select, set-Union, table-Named, table-Derived, table-Joined}
use Rattle.walk_laws.proofs.Gives.{Gives, gives_next}
use Rattle.walk_laws.proofs.TypedFrom.{TableTyped, SourceTyped, named_typed, derived_typed, joined_source_typed}
use Rattle.walk_laws.proofs.TypedSelects.{SelectedTyped, select_of_typed, united_typed}

module _ (defined : Defined) (placed : are_placed 0 defined.tables ≡ true) where
  abbrev SetTyped : SetQuery → Type 0
  SetTyped set = Gives (set_walk defined set) (SelectedTyped defined)

  abbrev OfTable : TableRef → Type 0
  OfTable t = TableTyped defined (table_walk defined t)

  abbrev OfSelect : Select → Type 0
  OfSelect s = Gives (select_walk defined s) (SelectedTyped defined)

  abbrev KnownSet : Type 0
  KnownSet = (set : SetQuery) × SetTyped set

  abbrev KnownTable : Type 0
  KnownTable = (t : TableRef) × OfTable t

  abbrev KnownSelect : Type 0
  KnownSelect = (s : Select) × OfSelect s

  tables_typed : (ts : List KnownTable) → AllByRecursion (TableTyped defined) (tables_walk defined (map (λ t. t.0) ts))
  tables_typed [] = tt
  tables_typed (t ∷ ts) = (t.1, tables_typed ts)

  same_set : {r : Result Selected Refusal} {same : Result Selected Refusal} → r ≡ same → Gives same (SelectedTyped defined) → Gives r (SelectedTyped defined)
  same_set e h = subst (λ r. Gives r (SelectedTyped defined)) (sym e) h

  set_layer : (y : SetQuery-F KnownSet KnownTable KnownSelect) → SetTyped (roll-SetQuery (map-SetQuery KnownSet KnownTable KnownSelect SetQuery TableRef Select (λ e. e.0) (λ e. e.0) (λ e. e.0) y))
  set_layer (SetQuery-F.Select s) = subst SetTyped (sym (set.rolls-Select s.0)) (same_set (set-Select defined s.0) s.1)
  set_layer (SetQuery-F.Union left all right) = subst SetTyped (sym (set.rolls-Union left.0 all right.0))
      (same_set (set-Union defined left.0 all right.0)
      (gives_next left.1 (λ l h. gives_next right.1 (λ r k. united_typed defined all l r h k))))

  derived_set : (query : SetQuery) (alias : Name) → SetTyped query → TableTyped defined (derived (set_walk defined query) alias)
  derived_set query alias h seen =
      gives_next h (λ q parts. derived_typed defined (union_of q.parts) q.columns alias parts.has seen)

  same_table : (t : TableRef) (part : List (List ℕ) → Result Source Refusal) → ((seen : List (List ℕ)) → table_walk defined t seen ≡ part seen) → TableTyped defined part → OfTable t
  same_table t part e h seen = subst (λ r. Gives r (SourceTyped defined)) (sym (e seen)) (h seen)

  table_layer : (y : TableRef-F KnownSet KnownTable KnownSelect) → OfTable (roll-TableRef (map-TableRef KnownSet KnownTable KnownSelect SetQuery TableRef Select (λ e. e.0) (λ e. e.0) (λ e. e.0) y))
  table_layer (TableRef-F.Named name alias) = subst OfTable (sym (table.rolls-Named name alias)) (same_table _ _ (table-Named defined name alias) (named_typed defined placed name alias))
  table_layer (TableRef-F.Derived query alias) = subst OfTable (sym (table.rolls-Derived query.0 alias)) (same_table _ _ (table-Derived defined query.0 alias) (derived_set query.0 alias query.1))
  table_layer (TableRef-F.Joined left right kind) = subst OfTable (sym (table.rolls-Joined left.0 right.0 kind))
      (same_table _ _ (table-Joined defined left.0 right.0 kind) (joined_source_typed defined (table_walk defined left.0) (table_walk defined right.0) kind left.1 right.1))

  pub set_typed : (set : SetQuery) → Gives (set_walk defined set) (SelectedTyped defined)
  set_typed = ind-SetQuery SetTyped OfTable OfSelect (λ x y is. subst (λ z. SetTyped (roll-SetQuery z)) is (set_layer y))
      (λ x y is. subst (λ z. OfTable (roll-TableRef z)) is (table_layer y))
      (λ x y is. subst (λ z. Gives (select_of (tables_walk defined z.from) z.condition z.group z.having z.items z.distinct) (SelectedTyped defined)) is
      (select_of_typed defined (tables_walk defined (map (λ t. t.0) y.from)) y.condition y.group y.having y.items y.distinct (tables_typed y.from)))
