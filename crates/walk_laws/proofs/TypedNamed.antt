-- A relation that a name means is there, and has the types of its columns.
use Rattle.std.proofs.Common.{◌≡◌, ◌∙◌, ℕ, zero, suc, ◌+◌, ◌==◌, Bool, true, false, if◌then◌else◌, List, [], ◌∷◌, ◌++◌, length, slice_get, Some, refl, ap, sym, subst, arith, append_assoc, length-append}
use Rattle.std.specs.Prelude.{slice_index_or}
use Rattle.std.specs.List.{AllByRecursion}
use Rattle.std.proofs.lemmas.Bool.Decides.{nat_tests}
use Rattle.vdb_base.specs.declared.value.Ty.{Ty}
use Rattle.vdb_model.specs.declared.catalog.ViewDef.{ViewDef}
use Rattle.vdb_model.specs.declared.table.ColumnDef.{ColumnDef}
use Rattle.vdb_model.specs.declared.table.TableDef.{TableDef}
use Rattle.vdb_model.specs.declared.typed.Target.{Target}
use Rattle.vdb_model.specs.declared.typed.Target.TheVariants.{Table, View}
use Rattle.vdb_model.specs.Asking.{types_of}
use Rattle.vdb_model.specs.Columns.{Columns, declared, declared_each, no_columns}
use Rattle.vdb_model.specs.Defined.{Defined}
use Rattle.vdb_model.specs.WellFormed.{are_placed, table_types, view_types, variable_types}
use Rattle.vdb_model.proofs.Ranges.{and_left, and_right}
use Rattle.sql_reader.specs.declared.tree.name.RelationName.{RelationName}
use Rattle.resolver.specs.declared.relation.Relation.{Relation}
use Rattle.resolver.specs.Relations.{is_meant, table_columns, of_table, of_view, tables_named, views_named, relation_of, rel_of, written_relation}
use Rattle.walk_laws.specs.Typed.{AreOf}
use Rattle.walk_laws.specs.TypedStatements.{target_types}
use Rattle.walk_laws.proofs.ColumnsByKinds.{columns-Table, columns-View}
use Rattle.walk_laws.proofs.Gives.{Gives, gives_only, all_append}
use Rattle.walk_laws.proofs.Scope.{get_middle}
use Rattle.walk_laws.proofs.TypedRels.{HasTypes, are_same_self}

pub column_types : (cs : List ColumnDef) → variable_types (table_columns cs) ≡ types_of cs
column_types [] = refl
column_types (c ∷ cs) = ap (λ ts. c.ty ∷ ts) (column_types cs)

-- the types at a place are those declared there
declared_at : (types : List (List Ty)) (n : ℕ) (own : List Ty) → slice_get types n ≡ Some own → slice_index_or (declared_each types) n no_columns ≡ declared own
declared_at [] n own h = absurd (cc h)
declared_at (ts ∷ types) zero own h = let is : ts ≡ own = cc h in ap declared is
declared_at (ts ∷ types) (suc n) own h = declared_at types n own h

own_types : (columns : Columns) (own : List Ty) → columns ≡ declared own → AreOf columns own
own_types columns own e = subst (λ c. AreOf c own) (sym e) (record { width = refl; have = are_same_self own })

module _ (defined : Defined) where
  target_has : (target : Target) (own : List Ty) → target_types defined target ≡ Some own → HasTypes defined (rel_of target) own
  target_has (Table n) own there = own_types _ own (columns-Table (table_types defined.tables) (view_types defined.views) [] n ∙ declared_at (table_types defined.tables) n own there)
  target_has (View n) own there = own_types _ own (columns-View (table_types defined.tables) (view_types defined.views) [] n ∙ declared_at (view_types defined.views) n own there)

  -- it is there with its columns
  abbrev pub IsNamed : Relation → Type 0
  IsNamed r = target_types defined r.target ≡ Some (variable_types r.columns)

  -- so its relation has the types of its columns
  pub named_has : (r : Relation) → IsNamed r → HasTypes defined (rel_of r.target) (variable_types r.columns)
  named_has r there = target_has r.target (variable_types r.columns) there

  all_if : (b : Bool) (x : Relation) (xs : List Relation) → IsNamed x → AllByRecursion IsNamed xs → AllByRecursion IsNamed (if b then x ∷ xs else xs)
  all_if true x xs h all = (h, all)
  all_if false x xs h all = all

  -- the types at the place after these
  at_place : (types before : List (List Ty)) (own : List Ty) (more : List (List Ty)) (n : ℕ) → types ≡ before ++ own ∷ more → length before ≡ n → slice_get types n ≡ Some own
  at_place types before own more n split count =
      subst (λ n. slice_get types n ≡ Some own) count (subst (λ l. slice_get l (length before) ≡ Some own) (sym split) (get_middle before own more))

  tables_named_in : (r : RelationName) (n : ℕ) (before : List (List Ty)) (ds : List TableDef)
      → table_types defined.tables ≡ before ++ table_types ds → length before ≡ n → are_placed n ds ≡ true → AllByRecursion IsNamed (tables_named r ds)
  tables_named_in r n before [] split count placed = tt
  tables_named_in r n before (d ∷ ds) split count placed =
      let own = types_of d.columns in
      let here = d.number == n in
      let place : here ≡ true = and_left here (are_placed (n + 1) ds) placed in
      let number : length before ≡ d.number = grind (arith, nat_tests) in
      let there : slice_get (table_types defined.tables) d.number ≡ Some own = at_place (table_types defined.tables) before own (table_types ds) d.number split number in
      all_if (is_meant r d.schema d.name) (of_table d) (tables_named r ds) (there ∙ ap Some (sym (column_types d.columns)))
      (tables_named_in r (n + 1) (before ++ own ∷ []) ds (split ∙ sym (append_assoc before (own ∷ []) (table_types ds)))
      (length-append before (own ∷ []) ∙ ap (λ n. n + 1) count) (and_right here (are_placed (n + 1) ds) placed))

  views_named_in : (r : RelationName) (n : ℕ) (before : List (List Ty)) (ds : List ViewDef) → view_types defined.views ≡ before ++ view_types ds → length before ≡ n → AllByRecursion IsNamed (views_named n r ds)
  views_named_in r n before [] split count = tt
  views_named_in r n before (d ∷ ds) split count =
      let own = variable_types d.columns in
      all_if (is_meant r d.schema d.name) (of_view n d) (views_named (n + 1) r ds) (at_place (view_types defined.views) before own (view_types ds) n split count)
      (views_named_in r (n + 1) (before ++ own ∷ []) ds (split ∙ sym (append_assoc before (own ∷ []) (view_types ds))) (length-append before (own ∷ []) ∙ ap (λ n. n + 1) count))

  pub relation_named : (r : RelationName) → are_placed 0 defined.tables ≡ true → Gives (relation_of defined r) IsNamed
  relation_named r placed =
      gives_only IsNamed (written_relation r) (tables_named r defined.tables ++ views_named 0 r defined.views)
      (all_append IsNamed (tables_named r defined.tables) (views_named 0 r defined.views) (tables_named_in r 0 [] defined.tables refl refl placed) (views_named_in r 0 [] defined.views refl refl))
