-- What is typed over some tables is typed over them and more.
use Rattle.std.proofs.Common.{◌≡◌, ◌∙◌, ℕ, zero, suc, ◌+◌, Bool, true, ◌&&◌, ◌==◌, List, [], ◌∷◌, ◌++◌, length, map, take, drop, slice_index_or, refl, sym, ap, subst}
use Rattle.std.specs.List.{AllByRecursion}
use Rattle.std.specs.Cmp.Derive.{both_true}
use Rattle.vdb_base.specs.declared.value.Ty.{Ty}
use Rattle.vdb_base.specs.declared.value.Ty.TheVariants.{Boolean}
use Rattle.vdb_model.specs.declared.catalog.ViewDef.{ViewDef}
use Rattle.vdb_model.specs.declared.expr.Expr.{Expr}
use Rattle.vdb_model.specs.declared.rel.JoinKind.{JoinKind}
use Rattle.vdb_model.specs.declared.rel.Rel.{Rel}
use Rattle.vdb_model.specs.declared.rel.Rel.TheVariants.{One, Table, View, Where, Select, Join, Group, Distinct, Union}
use Rattle.vdb_model.specs.declared.rel.Rel.TheOpen.{Rel-F}
use Rattle.vdb_model.specs.declared.table.TableDef.{TableDef}
use Rattle.vdb_model.specs.Asking.{types_of}
use Rattle.vdb_model.specs.Columns.{Columns, declared_each, no_columns, some_types, all_have, all_go_into, group_has, parts_have, first_width, columns_step, columns_of}
use Rattle.vdb_model.specs.Typed.{has_type}
use Rattle.vdb_model.specs.WellFormed.{table_types, variable_types, view_types, is_typed_over, are_typed_on}
use Rattle.vdb_model.proofs.RelByKinds.{rel_by_kinds}
use Rattle.view_stack.proofs.NoVariables.{both}
use Rattle.walk_laws.proofs.ColumnsByKinds.{columns-One, columns-Table, columns-View, columns-Where, columns-Select, columns-Join, columns-Group, columns-Distinct, columns-Union}
use Rattle.walk_laws.proofs.TypedRels.{some_types_by}
use Rattle.metadata.proofs.SomeTypes.{found}

-- types that the one has, the other has too, and then they are as many
abbrev pub Keeps : Columns → Columns → Type 0
Keeps a b = (ts : List Ty) → a.have ts ≡ true → (a.width ≡ b.width) × (b.have ts ≡ true)

keeps_at : (tables more : List (List Ty)) (t : ℕ) → Keeps (slice_index_or (declared_each tables) t no_columns) (slice_index_or (declared_each (tables ++ more)) t no_columns)
keeps_at [] more t ts h = absurd (cc h)
keeps_at (own ∷ tables) more zero ts h = (refl, h)
keeps_at (own ∷ tables) more (suc t) ts h = keeps_at tables more t ts h

some_keep : (a b : Columns) (passes : List Ty → Bool) → Keeps a b → some_types a.width (λ own. a.have own && passes own) ≡ true → some_types b.width (λ own. b.have own && passes own) ≡ true
some_keep a b passes keeps h =
    let own = found a.width (λ own. a.have own && passes own) h in
    let c = both (a.have own.tys) (passes own.tys) own.pass in
    let k = keeps own.tys c.0 in
    some_types_by b.width own.tys (λ own. b.have own && passes own) (sym (own.many ∙ k.0)) (both_true k.1 c.1)

module _ (tables more views : List (List Ty)) (vars : List Ty) where
  abbrev fewer : Rel → Columns
  fewer = columns_of tables views vars

  abbrev larger : Rel → Columns
  larger = columns_of (tables ++ more) views vars

  abbrev Kept : Rel → Type 0
  Kept r = Keeps (fewer r) (larger r)

  -- by what the equations say
  kept : (r : Rel) (a b : Columns) → fewer r ≡ a → larger r ≡ b → Keeps a b → Kept r
  kept r a b is too keeps = subst (λ c. Keeps c (larger r)) (sym is) (subst (λ c. Keeps a c) (sym too) keeps)

  keeps_where : (a b : Columns) (e : Expr) → Keeps a b → Keeps (columns_step tables views vars (Rel-F.Where a e)) (columns_step (tables ++ more) views vars (Rel-F.Where b e))
  keeps_where a b e keeps ts h = let c = both (a.have ts) (has_type ts vars e Boolean) h in let k = keeps ts c.0 in (k.0, both_true k.1 c.1)

  keeps_join : (a b c d : Columns) (kind : JoinKind) (on : Expr) → Keeps a b → Keeps c d → Keeps (columns_step tables views vars (Rel-F.Join kind a c on)) (columns_step (tables ++ more) views vars (Rel-F.Join kind b d on))
  keeps_join a b c d kind on left right ts h =
      let w = both (a.have (take a.width ts) && c.have (drop a.width ts)) (has_type ts vars on Boolean) h in
      let p = both (a.have (take a.width ts)) (c.have (drop a.width ts)) w.0 in
      let k = left (take a.width ts) p.0 in
      let m = right (drop a.width ts) p.1 in (
        cc (k.0, m.0),
        both_true (both_true (subst (λ n. b.have (take n ts) ≡ true) k.0 k.1) (subst (λ n. d.have (drop n ts) ≡ true) k.0 m.1)) w.1,
      )

  parts_keep : (rs : List Rel) → AllByRecursion Kept rs → (ts : List Ty) → parts_have (map fewer rs) ts ≡ true → parts_have (map larger rs) ts ≡ true
  parts_keep [] all ts h = refl
  parts_keep (r ∷ rs) all ts h =
      let w = both ((fewer r).width == length ts && some_types (fewer r).width (λ own. (fewer r).have own && all_go_into own ts)) (parts_have (map fewer rs) ts) h in
      let p = both ((fewer r).width == length ts) (some_types (fewer r).width (λ own. (fewer r).have own && all_go_into own ts)) w.0 in
      let own = found (fewer r).width (λ own. (fewer r).have own && all_go_into own ts) p.1 in
      let k = all.0 own.tys (both ((fewer r).have own.tys) (all_go_into own.tys ts) own.pass).0 in
      both_true (both_true (subst (λ n. (n == length ts) ≡ true) k.0 p.0) (some_keep (fewer r) (larger r) (λ own. all_go_into own ts) all.0 p.1)) (parts_keep rs all.1 ts w.1)

  first_keeps : (rs : List Rel) → AllByRecursion Kept rs → (ts : List Ty) → parts_have (map fewer rs) ts ≡ true
      → first_width (map fewer rs) ≡ first_width (map larger rs)
  first_keeps [] all ts h = refl
  first_keeps (r ∷ rs) all ts h =
      let w = both ((fewer r).width == length ts && some_types (fewer r).width (λ own. (fewer r).have own && all_go_into own ts)) (parts_have (map fewer rs) ts) h in
      let p = both ((fewer r).width == length ts) (some_types (fewer r).width (λ own. (fewer r).have own && all_go_into own ts)) w.0 in
      let own = found (fewer r).width (λ own. (fewer r).have own && all_go_into own ts) p.1 in
      (all.0 own.tys (both ((fewer r).have own.tys) (all_go_into own.tys ts) own.pass).0).0

  keeps_union : (rs : List Rel) → AllByRecursion Kept rs
      → Keeps (columns_step tables views vars (Rel-F.Union (map fewer rs))) (columns_step (tables ++ more) views vars (Rel-F.Union (map larger rs)))
  keeps_union rs all ts h =
      let w = both (first_width (map fewer rs) == length ts) (parts_have (map fewer rs) ts) h in
      let same = first_keeps rs all ts w.1 in
      (same, both_true (subst (λ n. (n == length ts) ≡ true) same w.0) (parts_keep rs all ts w.1))

  pub columns_keep : (r : Rel) → Kept r
  columns_keep = rel_by_kinds Kept (record {
    onOne = kept One _ _ (columns-One tables views vars) (columns-One (tables ++ more) views vars) (λ ts h. (refl, h));
    onTable = λ t. kept (Table t) _ _ (columns-Table tables views vars t) (columns-Table (tables ++ more) views vars t) (keeps_at tables more t);
    onView = λ v. kept (View v) _ _ (columns-View tables views vars v) (columns-View (tables ++ more) views vars v) (λ ts h. (refl, h));
    onWhere = λ r e is. kept (Where r e) _ _ (columns-Where tables views vars r e) (columns-Where (tables ++ more) views vars r e) (keeps_where (fewer r) (larger r) e is);
    onSelect = λ r es is. kept (Select r es) _ _ (columns-Select tables views vars r es) (columns-Select (tables ++ more) views vars r es)
        (λ ts h. (refl, some_keep (fewer r) (larger r) (λ cols. all_have cols vars es ts) is h));
    onJoin = λ kind l r on is too. kept (Join kind l r on) _ _ (columns-Join tables views vars kind l r on) (columns-Join (tables ++ more) views vars kind l r on)
        (keeps_join (fewer l) (larger l) (fewer r) (larger r) kind on is too);
    onGroup = λ r keys aggs is. kept (Group r keys aggs) _ _ (columns-Group tables views vars r keys aggs) (columns-Group (tables ++ more) views vars r keys aggs)
        (λ ts h. (refl, some_keep (fewer r) (larger r) (λ cols. group_has keys aggs cols vars ts) is h));
    onDistinct = λ r is. kept (Distinct r) _ _ (columns-Distinct tables views vars r) (columns-Distinct (tables ++ more) views vars r) is;
    onUnion = λ rs all. kept (Union rs) _ _ (columns-Union tables views vars rs) (columns-Union (tables ++ more) views vars rs) (keeps_union rs all);
  })

types_appended : (tables more : List TableDef) → table_types (tables ++ more) ≡ table_types tables ++ table_types more
types_appended [] more = refl
types_appended (d ∷ tables) more = ap (λ (ts : List (List Ty)). types_of d.columns ∷ ts) (types_appended tables more)

view_keeps : (tables more : List TableDef) (before : List ViewDef) (view : ViewDef) → is_typed_over tables before view ≡ true → is_typed_over (tables ++ more) before view ≡ true
view_keeps tables more before view h =
    let keeps = columns_keep (table_types tables) (table_types more) (view_types before) [] view.rel in
    subst (λ (ts : List (List Ty)). (let columns = columns_of ts (view_types before) [] view.rel in some_types columns.width (λ own. columns.have own && all_go_into own (variable_types view.columns))) ≡ true)
    (sym (types_appended tables more))
    (some_keep (columns_of (table_types tables) (view_types before) [] view.rel) (columns_of (table_types tables ++ table_types more) (view_types before) [] view.rel)
    (λ own. all_go_into own (variable_types view.columns)) keeps h)

-- views stay typed where tables are added
pub views_keep : (tables more : List TableDef) (before views : List ViewDef) → are_typed_on tables before views ≡ true → are_typed_on (tables ++ more) before views ≡ true
views_keep tables more before [] h = refl
views_keep tables more before (view ∷ views) h =
    let c = both (is_typed_over tables before view) (are_typed_on tables (before ++ view ∷ []) views) h in
    both_true (view_keeps tables more before view c.0) (views_keep tables more (before ++ view ∷ []) views c.1)
