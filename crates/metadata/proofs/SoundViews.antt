-- A view over a typed query whose tests pass leaves what is defined so far well formed.
use Rattle.std.proofs.Common.{◌≡◌, ◌∙◌, ℕ, ◌+◌, ◌≤◌, Bool, true, false, not, ◌&&◌, ◌==◌, List, [], ◌∷◌, ◌++◌, length, Option, Some, None, Ok, refl, sym, ap, subst, arith, length-append, append_assoc}
use Rattle.std.specs.List.{list_all, AllByRecursion}
use Rattle.std.specs.Option.{is_none, is_some}
use Rattle.std.specs.Cmp.Derive.{both_true}
use Rattle.std.proofs.lemmas.Bool.{eqb-true}
use Rattle.vdb_base.specs.declared.value.Ty.{Ty}
use Rattle.vdb_model.specs.declared.catalog.ViewDef.{ViewDef}
use Rattle.vdb_model.specs.declared.rel.Ranked.{Ranked}
use Rattle.vdb_model.specs.declared.rel.Rel.{Rel}
use Rattle.vdb_model.specs.declared.typed.VarDef.{VarDef}
use Rattle.vdb_model.specs.Chains.{chain_below, chains_after, chain_of}
use Rattle.vdb_model.specs.Columns.{all_go_into}
use Rattle.vdb_model.specs.Sizes.{nodes_of, depth_of}
use Rattle.vdb_model.specs.Typed.{goes_into}
use Rattle.vdb_model.specs.WellFormed.{IsWellFormed, stands_in_schema, variable_types, is_typed_over, is_name, is_named_variable}
use Rattle.vdb_model.specs.World.{view_rels}
use Rattle.view_stack.proofs.NoVariables.{both}
use Rattle.sql_reader.specs.declared.tree.name.Name.{Name}
use Rattle.sql_reader.specs.declared.tree.query.Query.{Query}
use Rattle.vdb_ddl.specs.declared.tree.Setting.{Setting}
use Rattle.vdb_ddl.specs.declared.tree.ViewColumn.{ViewColumn}
use Rattle.metadata.specs.declared.so_far.SoFar.{SoFar}
use Rattle.metadata.specs.SoFar.{schema_set, relation_text, bad_name}
use Rattle.metadata.specs.Sound.{IsSound}
use Rattle.metadata.specs.Tests.{first, unless}
use Rattle.metadata.specs.Views.{type_at, declared, named_columns, listed_columns, view_columns, are_apart, are_listed, fits_list, badly_named_in, view_tests, query_tests, view_of, with_view, view_over}
use Rattle.metadata.specs.Views as view
use Rattle.metadata.specs.Walked.{IsTypedQuery}
use Rattle.walk_laws.specs.Typed.{columns_over}
use Rattle.walk_laws.proofs.KnownTypes.{goes_self}
use Rattle.walk_laws.proofs.TypedRels.{some_types_by}
use Rattle.metadata.proofs.DeployGives.{Gives, gives, gives_next, gives_unless, Passes, all_pass, fails_not, few}
use Rattle.metadata.proofs.LongerLists.{at_most}
use Rattle.metadata.proofs.SoundSoFar.{good_name}
use Rattle.metadata.proofs.SoundTables.{set_stands, good_count}
use Rattle.metadata.proofs.WellViews.{IsNewView, with_view_well}

-- the chains of the views with one more

rels_more : (views : List ViewDef) (view : ViewDef) → view_rels (views ++ view ∷ []) ≡ view_rels views ++ view.rel ∷ []
rels_more [] view = refl
rels_more (v ∷ views) view = ap (λ (rels : List Rel). v.rel ∷ rels) (rels_more views view)

after_more : (done : List ℕ) (rels : List Rel) (rel : Rel) → chains_after done (rels ++ rel ∷ []) ≡ chains_after done rels ++ (chain_below (chains_after done rels) rel + 1) ∷ []
after_more done [] rel = refl
after_more done (r ∷ rels) rel = after_more (done ++ (chain_below done r + 1) ∷ []) rels rel

chains_more : (chains : List ℕ) (views : List ViewDef) (view : ViewDef) → chains ≡ chains_after [] (view_rels views) → chains ++ (chain_below chains view.rel + 1) ∷ [] ≡ chains_after [] (view_rels (views ++ view ∷ []))
chains_more chains views view is =
    ap (λ (cs : List ℕ). cs ++ (chain_below cs view.rel + 1) ∷ []) is ∙ sym (after_more [] (view_rels views) view.rel) ∙ ap (chains_after []) (sym (rels_more views view))

-- the types of the view's columns

at_end : (before : List Ty) (t : Ty) (after : List Ty) → type_at (before ++ t ∷ after) (length before) ≡ t
at_end [] t after = refl
at_end (b ∷ before) t after = at_end before t after

-- the types from a place on, which is past these
abbrev IsPast : List Ty → List Ty → List Ty → ℕ → Type 0
IsPast tys before after at = (tys ≡ before ++ after) × (at ≡ length before)

one_past : (tys before : List Ty) (t : Ty) (after : List Ty) (at : ℕ) → IsPast tys before (t ∷ after) at → IsPast tys (before ++ t ∷ []) after (at + 1)
one_past tys before t after at is =
    let more : length (before ++ t ∷ []) ≡ length before + 1 = length-append before (t ∷ []) in
    let here = is.1 in
    (is.0 ∙ sym (append_assoc before (t ∷ []) after), omega arith)

type_here : (tys before : List Ty) (t : Ty) (after : List Ty) (at : ℕ) → IsPast tys before (t ∷ after) at → type_at tys at ≡ t
type_here tys before t after at is = ap (λ (ts : List Ty). type_at ts at) is.0 ∙ ap (type_at (before ++ t ∷ after)) is.1 ∙ at_end before t after

named_go : (tys before after : List Ty) (at : ℕ) (names : List (List ℕ)) → IsPast tys before after at → length names ≡ length after → all_go_into after (variable_types (named_columns at tys names)) ≡ true
named_go tys before [] at [] is paired = refl
named_go tys before [] at (name ∷ names) is paired = absurd (omega arith)
named_go tys before (t ∷ after) at [] is paired = absurd (omega arith)
named_go tys before (t ∷ after) at (name ∷ names) is paired =
    both_true (subst (λ (own : Ty). goes_into t own ≡ true) (sym (type_here tys before t after at is)) (goes_self t))
    (named_go tys (before ++ t ∷ []) after (at + 1) names (one_past tys before t after at is) (omega arith))

listed_go : (tys before after : List Ty) (at : ℕ) (columns : List ViewColumn) → IsPast tys before after at → length columns ≡ length after → are_listed at tys columns ≡ true
    → all_go_into after (variable_types (listed_columns at tys columns)) ≡ true
listed_go tys before [] at [] is paired listed = refl
listed_go tys before [] at (column ∷ columns) is paired listed = absurd (omega arith)
listed_go tys before (t ∷ after) at [] is paired listed = absurd (omega arith)
listed_go tys before (t ∷ after) at (column ∷ columns) is paired listed =
    let c = both (goes_into (type_at tys at) (declared column.ty (type_at tys at))) (are_listed (at + 1) tys columns) listed in
    both_true (subst (λ (own : Ty). goes_into own (declared column.ty (type_at tys at)) ≡ true) (type_here tys before t after at is) c.0)
    (listed_go tys (before ++ t ∷ []) after (at + 1) columns (one_past tys before t after at is) (omega arith) c.1)

columns_go : (columns : Option (List ViewColumn)) (query : Ranked) → length query.names ≡ length query.tys → fits_list columns query.tys ≡ true → all_go_into query.tys (variable_types (view_columns columns query)) ≡ true
columns_go None query paired fits = named_go query.tys [] query.tys 0 query.names (refl, refl) paired
columns_go (Some columns) query paired fits =
    let c = both (length columns == length query.tys) (are_listed 0 query.tys columns) fits in
    listed_go query.tys [] query.tys 0 columns (refl, refl) (eqb-true (length columns) (length query.tys) c.0) c.1

-- the names of the view's columns
columns_named : (columns : List VarDef) → badly_named_in columns ≡ None → list_all is_named_variable columns ≡ true
columns_named [] pass = refl
columns_named (column ∷ columns) pass =
    let each = all_pass (bad_name column.name ∷ badly_named_in columns ∷ []) pass in
    both_true (good_name column.name each.0) (columns_named columns each.1.0)

is_virtual : (server : Option ℕ) → is_some server ≡ false → server ≡ None
is_virtual None virtual = refl
is_virtual (Some n) virtual = absurd (cc virtual)

holds : (b : Bool) → not b ≡ false → b ≡ true
holds true h = refl
holds false h = absurd (cc h)

-- a view would stand in the schema that is set, which is virtual
pub virtual_stands : (s : SoFar) → IsSound s → is_none s.schema ≡ false → is_some (schema_set s).server ≡ false → stands_in_schema s.catalog.schemas None (schema_set s).name ≡ true
virtual_stands s h there virtual =
    subst (λ (n : Option ℕ). stands_in_schema s.catalog.schemas n (schema_set s).name ≡ true) (is_virtual (schema_set s).server virtual) (set_stands s.catalog.schemas s.schema there h.set)

-- the schema that is set, where the tests before the query pass
pub tested_stands : (s : SoFar) (name : Name) (columns : Option (List ViewColumn)) (options : List Setting) → IsSound s → first (view_tests s name columns options) ≡ None
    → stands_in_schema s.catalog.schemas None (schema_set s).name ≡ true
tested_stands s name columns options h none =
    let pass = all_pass (view_tests s name columns options) none in
    virtual_stands s h (fails_not (is_none s.schema) _ pass.0) (fails_not (is_some (schema_set s).server) _ pass.1.1.0)

-- a view of this query's relation that can be added
record Stands (s : SoFar) (query : Ranked) (d : ViewDef) : Type 0 where
  pub new : IsNewView s.catalog d
  pub rel : d.rel ≡ query.rel

-- the view's definition, where all tests pass
module _ (s : SoFar) (name : Name) (columns : Option (List ViewColumn)) (options : List Setting) (query : Ranked) (h : IsSound s)
    (stands : stands_in_schema s.catalog.schemas None (schema_set s).name ≡ true) (typed : IsTypedQuery s.catalog query) where
  view_typed : fits_list columns query.tys ≡ true → is_typed_over s.catalog.tables s.catalog.views (view_of s name columns options query) ≡ true
  view_typed fits =
      let own = columns_over s.catalog query.rel in
      some_types_by own.width query.tys (λ ts. own.have ts && all_go_into ts (variable_types (view_columns columns query))) typed.typed.columns.width
      (both_true typed.typed.columns.have (columns_go columns query typed.typed.names fits))

  -- the tests by their places
  new_view : AllByRecursion Passes (query_tests s name columns query) → IsNewView s.catalog (view_of s name columns options query)
  new_view pass =
      let good = holds (fits_list columns query.tys && are_apart (view_columns columns query)) (fails_not (not (fits_list columns query.tys && are_apart (view_columns columns query))) _ pass.0) in
      let names = pass.1.1.1 in
      let sizes = pass.1.1.1.1.1 in
      record {
        stands = stands;
        views = typed.closed.views;
        closed = typed.closed.closed;
        nodes = refl;
        depth = refl;
        typed = view_typed (both (fits_list columns query.tys) (are_apart (view_columns columns query)) good).0;
        named = both_true (good_name name.text names.0) (columns_named (view_columns columns query) names.1.0);
        few = few 1024 (length s.catalog.tables + length s.catalog.views + 1) (relation_text s name) pass.1.0;
        columns = (good_count s name (length (view_columns columns query)) pass.1.1.0).1;
        size = both_true (at_most (nodes_of s.catalog.views query.rel) 4096 (few 4096 (nodes_of s.catalog.views query.rel) (relation_text s name) sizes.1.0))
            (at_most (depth_of s.catalog.views query.rel) 512 (few 512 (depth_of s.catalog.views query.rel) (relation_text s name) sizes.1.1.0));
        chain = subst (λ (chains : List ℕ). chain_below chains query.rel + 1 ≤ 16) h.chains (few 16 (view.chain_of s query) (relation_text s name) sizes.0);
      }

  view_stands : Gives (unless (query_tests s name columns query) (view_of s name columns options query)) (Stands s query)
  view_stands = gives_unless (Stands s query) (query_tests s name columns query) (view_of s name columns options query) (λ pass. record { new = new_view pass; rel = refl })

  -- the catalog with the view
  pub view_well : (d : ViewDef) → unless (query_tests s name columns query) (view_of s name columns options query) ≡ Ok d → IsWellFormed (record s.catalog { views = s.catalog.views ++ d ∷ [] })
  view_well d is = with_view_well s.catalog d h.well (view_stands.each d is).new

  with_view_sound : (d : ViewDef) → Stands s query d → IsSound (with_view s d (view.chain_of s query))
  with_view_sound d stands = record {
    well = with_view_well s.catalog d h.well stands.new;
    chains = subst (λ (rel : Rel). s.chains ++ (chain_below s.chains rel + 1) ∷ [] ≡ chains_after [] (view_rels (s.catalog.views ++ d ∷ []))) stands.rel (chains_more s.chains s.catalog.views d h.chains);
    set = h.set;
  }

  pub view_over_sound : Gives (view_over s name columns options query) IsSound
  view_over_sound = gives_next view_stands (λ d stands. gives IsSound (with_view s d (view.chain_of s query)) (with_view_sound d stands))
