-- A view more, and the catalog is well formed as before.
use Rattle.std.proofs.Common.{◌≡◌, ◌∙◌, ◌+◌, ◌≤◌, Bool, true, ◌&&◌, List, [], ◌∷◌, ◌++◌, length, None, refl, sym, subst, arith, length-append, append-nil, append_assoc}
use Rattle.std.specs.Prelude.{nat_le}
use Rattle.std.specs.Cmp.Derive.{both_true}
use Rattle.std.proofs.lemmas.Bool.{eq-eqb}
use Rattle.vdb_model.specs.declared.catalog.SchemaDef.{SchemaDef}
use Rattle.vdb_model.specs.declared.catalog.ViewDef.{ViewDef}
use Rattle.vdb_model.specs.Chains.{chain_of}
use Rattle.vdb_model.specs.Closed.{reads_no_variable}
use Rattle.vdb_model.specs.Defined.{Defined}
use Rattle.vdb_model.specs.Sizes.{nodes_of, depth_of, is_within_size}
use Rattle.vdb_model.specs.Stacked.{names_first, stands_on, are_stacked_on}
use Rattle.vdb_model.specs.WellFormed.{IsWellFormed, stands_in_schema, views_stand, is_typed_over, are_typed_on, are_limited_on, is_named_view}
use Rattle.view_stack.proofs.NoVariables.{both}
use Rattle.metadata.proofs.LongerLists.{at_most, all_more}
use Rattle.metadata.proofs.WellParts.{names_of, all_named, limits_of, all_limited}

-- what has to hold of a view that is added
pub record IsNewView (cat : Defined) (view : ViewDef) : Type 0 where
  pub stands : stands_in_schema cat.schemas None view.schema ≡ true
  pub views : names_first (length cat.views) view.rel ≡ true
  pub closed : reads_no_variable view.rel ≡ true
  pub nodes : view.nodes ≡ nodes_of cat.views view.rel
  pub depth : view.depth ≡ depth_of cat.views view.rel
  pub typed : is_typed_over cat.tables cat.views view ≡ true
  pub named : is_named_view view ≡ true
  pub few : length cat.tables + length cat.views + 1 ≤ 1024
  pub columns : length view.columns ≤ 256
  pub size : is_within_size view.nodes view.depth ≡ true
  pub chain : chain_of cat.views view.rel ≤ 16

stand_more : (schemas : List SchemaDef) (views : List ViewDef) (view : ViewDef) → views_stand schemas views ≡ true → stands_in_schema schemas None view.schema ≡ true → views_stand schemas (views ++ view ∷ []) ≡ true
stand_more schemas [] view h is = both_true is refl
stand_more schemas (v ∷ views) view h is =
    let c = both (stands_in_schema schemas None v.schema) (views_stand schemas views) h in
    both_true c.0 (stand_more schemas views view c.1 is)

-- what holds of each view over those before it
module _ (holds : List ViewDef → ViewDef → Bool) (hold : List ViewDef → List ViewDef → Bool)
    (none : (before : List ViewDef) → hold before [] ≡ true)
    (one : (before : List ViewDef) (view : ViewDef) (views : List ViewDef) → hold before (view ∷ views) ≡ (holds before view && hold (before ++ view ∷ []) views)) where
  pub hold_more : (before views : List ViewDef) (view : ViewDef) → hold before views ≡ true → holds (before ++ views) view ≡ true → hold before (views ++ view ∷ []) ≡ true
  hold_more before [] view h is =
      one before view [] ∙ both_true (subst (λ (all : List ViewDef). holds all view ≡ true) (append-nil before) is) (none (before ++ view ∷ []))
  hold_more before (v ∷ views) view h is =
      let c = both (holds before v) (hold (before ++ v ∷ []) views) (sym (one before v views) ∙ h) in
      one before v (views ++ view ∷ []) ∙ both_true c.0 (hold_more (before ++ v ∷ []) views view c.1 (subst (λ (all : List ViewDef). holds all view ≡ true) (sym (append_assoc before (v ∷ []) views)) is))

-- a view within the limits, over those before it
abbrev is_limited_over : List ViewDef → ViewDef → Bool
is_limited_over before view = nat_le (length view.columns) 256 && is_within_size view.nodes view.depth && nat_le (chain_of before view.rel) 16

pub with_view_well : (cat : Defined) (view : ViewDef) → IsWellFormed cat → IsNewView cat view → IsWellFormed (record cat { views = cat.views ++ view ∷ [] })
with_view_well cat view well new =
    let more : length (cat.views ++ view ∷ []) ≡ length cat.views + 1 = length-append cat.views (view ∷ []) in
    let names = names_of cat well.named in
    let limits = limits_of cat well.limited in
    let few = new.few in
    let limited : is_limited_over cat.views view ≡ true = both_true (both_true (at_most (length view.columns) 256 new.columns) new.size) (at_most (chain_of cat.views view.rel) 16 new.chain) in
    record {
      schemas = well.schemas;
      tables = well.tables;
      views = stand_more cat.schemas cat.views view well.views new.stands;
      placed = well.placed;
      fit = well.fit;
      stacked = hold_more stands_on are_stacked_on (λ before. refl) (λ before v views. refl) [] cat.views view well.stacked
          (both_true (both_true (both_true new.views new.closed) (eq-eqb view.nodes (nodes_of cat.views view.rel) new.nodes)) (eq-eqb view.depth (depth_of cat.views view.rel) new.depth));
      typed = hold_more (is_typed_over cat.tables) (are_typed_on cat.tables) (λ before. refl) (λ before v views. refl) [] cat.views view well.typed new.typed;
      named = all_named (record cat { views = cat.views ++ view ∷ [] })
          (record { servers = names.servers; schemas = names.schemas; tables = names.tables; views = all_more is_named_view cat.views view names.views new.named });
      limited = all_limited (record cat { views = cat.views ++ view ∷ [] })
          (record {
            servers = limits.servers;
            schemas = limits.schemas;
            relations = at_most (length cat.tables + length (cat.views ++ view ∷ [])) 1024 (omega arith);
            procedures = limits.procedures;
            views = hold_more is_limited_over are_limited_on (λ before. refl) (λ before v views. refl) [] cat.views view limits.views limited;
          });
    }
