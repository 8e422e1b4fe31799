-- A change of an attached store, step by step.
use Rattle.std.proofs.Common.{◌≡◌, ℕ, Bool, true, false, not, List, [], ◌∷◌, ◌++◌, get_or, Option, Some, IfSome, IfOk, Result, Ok, Err, refl, sym, ap, subst, ◌∙◌}
use Rattle.vdb_model.specs.declared.expr.Expr.{Expr}
use Rattle.vdb_model.specs.declared.source.Delta.{Delta}
use Rattle.vdb_model.specs.declared.table.TableDef.{TableDef}
use Rattle.vdb_model.specs.Defs.{def_of}
use Rattle.vdb_model.specs.Deltas.{after_delta, after_deltas, are_there, repeats_key}
use Rattle.vdb_model.specs.Rows.{Cells}
use Rattle.vdb_model.specs.World.{is_world, table_rows}
use Rattle.resource.specs.Checked.{passing_cut}
use Rattle.resource.specs.Making.{by_name}
use Rattle.resource.specs.declared.stored.StoredDelta.{StoredDelta}
use Rattle.resource.proofs.ByName.{after_append}
use Rattle.store_tables.specs.Counting.{SameBag, times}
use Rattle.store_tables.specs.Shelves.{IsPlace, SameShelf, ShelfHas}
use Rattle.store_tables.specs.Tables.{AreKeys}
use Rattle.store_tables.specs.declared.shelf.Shelf.{Shelf}
use Rattle.store_tables.specs.declared.table.Keys.{Keys}
use Rattle.store_tables.proofs.OneTable.{def_at}

-- the stored form of a change, by the definition at the table's place
pub named_at : (defs found : List TableDef) (delta : Delta) (at : ℕ) (d : TableDef) (stored : StoredDelta) → IsPlace delta.table defs at → found ≡ defs → stored ≡ by_name (get_or found at d).source delta → stored ≡ by_name (def_of defs delta.table).source delta
named_at defs found delta at d stored place same is =
    is ∙ ap (λ (l : List TableDef). by_name (get_or l at d).source delta) same ∙ ap (λ (e : TableDef). by_name e.source delta) (sym (def_at delta.table defs at d place))

-- ---- the key

-- the test of the key, after memory was taken
pub key_said : (made apart : Bool) (old new : Shelf) (delta : Delta) (at : ℕ) (keys : Keys) → SameShelf old new → IsPlace delta.table old.defs at → ((d : TableDef) → AreKeys (get_or old.defs at d).key delta keys) → made ≡ apart
    → ((kept seen : List (List Cells)) (change : Delta) → IsPlace change.table new.defs at → ((d : TableDef) → AreKeys (get_or new.defs at d).key change keys) → ShelfHas kept seen new → is_world new.defs seen ≡ true
    → are_there change.removed (table_rows new.defs seen change.table) ≡ true → apart ≡ not (repeats_key new.defs seen change))
    → (kept seen : List (List Cells)) → ShelfHas kept seen old → is_world old.defs seen ≡ true → are_there delta.removed (table_rows old.defs seen delta.table) ≡ true → made ≡ not (repeats_key old.defs seen delta)
key_said made apart old new delta at keys same place are is says kept seen has world there =
    is
    ∙ subst (λ (l : List TableDef). apart ≡ not (repeats_key l seen delta)) same.defs
    (says kept seen delta
    (subst (λ (l : List TableDef). IsPlace delta.table l at) (sym same.defs) place)
    (λ d. subst (λ (l : List TableDef). AreKeys (get_or l at d).key delta keys) (sym same.defs) (are d))
    (same.has kept seen has)
    (subst (λ (l : List TableDef). is_world l seen ≡ true) (sym same.defs) world)
    (subst (λ (l : List TableDef). are_there delta.removed (table_rows l seen delta.table) ≡ true) (sym same.defs) there))

pub repeats : (b : Bool) → false ≡ not b → b ≡ true
repeats true h = refl
repeats false h = h

-- ---- the rows

-- a change was noted and made
pub applied : (old mid noted new : Shelf) (deltas more : List Delta) (delta : Delta) (at : ℕ) (made : Option Keys) (keys : Keys) (found : List TableDef) → SameShelf old mid → noted ≡ mid → new.defs ≡ noted.defs → more ≡ deltas ++ delta ∷ []
    → found ≡ old.defs → IsPlace delta.table found at → made ≡ Some keys → IfSome made (λ k. (d : TableDef) → AreKeys (get_or old.defs at d).key delta k)
    → ((kept seen : List (List Cells)) → IsPlace delta.table noted.defs at → ((d : TableDef) → AreKeys (get_or noted.defs at d).key delta keys) → ShelfHas kept seen noted → ShelfHas kept (after_delta noted.defs seen delta) new)
    → (kept : List (List Cells)) → ShelfHas kept (after_deltas old.defs kept deltas) old → ShelfHas kept (after_deltas new.defs kept more) new
applied old mid noted new deltas more delta at made keys found same still new_defs pushed is_found place some are makes kept has =
    let seen = after_deltas old.defs kept deltas in
    let noted_defs : noted.defs ≡ old.defs = ap (λ (s : Shelf). s.defs) still ∙ same.defs in
    let keys_are = subst (λ (o : Option Keys). IfSome o (λ k. (d : TableDef) → AreKeys (get_or old.defs at d).key delta k)) some are in
    let made_seen = makes kept seen (subst (λ (l : List TableDef). IsPlace delta.table l at) (is_found ∙ sym noted_defs) place) (λ d. subst (λ (l : List TableDef). AreKeys (get_or l at d).key delta keys) (sym noted_defs) (keys_are d))
    (subst (λ (s : Shelf). ShelfHas kept seen s) (sym still) (same.has kept seen has)) in
    let all = sym (ap (λ (l : List TableDef). after_deltas l kept more) (new_defs ∙ noted_defs) ∙ ap (after_deltas old.defs kept) pushed ∙ after_append old.defs kept deltas (delta ∷ [])) in
    subst (λ (s : List (List Cells)). ShelfHas kept s new) all (subst (λ (l : List TableDef). ShelfHas kept (after_delta l seen delta) new) noted_defs made_seen)

-- what the shelf answers, of the rows that the branch sees
pub answers_first : {E : Type 0} (result : Result (List Cells) E) (shelf : Shelf) (deltas : List Delta) (es passed : List Expr) (columns cut : List ℕ) (number asked : ℕ) → passed ≡ es → cut ≡ columns → asked ≡ number
    → IfOk result (λ made. (kept : List (List Cells)) → (seen : List (List Cells)) → ShelfHas kept seen shelf → SameBag made (passing_cut passed cut (table_rows shelf.defs seen asked)))
    → IfOk result (λ made. (kept : List (List Cells)) → ShelfHas kept (after_deltas shelf.defs kept deltas) shelf → SameBag made (passing_cut es columns (table_rows shelf.defs (after_deltas shelf.defs kept deltas) number)))
answers_first (Ok made) shelf deltas es passed columns cut number asked p q same says = λ kept has r.
    let seen = after_deltas shelf.defs kept deltas in
    says kept seen has r
    ∙ ap (λ (l : List Expr). times r (passing_cut l cut (table_rows shelf.defs seen asked))) p
    ∙ ap (λ (l : List ℕ). times r (passing_cut es l (table_rows shelf.defs seen asked))) q
    ∙ ap (λ (n : ℕ). times r (passing_cut es columns (table_rows shelf.defs seen n))) same
answers_first (Err e) shelf deltas es passed columns cut number asked p q same says = tt
