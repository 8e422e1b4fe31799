-- The tables fetched so far, and one more.
use Rattle.std.proofs.Common.{◌≡◌, ℕ, zero, suc, ◌+◌, ◌<◌, ◌⊎◌, inl, inr, Bool, true, false, Result, Ok, Err, List, [], ◌∷◌, ◌++◌, Option, None, length, slice_index_or, refl, sym, ap, ◌∙◌, subst, arith}
use Rattle.std.proofs.Math.ListN.{get_or-append}
use Rattle.std.proofs.Math.Seq.{get_or-append_seam}
use Rattle.std.specs.Prelude.{IfSome, IsPermutation, OnOk, is_err}
use Rattle.std.proofs.lemmas.List.{length-append}
use Rattle.catalog_laws.specs.Over.{HasNoPatterns}
use Rattle.vdb_model.specs.declared.bag.Bag.{Bag}
use Rattle.vdb_model.specs.declared.table.TableDef.{TableDef}
use Rattle.vdb_model.specs.Defined.{Defined}
use Rattle.vdb_model.specs.Defs.{no_table}
use Rattle.vdb_model.specs.Relations.{no_bag}
use Rattle.vdb_model.specs.Rows.{Cells}
use Rattle.vdb_model.specs.WellFormed.{IsWellFormed}
use Rattle.processor.specs.Reads.{mark}
use Rattle.resource.specs.declared.lane.Lane.{Lane}
use Rattle.resource.specs.Told.{Told}
use Rattle.vdb_session.specs.Fetching.{AreAttached, AreFetchedTo, IsFetched, MayAsk}
use Rattle.vdb_session.specs.Lanes.{AreAsked}
use Rattle.vdb_session.specs.Shown.{rows_of_table}
use Rattle.vdb_session.proofs.ServedLanes.{attached_stay, shows_stay}
use Rattle.vdb_session.proofs.WholeTables.{may_ask_each}

-- what is fetched of lanes that were asked is of the lanes as they were
pub fetched_before : {S : Type 0} (told : S → Told) (failed : Option ℕ) (cat : Defined) (old now : List (Lane S)) (d : TableDef) (bag : Bag) → AreAsked told failed old now
    → IsFetched told cat now d bag → IsFetched told cat old d bag
fetched_before told failed cat old now d bag a h = record {
  width = h.width;
  rows = subst (λ (shown : Option (List (List Cells))). IfSome shown (λ shown. IsPermutation (rows_of_table cat d shown) bag.rows)) (shows_stay told failed cat d.server old now a) h.rows;
}

fetched_at : {S : Type 0} (told : S → Told) (cat : Defined) (lanes : List (Lane S)) (marks : List Bool) (at : ℕ) (bags : List Bag) (bag : Bag) (n : ℕ) → (n < at) ⊎ (n ≡ at)
    → length bags ≡ at → mark marks n ≡ true → AreFetchedTo told cat lanes marks at bags → (mark marks at ≡ true → IsFetched told cat lanes (slice_index_or cat.tables at no_table) bag)
    → IsFetched told cat lanes (slice_index_or cat.tables n no_table) (slice_index_or (bags ++ bag ∷ []) n no_bag)
fetched_at told cat lanes marks at bags bag n (inl less) count m before here =
    let within : n < length bags = omega arith in
    subst (IsFetched told cat lanes (slice_index_or cat.tables n no_table)) (sym (get_or-append bags (bag ∷ []) no_bag n within)) (before n less m)
fetched_at told cat lanes marks at bags bag n (inr same) count m before here =
    let last : length bags ≡ n = count ∙ sym same in
    let it : slice_index_or (bags ++ bag ∷ []) n no_bag ≡ bag = subst (λ (k : ℕ). slice_index_or (bags ++ bag ∷ []) k no_bag ≡ bag) last (get_or-append_seam bags bag [] no_bag) in
    let fetched = subst (λ (k : ℕ). IsFetched told cat lanes (slice_index_or cat.tables k no_table) bag) (sym same) (here (subst (λ (k : ℕ). mark marks k ≡ true) same m)) in
    subst (IsFetched told cat lanes (slice_index_or cat.tables n no_table)) (sym it) fetched

less_or_same : (n at : ℕ) → n < at + 1 → (n < at) ⊎ (n ≡ at)
less_or_same n at h = grind arith

-- one table more, marked or not
pub fetched_more : {S : Type 0} (told : S → Told) (cat : Defined) (lanes : List (Lane S)) (marks : List Bool) (at : ℕ) (bags : List Bag) (bag : Bag) → length bags ≡ at
    → AreFetchedTo told cat lanes marks at bags → (mark marks at ≡ true → IsFetched told cat lanes (slice_index_or cat.tables at no_table) bag)
    → AreFetchedTo told cat lanes marks (at + 1) (bags ++ bag ∷ [])
fetched_more told cat lanes marks at bags bag count before here = λ n h m. fetched_at told cat lanes marks at bags bag n (less_or_same n at h) count m before here

-- each table in turn may be asked for of lanes that were asked before
pub may_ask_now : {S : Type 0} (told : S → Told) (cat : Defined) (old now : List (Lane S)) (tables : List TableDef) (at : ℕ) (d : TableDef) → IsWellFormed cat → HasNoPatterns cat → AreAttached told cat old → AreAsked told None old now
    → tables ≡ cat.tables → d ≡ slice_index_or tables at d → at < length tables → MayAsk told cat d now
may_ask_now told cat old now tables at d well free a asked e is h =
    let there : at < length cat.tables = subst (λ (ds : List TableDef). at < length ds) e h in
    let it : d ≡ slice_index_or cat.tables at d = is ∙ ap (λ (ds : List TableDef). slice_index_or ds at d) e in
    subst (λ (d : TableDef). MayAsk told cat d now) (sym it) (may_ask_each told cat now well free (attached_stay told None cat old now asked a) at d there)

-- what an Ok answer says
pub pushed : {T E : Type 0} (r : Result T E) (P : Type 0) → is_err r ≡ false → OnOk r P → P
pushed (Ok x) P e h = h
pushed (Err x) P e h = cc

pub count_more : (bags next : List Bag) (bag : Bag) (at : ℕ) → next ≡ bags ++ bag ∷ [] → length bags ≡ at → length next ≡ at + 1
count_more bags next bag at e count = let long = ap length e ∙ length-append bags (bag ∷ []) in omega (arith, long, count)

-- the tables up to the next, after one more was fetched
pub fetched_next : {S : Type 0} (told : S → Told) (cat : Defined) (old now : List (Lane S)) (marks : List Bool) (at : ℕ) (bags next : List Bag) (bag : Bag) (tables : List TableDef) (d : TableDef)
    → AreAsked told None old now → tables ≡ cat.tables → d ≡ slice_index_or tables at d → at < length tables → next ≡ bags ++ bag ∷ [] → length bags ≡ at
    → AreFetchedTo told cat old marks at bags → (mark marks at ≡ true → IsFetched told cat now d bag) → AreFetchedTo told cat old marks (at + 1) next
fetched_next told cat old now marks at bags next bag tables d asked e is h n count before here =
    let there : at < length cat.tables = subst (λ (ds : List TableDef). at < length ds) e h in
    let it : d ≡ slice_index_or cat.tables at no_table = is ∙ ap (λ (ds : List TableDef). slice_index_or ds at d) e ∙ any_default cat.tables at d no_table there in
    subst (λ (bs : List Bag). AreFetchedTo told cat old marks (at + 1) bs) (sym n)
    (fetched_more told cat old marks at bags bag count before (λ m. subst (λ (d : TableDef). IsFetched told cat old d bag) it (fetched_before told None cat old now d bag asked (here m))))
  where
    any_default : {X : Type 0} (xs : List X) (i : ℕ) (a b : X) → i < length xs → slice_index_or xs i a ≡ slice_index_or xs i b
    any_default [] i a b h = absurd (omega arith)
    any_default (x ∷ xs) zero a b h = refl
    any_default (x ∷ xs) (suc i) a b h = any_default xs i a b (omega arith)
