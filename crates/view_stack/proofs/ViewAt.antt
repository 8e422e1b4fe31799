-- The relation that stands for a view is the view's own, over the views before it.
use Rattle.std.proofs.Common.{◌≡◌, ◌∙◌, ℕ, zero, suc, ◌+◌, ◌<◌, ◌≤◌, List, [], ◌∷◌, ◌++◌, length, take, get_or, Some, ap, refl, arith, length-append, slice_get, slice_index_or}
use Rattle.std.proofs.Math.Seq.{get_or-append_seam}
use Rattle.std.proofs.lemmas.List.{get_or_append_left, get_or_past}
use Rattle.std.proofs.lemmas.Option.{slice_get_read}
use Rattle.vdb_model.specs.declared.catalog.ViewDef.{ViewDef}
use Rattle.vdb_model.specs.declared.rel.Rel.{Rel}
use Rattle.vdb_model.specs.World.{view_rels}
use Rattle.vdb_model.specs.Expanded.{expanded_over, expanded_after}

abbrev and_this : List Rel → ViewDef → List Rel
and_this done view = done ++ expanded_over done view.rel ∷ []

one_more : (done : List Rel) (view : ViewDef) → length (and_this done view) ≡ length done + 1
one_more done view = length-append done (expanded_over done view.rel ∷ [])

-- what is done stays
stays : (done views : List Rel) (k : ℕ) (d : Rel) → k < length done → get_or (expanded_after done views) k d ≡ get_or done k d
stays done [] k d h = refl
stays done (v ∷ views) k d h =
    let l : length (done ++ expanded_over done v ∷ []) ≡ length done + 1 = length-append done (expanded_over done v ∷ []) in
    stays (done ++ expanded_over done v ∷ []) views k d (omega (arith, h, l)) ∙ get_or_append_left done (expanded_over done v ∷ []) d k h

from : (done : List Rel) (views : List ViewDef) (at : ℕ) (view : ViewDef) (d : Rel) → slice_get views at ≡ Some view
    → get_or (expanded_after done (view_rels views)) (length done + at) d ≡ expanded_over (expanded_after done (view_rels (take at views))) view.rel
from done [] at view d is = absurd (cc is)
from done (x ∷ xs) zero view d is =
    let l = one_more done x in
    let none : length done + 0 ≡ length done = omega arith in
    let e : x ≡ view = cc is in
    ap (λ (k : ℕ). get_or (expanded_after (and_this done x) (view_rels xs)) k d) none
    ∙ stays (and_this done x) (view_rels xs) (length done) d (omega (arith, l))
    ∙ get_or-append_seam done (expanded_over done x.rel) [] d ∙ ap (λ (v : ViewDef). expanded_over done v.rel) e
from done (x ∷ xs) (suc at) view d is =
    let l = one_more done x in
    let e : length done + suc at ≡ length (and_this done x) + at = omega (arith, l) in
    ap (λ (k : ℕ). get_or (expanded_after (and_this done x) (view_rels xs)) k d) e ∙ from (and_this done x) xs at view d is

pub at_view : (views : List ViewDef) (at : ℕ) (view : ViewDef) (d : Rel) → at < length views → view ≡ get_or views at view
    → slice_index_or (expanded_after [] (view_rels views)) at d ≡ expanded_over (expanded_after [] (view_rels (take at views))) view.rel
at_view views at view d within is =
    let none : at ≡ 0 + at = omega arith in
    ap (λ (k : ℕ). get_or (expanded_after [] (view_rels views)) k d) none ∙ from [] views at view d (slice_get_read views (length views) at view refl within is)

all_long : (done : List Rel) (views : List ViewDef) → length (expanded_after done (view_rels views)) ≡ length done + length views
all_long done [] = omega arith
all_long done (x ∷ xs) =
    let l = one_more done x in
    let h = all_long (and_this done x) xs in
    omega arith

pub no_view : (views : List ViewDef) (at : ℕ) (d : Rel) → length views ≤ at → slice_index_or (expanded_after [] (view_rels views)) at d ≡ d
no_view views at d past =
    let l = all_long [] views in
    get_or_past (expanded_after [] (view_rels views)) at d (omega arith)
