-- The measure of the expansion: the nodes of the relation and of all views that it may reach.
use Rattle.std.proofs.Common.{◌≡◌, ℕ, zero, suc, ◌+◌, ◌<◌, List, [], ◌∷◌, take, Some, refl, length, get_or, arith, slice_get}
use Rattle.std.proofs.lemmas.Option.{slice_get_read}
use Rattle.vdb_model.specs.declared.catalog.ViewDef.{ViewDef}
use Rattle.vdb_model.specs.Sizes.{nodes_of}

abbrev pub nodes_below : List ViewDef → ℕ
nodes_below [] = 0
nodes_below (view ∷ views) = nodes_of [] view.rel + 1 + nodes_below views

falls : (views : List ViewDef) (at : ℕ) (view : ViewDef) → slice_get views at ≡ Some view → nodes_of [] view.rel + nodes_below (take at views) < nodes_below views
falls [] at view is = absurd (cc is)
falls (x ∷ xs) zero view is =
    let e : nodes_of [] x.rel ≡ nodes_of [] view.rel = cc is in
    omega arith
falls (x ∷ xs) (suc at) view is =
    let h = falls xs at view is in
    omega arith

-- a view with those before it has fewer
pub view_falls : (views : List ViewDef) (at : ℕ) (view : ViewDef) → at < length views → view ≡ get_or views at view → nodes_of [] view.rel + nodes_below (take at views) < nodes_below views
view_falls views at view within is = falls views at view (slice_get_read views (length views) at view refl within is)
