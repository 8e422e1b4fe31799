-- Views over views: each names only views before it.
use Rattle.std.specs.Prelude.{ℕ, Bool, true, ◌&&◌, ◌==◌, nat_lt, List, [], ◌∷◌, ◌++◌, length}
use Rattle.vdb_model.specs.declared.catalog.ViewDef.{ViewDef}
use Rattle.vdb_model.specs.declared.rel.Rel.{Rel}
use Rattle.vdb_model.specs.declared.rel.Rel.TheOpen.{Rel-F}
use Rattle.vdb_model.specs.declared.rel.Rel.TheFolds.{fold-Rel}
use Rattle.vdb_model.specs.Closed.{all_true, reads_no_variable}
use Rattle.vdb_model.specs.Sizes.{nodes_of, depth_of}

-- one layer, by whether its parts name such views alone
abbrev pub named_step : ℕ → Rel-F Bool → Bool
named_step count Rel-F.One = true
named_step count (Rel-F.Table t) = true
named_step count (Rel-F.View v) = nat_lt v count
named_step count (Rel-F.Where r condition) = r
named_step count (Rel-F.Select r es) = r
named_step count (Rel-F.Join kind l r on) = l && r
named_step count (Rel-F.Group r keys aggs) = r
named_step count (Rel-F.Distinct r) = r
named_step count (Rel-F.Union rs) = all_true rs

-- the relation names only the first views, so many
unfoldable pub names_first : ℕ → Rel → Bool
names_first count = fold-Rel Bool (named_step count)

-- no view is left
abbrev pub has_no_view : Rel → Bool
has_no_view rel = names_first 0 rel

-- over the views before it: it names them alone, reads no variable, and its kept size is that of its relation
abbrev pub stands_on : List ViewDef → ViewDef → Bool
stands_on before view = names_first (length before) view.rel && reads_no_variable view.rel && view.nodes == nodes_of before view.rel && view.depth == depth_of before view.rel

-- each view of the list stands on those before it
abbrev pub are_stacked_on : List ViewDef → List ViewDef → Bool
are_stacked_on before [] = true
are_stacked_on before (view ∷ views) = stands_on before view && are_stacked_on (before ++ view ∷ []) views

abbrev pub are_stacked : List ViewDef → Bool
are_stacked views = are_stacked_on [] views
