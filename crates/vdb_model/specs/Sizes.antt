-- How many nodes a relation has and how deep it is, where each view counts as what is kept of it.
use Rattle.std.specs.Prelude.{ℕ, ◌+◌, max, Bool, ◌&&◌, nat_le, List, [], ◌∷◌, slice_get, Option, Some, None}
use Rattle.vdb_model.specs.declared.catalog.ViewDef.{ViewDef}
use Rattle.vdb_model.specs.declared.rel.Rel.{Rel}
use Rattle.vdb_model.specs.declared.rel.Rel.TheOpen.{Rel-F}
use Rattle.vdb_model.specs.declared.rel.Rel.TheFolds.{fold-Rel}

-- of all parts together
abbrev pub together : List ℕ → ℕ
together [] = 0
together (n ∷ ns) = n + together ns

-- of the part that has the most
abbrev pub greatest : List ℕ → ℕ
greatest [] = 0
greatest (n ∷ ns) = max n (greatest ns)

-- none where no view has the number
abbrev pub kept_nodes : Option ViewDef → ℕ
kept_nodes None = 0
kept_nodes (Some view) = view.nodes

abbrev pub kept_depth : Option ViewDef → ℕ
kept_depth None = 0
kept_depth (Some view) = view.depth

-- every node is one; a view isn't one itself, and has the nodes that are kept of it
abbrev pub nodes_step : List ViewDef → Rel-F ℕ → ℕ
nodes_step views Rel-F.One = 1
nodes_step views (Rel-F.Table t) = 1
nodes_step views (Rel-F.View v) = kept_nodes (slice_get views v)
nodes_step views (Rel-F.Where r condition) = r + 1
nodes_step views (Rel-F.Select r es) = r + 1
nodes_step views (Rel-F.Join kind l r on) = l + r + 1
nodes_step views (Rel-F.Group r keys aggs) = r + 1
nodes_step views (Rel-F.Distinct r) = r + 1
nodes_step views (Rel-F.Union rs) = together rs + 1

unfoldable pub nodes_of : List ViewDef → Rel → ℕ
nodes_of views = fold-Rel ℕ (nodes_step views)

-- a leaf has depth 1, and so has a union without parts; a view is as deep as is kept of it
abbrev pub depth_step : List ViewDef → Rel-F ℕ → ℕ
depth_step views Rel-F.One = 1
depth_step views (Rel-F.Table t) = 1
depth_step views (Rel-F.View v) = kept_depth (slice_get views v)
depth_step views (Rel-F.Where r condition) = r + 1
depth_step views (Rel-F.Select r es) = r + 1
depth_step views (Rel-F.Join kind l r on) = max l r + 1
depth_step views (Rel-F.Group r keys aggs) = r + 1
depth_step views (Rel-F.Distinct r) = r + 1
depth_step views (Rel-F.Union rs) = greatest rs + 1

unfoldable pub depth_of : List ViewDef → Rel → ℕ
depth_of views = fold-Rel ℕ (depth_step views)

-- at most 4,096 nodes, at most 512 deep
abbrev pub is_within_size : ℕ → ℕ → Bool
is_within_size nodes depth = nat_le nodes 4096 && nat_le depth 512
