-- What the definitions give for each part of a union.
use Rattle.std.specs.Prelude.{ℕ, Bool, List, [], ◌∷◌}
use Rattle.vdb_model.specs.declared.catalog.ViewDef.{ViewDef}
use Rattle.vdb_model.specs.declared.rel.Rel.{Rel}
use Rattle.vdb_model.specs.Sizes.{nodes_of, depth_of}
use Rattle.vdb_model.specs.Stacked.{names_first}
use Rattle.vdb_model.specs.Expanded.{expanded_over}

abbrev pub nodes_each : List ViewDef → List Rel → List ℕ
nodes_each views [] = []
nodes_each views (r ∷ rs) = nodes_of views r ∷ nodes_each views rs

abbrev pub depth_each : List ViewDef → List Rel → List ℕ
depth_each views [] = []
depth_each views (r ∷ rs) = depth_of views r ∷ depth_each views rs

abbrev pub named_each : ℕ → List Rel → List Bool
named_each count [] = []
named_each count (r ∷ rs) = names_first count r ∷ named_each count rs

abbrev pub expanded_each : List Rel → List Rel → List Rel
expanded_each views [] = []
expanded_each views (r ∷ rs) = expanded_over views r ∷ expanded_each views rs
