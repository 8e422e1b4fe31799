-- How many views stand over one another.
use Rattle.std.specs.Prelude.{ℕ, ◌+◌, max, List, [], ◌∷◌, ◌++◌, slice_index_or}
use Rattle.vdb_model.specs.declared.catalog.ViewDef.{ViewDef}
use Rattle.vdb_model.specs.declared.rel.Rel.{Rel}
use Rattle.vdb_model.specs.declared.rel.Rel.TheOpen.{Rel-F}
use Rattle.vdb_model.specs.declared.rel.Rel.TheFolds.{fold-Rel}
use Rattle.vdb_model.specs.Sizes.{greatest}
use Rattle.vdb_model.specs.World.{view_rels}

-- one layer, by the chains of the views
abbrev pub chain_step : List ℕ → Rel-F ℕ → ℕ
chain_step chains Rel-F.One = 0
chain_step chains (Rel-F.Table t) = 0
chain_step chains (Rel-F.View v) = slice_index_or chains v 0
chain_step chains (Rel-F.Where r condition) = r
chain_step chains (Rel-F.Select r es) = r
chain_step chains (Rel-F.Join kind l r on) = max l r
chain_step chains (Rel-F.Group r keys aggs) = r
chain_step chains (Rel-F.Distinct r) = r
chain_step chains (Rel-F.Union rs) = greatest rs

-- the longest chain that begins at a view that the relation names, and 0 where it names none
unfoldable pub chain_below : List ℕ → Rel → ℕ
chain_below chains = fold-Rel ℕ (chain_step chains)

-- the chains of views in turn: one more than the longest below it, and 1 over no view
abbrev pub chains_after : List ℕ → List Rel → List ℕ
chains_after done [] = done
chains_after done (rel ∷ rels) = chains_after (done ++ (chain_below done rel + 1) ∷ []) rels

-- the chain of a view of this relation over the views before it
abbrev pub chain_of : List ViewDef → Rel → ℕ
chain_of before rel = chain_below (chains_after [] (view_rels before)) rel + 1
