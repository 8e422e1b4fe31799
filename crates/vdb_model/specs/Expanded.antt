-- A relation in which each view gave its place to its own relation.
use Rattle.std.specs.Prelude.{List, [], ◌∷◌, ◌++◌, slice_index_or}
use Rattle.vdb_model.specs.declared.rel.Rel.{Rel}
use Rattle.vdb_model.specs.declared.rel.Rel.TheVariants.{One, Table, View, Where, Select, Join, Group, Distinct, Union}
use Rattle.vdb_model.specs.declared.rel.Rel.TheOpen.{Rel-F}
use Rattle.vdb_model.specs.declared.rel.Rel.TheFolds.{fold-Rel}
use Rattle.vdb_model.specs.Defined.{Defined}
use Rattle.vdb_model.specs.World.{view_rels}

-- one layer, over the views' expanded relations; a number that no view has stays
abbrev pub expanded_step : List Rel → Rel-F Rel → Rel
expanded_step views Rel-F.One = One
expanded_step views (Rel-F.Table t) = Table t
expanded_step views (Rel-F.View v) = slice_index_or views v (View v)
expanded_step views (Rel-F.Where r condition) = Where r condition
expanded_step views (Rel-F.Select r es) = Select r es
expanded_step views (Rel-F.Join kind l r on) = Join kind l r on
expanded_step views (Rel-F.Group r keys aggs) = Group r keys aggs
expanded_step views (Rel-F.Distinct r) = Distinct r
expanded_step views (Rel-F.Union rs) = Union rs

unfoldable pub expanded_over : List Rel → Rel → Rel
expanded_over views = fold-Rel Rel (expanded_step views)

-- the relations of views, each expanded over those before it
abbrev pub expanded_after : List Rel → List Rel → List Rel
expanded_after done [] = done
expanded_after done (view ∷ views) = expanded_after (done ++ expanded_over done view ∷ []) views

-- a relation of the catalog
abbrev pub expanded : Defined → Rel → Rel
expanded cat rel = expanded_over (expanded_after [] (view_rels cat.views)) rel
