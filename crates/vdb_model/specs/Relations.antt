-- The rows of a relation, over the rows of the tables and of the views before it.
use Rattle.std.specs.Prelude.{ℕ, ◌+◌, List, [], ◌∷◌, ◌++◌, length, slice_index_or}
use Rattle.vdb_model.specs.declared.rel.Rel.{Rel}
use Rattle.vdb_model.specs.declared.rel.Rel.TheOpen.{Rel-F}
use Rattle.vdb_model.specs.declared.rel.Rel.TheFolds.{fold-Rel}
use Rattle.vdb_model.specs.declared.bag.Bag.{Bag}
use Rattle.vdb_model.specs.Rows.{Cells, where_rows, select_rows, join_rows, distinct_rows}
use Rattle.vdb_model.specs.Groups.{group_rows}

-- no rows, of no column
abbrev pub no_bag : Bag
no_bag = record { width = 0; rows = [] }

abbrev pub first_width : List Bag → ℕ
first_width [] = 0
first_width (bag ∷ bags) = bag.width

-- Union: part after part
abbrev pub union_rows : List Bag → List Cells
union_rows [] = []
union_rows (bag ∷ bags) = bag.rows ++ union_rows bags

-- one layer of a relation, by the bags of its parts
abbrev pub bag_step : List Bag → List Bag → Cells → Rel-F Bag → Bag
bag_step tables views vars Rel-F.One = record { width = 0; rows = [] ∷ [] }
bag_step tables views vars (Rel-F.Table t) = slice_index_or tables t no_bag
bag_step tables views vars (Rel-F.View v) = slice_index_or views v no_bag
bag_step tables views vars (Rel-F.Where r condition) = record { width = r.width; rows = where_rows condition vars r.rows }
bag_step tables views vars (Rel-F.Select r es) = record { width = length es; rows = select_rows es vars r.rows }
bag_step tables views vars (Rel-F.Join kind l r on) = record { width = l.width + r.width; rows = join_rows kind r.width on vars l.rows r.rows }
bag_step tables views vars (Rel-F.Group r keys aggs) = record { width = length keys + length aggs; rows = group_rows keys aggs vars r.rows }
bag_step tables views vars (Rel-F.Distinct r) = record { width = r.width; rows = distinct_rows r.rows }
bag_step tables views vars (Rel-F.Union rs) = record { width = first_width rs; rows = union_rows rs }

unfoldable pub bag_of : List Bag → List Bag → Cells → Rel → Bag
bag_of tables views vars = fold-Rel Bag (bag_step tables views vars)

-- the bags of relations
abbrev pub bags_of : List Bag → List Bag → Cells → List Rel → List Bag
bags_of tables views vars [] = []
bags_of tables views vars (rel ∷ rels) = bag_of tables views vars rel ∷ bags_of tables views vars rels

-- the bags of views, each over those before it
abbrev pub views_after : List Bag → Cells → List Bag → List Rel → List Bag
views_after tables vars done [] = done
views_after tables vars done (view ∷ views) = views_after tables vars (done ++ bag_of tables done vars view ∷ []) views
