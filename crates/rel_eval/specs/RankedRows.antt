-- Rows with ranks, one by one.
use Rattle.std.specs.Prelude.{List, [], ◌∷◌}
use Rattle.vdb_model.specs.Rows.{Cells}
use Rattle.rel_eval.specs.declared.ranking.Ranked.{Ranked}

-- the rows themselves
abbrev pub rows_in : List Ranked → List Cells
rows_in [] = []
rows_in (r ∷ rs) = r.row.now ∷ rows_in rs
