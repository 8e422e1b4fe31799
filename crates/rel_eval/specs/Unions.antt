-- The parts of a union.
use Rattle.std.specs.Prelude.{List, [], ◌∷◌}
use Rattle.vdb_model.specs.declared.bag.Bag.{Bag}
use Rattle.vdb_model.specs.Rows.{Cells}

-- the rows of each
abbrev pub rows_of : List Bag → List (List Cells)
rows_of [] = []
rows_of (bag ∷ bags) = bag.rows ∷ rows_of bags
