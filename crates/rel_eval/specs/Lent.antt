-- Rows that are lent, one by one.
use Rattle.std.specs.Prelude.{List, [], ◌∷◌}
use denote.Ref.{Bor}
use Rattle.vdb_model.specs.Rows.{Cells}

-- the rows themselves
abbrev pub lent : List (Bor Cells) → List Cells
lent [] = []
lent (row ∷ rows) = row.now ∷ lent rows
