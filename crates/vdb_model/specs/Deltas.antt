-- Changes of tables: what deltas make of them, and which deltas can be made.
use Rattle.std.specs.Prelude.{Bool, true, not, ◌&&◌, ◌==◌, if◌then◌else◌, List, [], ◌∷◌, ◌++◌}
use Rattle.std.specs.List.{list_any}
use Rattle.vdb_model.specs.declared.source.Delta.{Delta}
use Rattle.vdb_model.specs.declared.table.TableDef.{TableDef}
use Rattle.vdb_model.specs.Defs.{def_of}
use Rattle.vdb_model.specs.Rows.{Cells, same_row}
use Rattle.vdb_model.specs.World.{keeps_key, table_rows}

-- the rows without the first that is the same as this one; without any such row they stay
abbrev pub without_one : Cells → List Cells → List Cells
without_one row [] = []
without_one row (other ∷ rows) = if same_row row other then rows else other ∷ without_one row rows

-- the rows without each of these, taken out once in turn
abbrev pub without_each : List Cells → List Cells → List Cells
without_each [] rows = rows
without_each (row ∷ more) rows = without_each more (without_one row rows)

-- these stand among the rows, as often as they are listed
abbrev pub are_there : List Cells → List Cells → Bool
are_there [] rows = true
are_there (row ∷ more) rows = list_any (same_row row) rows && are_there more (without_one row rows)

-- a table's rows after a change of it
abbrev pub changed : Delta → List Cells → List Cells
changed delta rows = without_each delta.removed rows ++ delta.added

-- the tables after one change, where the lists of rows stand in the order of the definitions
abbrev pub after_delta : List TableDef → List (List Cells) → Delta → List (List Cells)
after_delta [] tables delta = tables
after_delta (d ∷ ds) [] delta = []
after_delta (d ∷ ds) (rows ∷ tables) delta = if d.number == delta.table then changed delta rows ∷ tables else rows ∷ after_delta ds tables delta

-- the tables after each change in turn
abbrev pub after_deltas : List TableDef → List (List Cells) → List Delta → List (List Cells)
after_deltas defs tables [] = tables
after_deltas defs tables (delta ∷ deltas) = after_deltas defs (after_delta defs tables delta) deltas

-- after the change the primary key of its table would stand twice
abbrev pub repeats_key : List TableDef → List (List Cells) → Delta → Bool
repeats_key defs tables delta = not (keeps_key (def_of defs delta.table).key (changed delta (table_rows defs tables delta.table)))
