-- Rows that may be taken out of a table.
use Rattle.std.specs.Prelude.{◌≡◌, ℕ, true, List, IfSome}
use Rattle.vdb_model.specs.declared.table.TableDef.{TableDef}
use Rattle.vdb_model.specs.Deltas.{are_there}
use Rattle.vdb_model.specs.Rows.{Cells}
use Rattle.vdb_model.specs.World.{table_rows}
use Rattle.resource.specs.Told.{Told, work}

-- where contents are told, the rows stand in the table as it is seen now
abbrev pub Stand : List TableDef → ℕ → List Cells → Told → Type 0
Stand defs table rows told = IfSome (work told) (λ tables. are_there rows (table_rows defs tables table) ≡ true)
