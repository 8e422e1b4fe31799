-- What checking stored tables answers, and what is stored for the tables of a query.
use Rattle.std.specs.Prelude.{◌≡◌, ℕ, true, false, ◌==◌, if◌then◌else◌, List, [], ◌∷◌, Option, Some, None, Result, Ok, Err, ⊤}
use Rattle.std.specs.List.{filter}
use Rattle.vdb_model.specs.declared.expr.Expr.{Expr}
use Rattle.vdb_model.specs.declared.table.TableDef.{TableDef}
use Rattle.vdb_model.specs.Answers.{passes_all}
use Rattle.vdb_model.specs.Defs.{def_of, is_defined}
use Rattle.vdb_model.specs.Rows.{Cells, cut_rows}
use Rattle.resource.specs.declared.resource.AttachFault.{AttachFault}
use Rattle.resource.specs.declared.resource.AttachFault.TheVariants.{BadCell, BadStore, Failed, Memory}
use Rattle.resource.specs.declared.stored.StoredTable.{StoredTable}
use Rattle.resource.specs.Reading.{Reading, CellFault, StoreFault}
use Rattle.resource.specs.Stored.{rows_named, first_fault, table_fault}

-- what the check of a part answers, by the fault of that part
abbrev pub IsCheckAnswer : Option Reading → Result (Unit {0}) AttachFault → Type 0
IsCheckAnswer fault (Ok done) = fault ≡ None
IsCheckAnswer fault (Err (BadCell table row col)) = fault ≡ Some (CellFault table row col)
IsCheckAnswer fault (Err (BadStore table)) = fault ≡ Some (StoreFault table)
IsCheckAnswer fault (Err Failed) = ⊥
IsCheckAnswer fault (Err Memory) = ⊤

-- the rows that are stored for the table with the number
abbrev pub rows_numbered : ℕ → List StoredTable → List TableDef → List Cells
rows_numbered n stored [] = []
rows_numbered n stored (d ∷ ds) = if d.number == n then rows_named d.source stored else rows_numbered n stored ds

-- those of the first of the tables
abbrev pub rows_asked : List StoredTable → Option (List TableDef) → List ℕ → List Cells
rows_asked stored None tables = []
rows_asked stored (Some defs) [] = []
rows_asked stored (Some defs) (t ∷ ts) = rows_numbered t stored defs

-- the rows that pass every condition, cut to columns
abbrev pub passing_cut : List Expr → List ℕ → List Cells → List Cells
passing_cut es columns rows = cut_rows columns (filter (passes_all es) rows)

-- the definition with the number, or none where none has it
abbrev pub FindsDef : ℕ → List TableDef → Option TableDef → Type 0
FindsDef n defs (Some d) = (d ≡ def_of defs n) × (is_defined defs n ≡ true)
FindsDef n defs None = is_defined defs n ≡ false

-- the fault of a table as it is kept, or else as it is left
abbrev pub both_fault : TableDef → List StoredTable → List StoredTable → Option Reading
both_fault d kept left = first_fault (table_fault d (rows_named d.source kept)) (table_fault d (rows_named d.source left))

-- the first fault of tables in turn
abbrev pub stored_fault : List TableDef → List StoredTable → List StoredTable → Option Reading
stored_fault [] kept left = None
stored_fault (d ∷ ds) kept left = first_fault (both_fault d kept left) (stored_fault ds kept left)
