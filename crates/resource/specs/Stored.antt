-- Tables and a branch as a store holds them, by the tables' names, and what they read as under definitions.
use Rattle.std.specs.Prelude.{ℕ, ◌+◌, Bool, true, ◌&&◌, ◌==◌, if◌then◌else◌, List, [], ◌∷◌, length, Option, Some, None}
use Rattle.std.specs.Option.{option_map}
use Rattle.vdb_model.specs.declared.source.Delta.{Delta}
use Rattle.vdb_model.specs.declared.source.Xid.{Xid}
use Rattle.vdb_model.specs.declared.table.ColumnDef.{ColumnDef}
use Rattle.vdb_model.specs.declared.table.TableDef.{TableDef}
use Rattle.vdb_model.specs.Defs.{same_name}
use Rattle.vdb_model.specs.Deltas.{changed, after_deltas}
use Rattle.vdb_model.specs.Rows.{Cells}
use Rattle.vdb_model.specs.World.{takes_cell, keeps_key}
use Rattle.resource.specs.Reading.{Branch, Reading, Sound, CellFault, StoreFault}
use Rattle.resource.specs.Told.{branch_deltas}
use Rattle.resource.specs.declared.stored.StoredDelta.{StoredDelta}
use Rattle.resource.specs.declared.stored.StoredTable.{StoredTable}

-- the rows that are stored under a name; a table that isn't stored is empty
abbrev pub rows_named : List ℕ → List StoredTable → List Cells
rows_named source [] = []
rows_named source (table ∷ tables) = if same_name table.source source then table.rows else rows_named source tables

-- the rows of the tables in turn
abbrev pub tables_in : List StoredTable → List TableDef → List (List Cells)
tables_in stored [] = []
tables_in stored (d ∷ ds) = rows_named d.source stored ∷ tables_in stored ds

abbrev pub others_than : List ℕ → List StoredTable → List StoredTable
others_than source [] = []
others_than source (table ∷ tables) = if same_name table.source source then others_than source tables else table ∷ others_than source tables

-- the tables, with these rows under the name
abbrev pub put_rows : List ℕ → List Cells → List StoredTable → List StoredTable
put_rows source rows tables = record { source = source; rows = rows } ∷ others_than source tables

-- a stored delta, of the table with the number
abbrev pub by_number : ℕ → StoredDelta → Delta
by_number n delta = record { table = n; removed = delta.removed; added = delta.added }

-- the stored tables after a stored delta, and after several in turn
abbrev pub after_one : List StoredTable → StoredDelta → List StoredTable
after_one tables delta = put_rows delta.source (changed (by_number 0 delta) (rows_named delta.source tables)) tables

abbrev pub after_stored : List StoredTable → List StoredDelta → List StoredTable
after_stored tables [] = tables
after_stored tables (delta ∷ deltas) = after_stored (after_one tables delta) deltas

-- the number of the table that the store has under the name
abbrev pub number_named : List ℕ → List TableDef → Option ℕ
number_named source [] = None
number_named source (d ∷ ds) = if same_name source d.source then Some d.number else number_named source ds

abbrev pub with_number : Option ℕ → StoredDelta → List Delta → List Delta
with_number None delta rest = rest
with_number (Some n) delta rest = by_number n delta ∷ rest

-- the deltas of defined tables, by their numbers; those of other tables aren't seen
abbrev pub numbered : List TableDef → List StoredDelta → List Delta
numbered defs [] = []
numbered defs (delta ∷ deltas) = with_number (number_named delta.source defs) delta (numbered defs deltas)

abbrev pub all_long : ℕ → List Cells → Bool
all_long width [] = true
all_long width (row ∷ rows) = length row == width && all_long width rows

-- the place, counted on from this one, of the first cell that its column doesn't take
abbrev pub bad_column : ℕ → List ColumnDef → Cells → Option ℕ
bad_column at [] row = None
bad_column at (c ∷ cs) [] = None
bad_column at (c ∷ cs) (v ∷ vs) = if takes_cell c v then bad_column (at + 1) cs vs else Some at

abbrev pub fault_at : ℕ → ℕ → Option ℕ → Option Reading
fault_at table row None = None
fault_at table row (Some col) = Some (CellFault table row col)

abbrev pub first_fault : Option Reading → Option Reading → Option Reading
first_fault (Some fault) rest = Some fault
first_fault None rest = rest

-- the first bad cell by rows and then by columns, rows counted on from this one
abbrev pub cell_fault : ℕ → List ColumnDef → ℕ → List Cells → Option Reading
cell_fault table columns at [] = None
cell_fault table columns at (row ∷ rows) = first_fault (fault_at table at (bad_column 1 columns row)) (cell_fault table columns (at + 1) rows)

-- the fault of a table: its form before its cells
abbrev pub table_fault : TableDef → List Cells → Option Reading
table_fault d rows =
    if all_long (length d.columns) rows && keeps_key d.key rows then cell_fault (d.number + 1) d.columns 1 rows
    else Some (StoreFault (d.number + 1))

-- the first fault of tables in turn, each as it is kept and then as the branch would leave it
abbrev pub tables_fault : List TableDef → List (List Cells) → List (List Cells) → Option Reading
tables_fault [] kept left = None
tables_fault (d ∷ ds) [] left = None
tables_fault (d ∷ ds) (rows ∷ kept) [] = None
tables_fault (d ∷ ds) (rows ∷ kept) (after ∷ left) = first_fault (first_fault (table_fault d rows) (table_fault d after)) (tables_fault ds kept left)

-- a branch that is stored: its transaction, and its deltas in turn
pub record StoredBranch : Type 0 where
  pub xid : Xid
  pub deltas : List StoredDelta

abbrev pub branch_under : List TableDef → StoredBranch → Branch
branch_under defs branch = record { xid = branch.xid; deltas = numbered defs branch.deltas }

abbrev pub sound_unless : Option Reading → List (List Cells) → Option Branch → Reading
sound_unless (Some fault) kept branch = fault
sound_unless None kept branch = Sound kept branch

-- what tables and a branch, where there is one, read as under definitions
abbrev pub read_store : List StoredTable → Option StoredBranch → List TableDef → Reading
read_store tables branch defs = sound_unless (tables_fault defs kept (after_deltas defs kept (branch_deltas seen))) kept seen
  where
    kept : List (List Cells)
    kept = tables_in tables defs

    seen : Option Branch
    seen = option_map (branch_under defs) branch
