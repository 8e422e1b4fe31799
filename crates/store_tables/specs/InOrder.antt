-- Whether the rows of a table and their keys are in order, by the entries of its maps.
use Rattle.std.specs.Prelude.{Bool, not, ◌&&◌, ◌||◌, nat_le, nat_lt, List}
use Rattle.vdb_model.specs.declared.table.ColumnDef.{ColumnDef}
use Rattle.vdb_model.specs.Rows.{Cells}
use Rattle.vdb_model.specs.World.{takes_row}
use Rattle.store_tables.specs.declared.counting.Counts.{Counts}

-- a row that stands, kept or seen, goes into the columns
abbrev pub entry_fits : List ColumnDef → Cells × Counts → Bool
entry_fits columns entry = not (nat_lt 0 entry.1.kept || nat_lt 0 entry.1.seen) || takes_row columns entry.0

-- it stands once at most
abbrev pub entry_is_alone : Cells × Counts → Bool
entry_is_alone entry = nat_le entry.1.kept 1 && nat_le entry.1.seen 1
