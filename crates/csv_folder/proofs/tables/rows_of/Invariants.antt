use Rattle.std.proofs.Common.{◌≡◌, drop}
use Rattle.vdb_model.specs.World as world
use Rattle.csv_folder.proofs.tables.rows_of.Given as goal

-- the table is among those that are left
abbrev pub invariant-loop-at : goal.invariant-loop-at
invariant-loop-at l = world.table_rows (drop l.at l.defs) (drop l.at l.tables) l.number ≡ world.table_rows l.defs l.tables l.number
