use Rattle.std.proofs.Common.{◌≡◌, ◌++◌, drop}
use Rattle.vdb_model.specs.Rows.{cut_rows}
use Rattle.store_tables.proofs.table.cut_each.Given as goal

-- the rows so far and those to come are all
abbrev pub invariant-loop-row : goal.invariant-loop-row
invariant-loop-row l = l.made ++ cut_rows l.columns (drop l.row-index l.rows) ≡ cut_rows l.columns l.rows
