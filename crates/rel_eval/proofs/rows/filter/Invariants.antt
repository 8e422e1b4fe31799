use Rattle.std.proofs.Common.{◌≡◌, ◌++◌, drop}
use Rattle.vdb_model.specs.Rows.{where_rows}
use Rattle.rel_eval.proofs.rows.filter.Given as goal

-- the rows so far and those to come are all
abbrev pub invariant-loop-row : goal.invariant-loop-row
invariant-loop-row l = l.kept ++ where_rows l.e l.vars (drop l.row-index l.row-items) ≡ where_rows l.e l.vars l.row-items
