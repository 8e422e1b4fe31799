use Rattle.std.proofs.Common.{◌≡◌, ◌++◌, drop}
use Rattle.vdb_model.specs.Rows.{select_rows}
use Rattle.rel_eval.proofs.rows.select.Given as goal

abbrev pub invariant-loop-row : goal.invariant-loop-row
invariant-loop-row l = l.made.items ++ select_rows l.es l.vars (drop l.row-index l.row-items) ≡ select_rows l.es l.vars l.row-items
