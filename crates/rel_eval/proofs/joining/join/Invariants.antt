use Rattle.std.proofs.Common.{◌≡◌, ◌++◌, drop}
use Rattle.vdb_model.specs.Rows.{join_rows}
use Rattle.rel_eval.proofs.joining.join.Given as goal

abbrev pub invariant-loop-row : goal.invariant-loop-row
invariant-loop-row l = l.rows ++ join_rows l.kind l.right_width l.on l.vars (drop l.row-index l.row-items) l.right ≡ join_rows l.kind l.right_width l.on l.vars l.row-items l.right
