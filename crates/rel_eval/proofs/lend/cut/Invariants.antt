use Rattle.std.proofs.Common.{◌≡◌, ◌++◌, drop}
use Rattle.vdb_model.specs.Rows.{cut}
use Rattle.rel_eval.proofs.lend.cut.Given as goal

abbrev pub invariant-loop-column : goal.invariant-loop-column
invariant-loop-column l = l.made.items ++ cut (drop l.column-index l.columns) l.row ≡ cut l.columns l.row
