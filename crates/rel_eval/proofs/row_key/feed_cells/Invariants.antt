use Rattle.std.proofs.Common.{◌≡◌, drop, fold}
use Rattle.vdb_model.specs.Rows.{cut}
use Rattle.rel_eval.specs.Fed.{fed_cells}
use Rattle.rel_eval.proofs.row_key.feed_cells.Given as goal

-- what is left to feed leads where all does
abbrev pub invariant-loop-column : goal.invariant-loop-column
invariant-loop-column g l = fold g.H.Hasher.write l.state (fed_cells (cut (drop l.column-index l.columns) l.row)) ≡ fold g.H.Hasher.write l.fn.state (fed_cells (cut l.columns l.row))
