use Rattle.std.proofs.Common.{drop}
use Rattle.vdb_base.specs.Buffering.{waiting}
use Rattle.vdb_model.specs.ReplyText.{row_lines}
use Rattle.vdb_lines.proofs.Pens.{Part}
use Rattle.vdb_lines.proofs.print.print_rows.Given as goal

abbrev pub invariant-loop-row : goal.invariant-loop-row
invariant-loop-row g l = Part (g.O.Sink.told l.fn.out) (g.O.Sink.told l.out) (waiting l.fn.pen) (waiting l.pen) (row_lines l.rows) (row_lines (drop l.row-index l.rows))
