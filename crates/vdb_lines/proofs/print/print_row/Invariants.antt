use Rattle.std.proofs.Common.{◌∷◌, ◌++◌, [], drop}
use Rattle.vdb_base.specs.Buffering.{waiting}
use Rattle.vdb_model.specs.ReplyText.{value_texts, row_line}
use Rattle.vdb_lines.proofs.Pens.{Part, marked}
use Rattle.vdb_lines.proofs.print.print_row.Given as goal

abbrev pub invariant-loop-value : goal.invariant-loop-value
invariant-loop-value g l = Part (g.O.Sink.told l.fn.out) (g.O.Sink.told l.out) (waiting l.fn.pen) (waiting l.pen) (row_line l.row) (marked l.mark (value_texts (drop l.value-index l.row)) ++ 10 ∷ [])
