use Rattle.std.proofs.Common.{◌∷◌, ◌++◌, [], drop, codes}
use Rattle.vdb_base.specs.Buffering.{waiting}
use Rattle.vdb_model.specs.Lines.{line}
use Rattle.vdb_model.specs.ReplyText.{listed, name_texts}
use Rattle.vdb_lines.proofs.Pens.{Part, marked}
use Rattle.vdb_lines.proofs.print.print_columns.Given as goal

abbrev pub invariant-loop-name : goal.invariant-loop-name
invariant-loop-name g l = Part (g.O.Sink.told l.fn.out) (g.O.Sink.told l.out) (waiting l.fn.pen) (waiting l.pen) (line (listed (codes "COLUMNS") (name_texts l.names))) (marked l.mark (name_texts (drop l.name-index l.names)) ++ 10 ∷ [])
