use Rattle.std.proofs.Common.{◌∷◌, [], append_assoc}
use Rattle.vdb_model.specs.Lines.{number_text}
use Rattle.vdb_lines.proofs.Pens.{Pen-three, Pen-cut_second}
use Rattle.vdb_lines.proofs.print.print_number_line.Goals as goal

pub returns-in-Ok-print_number : goal.returns-in-Ok-print_number
returns-in-Ok-print_number g c = Pen-three _ _ _ _ _ _ _ _ _ _ _ _ _ c.in-Ok.ensures c.in-Ok-print_number.ensures c.print_byte.ensures (append_assoc c.args.word.now (number_text c.args.number) (10 ∷ []))

pub returns-in-Err-print_number : goal.returns-in-Err-print_number
returns-in-Err-print_number g c = Pen-cut_second _ _ _ _ _ _ _ _ (10 ∷ []) c.in-Ok.ensures c.in-Err-print_number.ensures (append_assoc c.args.word.now (number_text c.args.number) (10 ∷ []))
