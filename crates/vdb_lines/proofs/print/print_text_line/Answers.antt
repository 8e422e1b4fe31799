use Rattle.std.proofs.Common.{◌∷◌, [], append_assoc}
use Rattle.vdb_lines.proofs.Pens.{Pen-three, Pen-cut_second}
use Rattle.vdb_lines.proofs.print.print_text_line.Goals as goal

pub returns-in-Ok-print_word : goal.returns-in-Ok-print_word
returns-in-Ok-print_word g c = Pen-three _ _ _ _ _ _ _ _ _ _ _ _ _ c.in-Ok.ensures c.in-Ok-print_word.ensures c.print_byte.ensures (rw c.as_str.ensures (append_assoc c.args.word.now c.args.text.now (10 ∷ [])))

pub returns-in-Err-print_word : goal.returns-in-Err-print_word
returns-in-Err-print_word g c = Pen-cut_second _ _ _ _ _ _ c.args.word.now c.as_str.result.now (10 ∷ []) c.in-Ok.ensures c.in-Err-print_word.ensures (rw c.as_str.ensures (append_assoc c.args.word.now c.args.text.now (10 ∷ [])))
