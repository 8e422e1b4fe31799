use Rattle.std.proofs.Common.{◌∷◌, [], append_assoc}
use Rattle.vdb_model.specs.NameText.{name_text}
use Rattle.vdb_lines.proofs.Pens.{Pen-three, Pen-cut_second}
use Rattle.vdb_lines.proofs.print.print_name_line.Goals as goal

pub returns-in-Ok-print_name : goal.returns-in-Ok-print_name
returns-in-Ok-print_name g c = Pen-three _ _ _ _ _ _ _ _ _ _ _ _ _ c.in-Ok.ensures c.in-Ok-print_name.ensures c.print_byte.ensures (append_assoc c.args.word.now (name_text c.args.name.now) (10 ∷ []))

pub returns-in-Err-print_name : goal.returns-in-Err-print_name
returns-in-Err-print_name g c = Pen-cut_second _ _ _ _ _ _ _ _ (10 ∷ []) c.in-Ok.ensures c.in-Err-print_name.ensures (append_assoc c.args.word.now (name_text c.args.name.now) (10 ∷ []))
