use Rattle.std.proofs.Common.{refl}
use Rattle.vdb_lines.proofs.Pens.{Pen-two, Pen-cut}
use Rattle.vdb_lines.proofs.print.print_field.Goals as goal

pub returns-in-Ok : goal.returns-in-Ok
returns-in-Ok g c = Pen-two _ _ _ _ _ _ _ _ _ _ c.in-Ok.ensures c.print_word.ensures (rw c.as_str.ensures)

pub returns-in-Err : goal.returns-in-Err
returns-in-Err g c = Pen-cut _ _ _ _ _ (c.args.text.now) c.in-Err.ensures refl
