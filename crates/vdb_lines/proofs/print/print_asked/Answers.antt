use Rattle.vdb_lines.proofs.Pens.{Pen-two}
use Rattle.vdb_lines.proofs.print.print_asked.Goals as goal

pub returns-in-Ok : goal.returns-in-Ok
returns-in-Ok g c = Pen-two _ _ _ _ _ _ _ _ _ _ c.in-Ok.ensures c.print_number_line.ensures (rw c.as_slice.ensures)
