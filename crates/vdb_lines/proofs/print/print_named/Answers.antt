use Rattle.vdb_lines.proofs.Pens.{Pen-flush}
use Rattle.vdb_lines.proofs.print.print_named.Goals as goal

pub returns-in-Ok : goal.returns-in-Ok
returns-in-Ok g c = Pen-flush _ _ _ _ _ _ _ c.new-pen.ensures c.in-Ok.ensures c.flush.ensures.prints
