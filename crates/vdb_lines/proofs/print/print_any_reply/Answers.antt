use Rattle.vdb_lines.proofs.print.print_any_reply.Goals as goal

pub returns-in-RolledBack : goal.returns-in-RolledBack
returns-in-RolledBack g c = rw c.in-RolledBack.is (rw c.as_slice-in-RolledBack.ensures at c.print_ended-in-RolledBack.ensures)
