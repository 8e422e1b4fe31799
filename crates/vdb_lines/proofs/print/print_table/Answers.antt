use Rattle.std.proofs.Common.{◌++◌, append_assoc, codes, length}
use Rattle.vdb_model.specs.Lines.{line}
use Rattle.vdb_model.specs.ReplyText.{name_texts, row_lines, end_line, listed}
use Rattle.vdb_lines.proofs.Pens.{Pen-cut, Pen-three, Pen-cut_second}
use Rattle.vdb_lines.proofs.print.print_table.Goals as goal

pub returns-in-Err : goal.returns-in-Err
returns-in-Err g c = Pen-cut _ _ _ _ _ (row_lines c.args.rows.now ++ end_line (length c.args.rows.now)) c.in-Err.ensures ((append_assoc (line (listed (codes "COLUMNS") (name_texts c.args.names.now))) (row_lines c.args.rows.now) (end_line (length c.args.rows.now))))

pub returns-in-Ok-print_rows : goal.returns-in-Ok-print_rows
returns-in-Ok-print_rows g c = Pen-three _ _ _ _ _ _ _ _ _ _ _ _ _ c.in-Ok.ensures c.in-Ok-print_rows.ensures c.print_number_line.ensures (rw c.as_slice.ensures (append_assoc (line (listed (codes "COLUMNS") (name_texts c.args.names.now))) (row_lines c.args.rows.now) (end_line (length c.args.rows.now))))

pub returns-in-Err-print_rows : goal.returns-in-Err-print_rows
returns-in-Err-print_rows g c = Pen-cut_second _ _ _ _ _ _ _ _ (end_line (length c.args.rows.now)) c.in-Ok.ensures c.in-Err-print_rows.ensures ((append_assoc (line (listed (codes "COLUMNS") (name_texts c.args.names.now))) (row_lines c.args.rows.now) (end_line (length c.args.rows.now))))
