use Rattle.std.proofs.Common.{sym}
use Rattle.std.proofs.lemmas.List.{append-nil}
use Rattle.vdb_model.specs.NameText.{name_text}
use Rattle.vdb.proofs.LaneTexts.{text_there, text_nowhere}
use Rattle.vdb.proofs.last_line.print_lane.Goals as goal

pub returns-in-Some : goal.returns-in-Some
returns-in-Some g c =
    rw (text_there c.args.conns.now c.args.lane c.in-Some.conn.now (sym c.in-Some.ensures.value))
    (rw (append-nil (name_text c.in-Some.conn.now.name)) (rw c.as_slice.ensures at c.print_named.ensures))

pub returns-in-None : goal.returns-in-None
returns-in-None g c =
    rw (text_nowhere c.args.conns.now c.args.lane (sym c.in-None.ensures.value)) (rw c.as_slice-in-None.ensures at c.print_line.ensures)
