use Rattle.std.proofs.Common.{◌∙◌, ◌+◌, arith, drop, sym}
use Rattle.std.proofs.lemmas.List.{length-drop}
use Rattle.resource.proofs.Faults.{bad_done}
use Rattle.resource.proofs.checks.bad_column.Goals as goal

pub returns : goal.returns
returns c =
    let i = c.loop-i.i in
    let columns = c.args.columns.now in
    let row = c.args.row.now in
    sym (bad_done (i + 1) (drop i columns) (drop i row) (omega (arith, length-drop i columns, length-drop i row))) ∙ c.loop-i.invariant
