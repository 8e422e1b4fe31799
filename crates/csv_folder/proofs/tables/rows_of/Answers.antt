use Rattle.std.proofs.Common.{◌∙◌, ◌<◌, ◌≤◌, min, length, arith, sym}
use Rattle.csv_folder.proofs.TableByNumber.{table_next, table_nowhere}
use Rattle.csv_folder.proofs.tables.rows_of.Goals as goal

pub loop-at-preserved : goal.loop-at-preserved
loop-at-preserved c =
    let defs = c.args.defs.now in
    let tables = c.args.tables.now in
    let in_defs : c.loop-at.at < length defs = omega arith in
    let in_tables : c.loop-at.at < length tables = omega arith in
    table_next c.args.number c.loop-at.at defs tables c.index-defs-at.result in_defs in_tables c.if-defs-at.false ∙ c.loop-at.invariant

pub returns : goal.returns
returns c =
    let defs = c.args.defs.now in
    let tables = c.args.tables.now in
    let past : min (length tables) (length defs) ≤ c.loop-at.at = omega arith in
    sym (table_nowhere c.args.number c.loop-at.at defs tables past) ∙ c.loop-at.invariant
