use Rattle.std.proofs.Common.{sym}
use Rattle.resource.proofs.RowLengths.{row_long}
use Rattle.resource.proofs.checks.takes_row.Goals as goal

pub returns-then-row-columns : goal.returns-then-row-columns
returns-then-row-columns c = sym (row_long c.args.columns.now c.args.row.now c.if-row-columns.true)
