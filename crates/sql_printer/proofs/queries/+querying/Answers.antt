use Rattle.std.proofs.Common.{◌++◌}
use Rattle.sql_printer.specs.Lists.{listed}
use Rattle.sql_printer.specs.Queries.{from, table}
use Rattle.sql_printer.specs.Spelled.{spelled}
use Rattle.sql_printer.proofs.Texts.{left_turn}
use Rattle.sql_printer.proofs.queries.+querying.Goals as goal

pub put_tables-loop-table-preserved : goal.put_tables-loop-table-preserved
put_tables-loop-table-preserved t c =
    left_turn from table c.loop-table.first c.loop-table.out c.put_before.new.out c.put_table.new.out (c.args.out.now ++ spelled (listed from table c.args.tables.now)) c.args.tables.now
    c.loop-table.table-index c.table-item.result c.loop-table-test.true c.table-item.is c.in_ok-put_before.ensures c.in_ok-put_table.ensures c.loop-table.invariant
