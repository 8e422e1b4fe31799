use Rattle.std.proofs.Common.{◌≡◌, ◌++◌, drop}
use Rattle.sql_printer.specs.Lists.{listed, left}
use Rattle.sql_printer.specs.Queries.{from, table}
use Rattle.sql_printer.specs.Spelled.{spelled}
use Rattle.sql_printer.proofs.queries.+querying.Given as goal

-- what is written, and then what is left
abbrev pub invariant-put_tables-loop-table : goal.invariant-put_tables-loop-table
invariant-put_tables-loop-table l = l.out ++ spelled (left from table l.first (drop l.table-index l.tables)) ≡ l.initial.out ++ spelled (listed from table l.tables)
