use Rattle.std.proofs.Common.{◌≡◌, ◌++◌, [], drop}
use Rattle.sql_printer.specs.Lists.{listed, left}
use Rattle.sql_printer.specs.Names.{column}
use Rattle.sql_printer.specs.Queries.{group_by}
use Rattle.sql_printer.specs.Spelled.{spelled}
use Rattle.sql_printer.proofs.queries.put_group.Given as goal

-- what is written, and then what is left
abbrev pub invariant-loop-column : goal.invariant-loop-column
invariant-loop-column l = l.out ++ spelled (left group_by column l.first (drop l.column-index l.columns)) ≡ l.initial.out ++ spelled (listed group_by column l.columns)
