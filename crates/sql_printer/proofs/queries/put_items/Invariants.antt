use Rattle.std.proofs.Common.{◌≡◌, ◌++◌, [], drop}
use Rattle.sql_printer.specs.Lists.{listed, left}
use Rattle.sql_printer.specs.Queries.{item_said}
use Rattle.sql_printer.specs.Spelled.{spelled}
use Rattle.sql_printer.proofs.queries.put_items.Given as goal

-- what is written, and then what is left
abbrev pub invariant-loop-item : goal.invariant-loop-item
invariant-loop-item l = l.out ++ spelled (left [] item_said l.first (drop l.item-index l.items)) ≡ l.initial.out ++ spelled (listed [] item_said l.items)
