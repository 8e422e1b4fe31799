use Rattle.std.proofs.Common.{◌≡◌, ◌++◌, [], drop}
use Rattle.sql_printer.specs.Lists.{listed, left}
use Rattle.sql_printer.specs.Queries.{order_by, key}
use Rattle.sql_printer.specs.Spelled.{spelled}
use Rattle.sql_printer.proofs.queries.put_keys.Given as goal

-- what is written, and then what is left
abbrev pub invariant-loop-key : goal.invariant-loop-key
invariant-loop-key l = l.out ++ spelled (left order_by key l.first (drop l.key-index l.keys)) ≡ l.initial.out ++ spelled (listed order_by key l.keys)
