use Rattle.std.proofs.Common.{◌≡◌, ◌++◌, drop}
use Rattle.resource.specs.Stored as spec
use Rattle.resource.proofs.tables.put_rows.Given as goal

-- the tables so far and those to come are all
abbrev pub invariant-loop-table : goal.invariant-loop-table
invariant-loop-table l = l.made ++ spec.others_than l.source (drop l.table-index l.tables) ≡ spec.put_rows l.source l.fn.rows l.tables
