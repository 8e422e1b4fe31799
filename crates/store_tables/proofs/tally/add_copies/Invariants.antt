use Rattle.std.proofs.Common.{◌≡◌, ◌++◌}
use Rattle.store_tables.specs.Answering.{repeated}
use Rattle.store_tables.proofs.tally.add_copies.Given as goal

abbrev pub invariant-loop : goal.invariant-loop
invariant-loop l = l.made ≡ l.initial.made ++ repeated l.counter l.rows
