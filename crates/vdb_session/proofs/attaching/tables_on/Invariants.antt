use Rattle.std.proofs.Common.{◌≡◌, ◌++◌, drop}
use Rattle.vdb_model.specs.WellFormed.{tables_on}
use Rattle.vdb_session.proofs.attaching.tables_on.Given as goal

abbrev pub invariant-loop-table : goal.invariant-loop-table
invariant-loop-table l = l.made ++ tables_on l.server (drop l.table-index l.tables) ≡ tables_on l.server l.tables
