use Rattle.std.proofs.Common.{◌≡◌, drop}
use Rattle.resource.specs.Stored as spec
use Rattle.resource.proofs.tables.rows_named.Given as goal

-- the table is among those that are left
abbrev pub invariant-loop-table : goal.invariant-loop-table
invariant-loop-table l = spec.rows_named l.source (drop l.table-index l.stored) ≡ spec.rows_named l.source l.stored
