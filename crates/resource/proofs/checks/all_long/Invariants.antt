use Rattle.std.proofs.Common.{◌≡◌, drop}
use Rattle.resource.specs.Stored as spec
use Rattle.resource.proofs.checks.all_long.Given as goal

-- the rows that are left decide
abbrev pub invariant-loop-row : goal.invariant-loop-row
invariant-loop-row l = spec.all_long l.width (drop l.row-index l.rows) ≡ spec.all_long l.width l.rows
