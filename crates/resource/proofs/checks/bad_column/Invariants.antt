use Rattle.std.proofs.Common.{◌≡◌, ◌+◌, drop}
use Rattle.resource.specs.Stored as spec
use Rattle.resource.proofs.checks.bad_column.Given as goal

-- the cells so far are taken
abbrev pub invariant-loop-i : goal.invariant-loop-i
invariant-loop-i l = spec.bad_column (l.i + 1) (drop l.i l.columns) (drop l.i l.row) ≡ spec.bad_column 1 l.columns l.row
