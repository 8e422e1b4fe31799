use Rattle.std.proofs.Common.{◌≡◌, ◌+◌, drop}
use Rattle.resource.specs.Stored as spec
use Rattle.resource.proofs.checks.check_cells.Given as goal

-- the rows so far are taken
abbrev pub invariant-loop-i : goal.invariant-loop-i
invariant-loop-i l = spec.cell_fault l.table l.columns (l.i + 1) (drop l.i l.rows) ≡ spec.cell_fault l.table l.columns 1 l.rows
