use Rattle.std.proofs.Common.{◌≡◌, drop}
use Rattle.vdb_model.specs.World.{takes_row}
use Rattle.resource.proofs.checks.takes_row.Given as goal

-- the cells to come decide
abbrev pub invariant-loop-i : goal.invariant-loop-i
invariant-loop-i l = takes_row (drop l.i l.columns) (drop l.i l.row) ≡ takes_row l.columns l.row
