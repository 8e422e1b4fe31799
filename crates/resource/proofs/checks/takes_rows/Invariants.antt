use Rattle.std.proofs.Common.{◌≡◌, drop}
use Rattle.vdb_model.specs.World as world
use Rattle.resource.proofs.checks.takes_rows.Given as goal

-- the rows to come decide
abbrev pub invariant-loop-row : goal.invariant-loop-row
invariant-loop-row l = world.takes_rows l.columns (drop l.row-index l.rows) ≡ world.takes_rows l.columns l.rows
