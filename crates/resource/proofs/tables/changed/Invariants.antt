use Rattle.std.proofs.Common.{◌≡◌, drop}
use Rattle.vdb_model.specs.Deltas as deltas
use Rattle.resource.proofs.tables.changed.Given as goal

-- the removed rows that are left are to be taken out
abbrev pub invariant-loop-row : goal.invariant-loop-row
invariant-loop-row l = deltas.without_each (drop l.row-index l.delta.removed) l.made.items ≡ deltas.without_each l.delta.removed l.rows
