use Rattle.std.proofs.Common.{◌≡◌, ◌++◌, drop, take}
use Rattle.vdb_model.specs.Deltas as deltas
use Rattle.resource.proofs.tables.take_out.Given as goal

-- the rows so far stay
abbrev pub invariant-loop-i : goal.invariant-loop-i
invariant-loop-i l = take l.i l.rows.items ++ deltas.without_one l.row (drop l.i l.rows.items) ≡ deltas.without_one l.row l.fn.rows.items
