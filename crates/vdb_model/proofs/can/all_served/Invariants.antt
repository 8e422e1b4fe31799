use Rattle.std.proofs.Common.{◌≡◌, drop}
use Rattle.vdb_model.specs.Can.{all_served}
use Rattle.vdb_model.proofs.can.all_served.Given as goal

abbrev pub invariant-loop-table : goal.invariant-loop-table
invariant-loop-table l = all_served l.defs l.server (drop l.table-index l.tables) ≡ all_served l.fn.defs l.fn.server l.fn.tables
