use Rattle.std.proofs.Common.{◌≡◌, drop}
use Rattle.vdb_model.specs.Can.{all_defined}
use Rattle.vdb_model.proofs.can.all_defined.Given as goal

abbrev pub invariant-loop-table : goal.invariant-loop-table
invariant-loop-table l = all_defined l.defs (drop l.table-index l.tables) ≡ all_defined l.fn.defs l.fn.tables
