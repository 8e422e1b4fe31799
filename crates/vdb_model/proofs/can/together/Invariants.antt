use Rattle.std.proofs.Common.{◌≡◌, drop}
use Rattle.vdb_model.specs.Can.{together, widths_of}
use Rattle.vdb_model.proofs.can.together.Given as goal

abbrev pub invariant-loop-table : goal.invariant-loop-table
invariant-loop-table l = together (widths_of l.fn.scope.defs.now (drop l.table-index l.table-items)) l.a l.b ≡ together (widths_of l.fn.scope.defs.now l.fn.scope.tables.now) l.fn.a l.fn.b
