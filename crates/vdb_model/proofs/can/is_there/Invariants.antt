use Rattle.std.proofs.Common.{◌≡◌, drop, sum, nat_lt}
use Rattle.vdb_model.specs.Can.{widths_of}
use Rattle.vdb_model.proofs.can.is_there.Given as goal

abbrev pub invariant-loop-table : goal.invariant-loop-table
invariant-loop-table l = nat_lt l.column (sum (widths_of l.fn.scope.defs.now (drop l.table-index l.table-items))) ≡ nat_lt l.fn.column (sum (widths_of l.fn.scope.defs.now l.fn.scope.tables.now))
