use Rattle.std.proofs.Common.{◌≡◌, drop, sum}
use Rattle.vdb_model.specs.Can.{widths_of}
use Rattle.vdb_model.specs.Defs.{all_below}
use Rattle.vdb_model.proofs.can.all_there.Given as goal

abbrev pub invariant-loop-column : goal.invariant-loop-column
invariant-loop-column l = all_below (sum (widths_of l.scope.defs.now l.scope.tables.now)) (drop l.column-index l.columns) ≡ all_below (sum (widths_of l.fn.scope.defs.now l.fn.scope.tables.now)) l.fn.columns
