use Rattle.std.proofs.Common.{◌≡◌, drop}
use Rattle.vdb_model.specs.Can.{all_constants, forms, widths_of}
use Rattle.vdb_model.proofs.can.all_constants.Given as goal

abbrev pub invariant-loop-e : goal.invariant-loop-e
invariant-loop-e l = all_constants l.caps (forms l.caps (widths_of l.scope.defs.now l.scope.tables.now) (drop l.e-index l.es)) ≡ all_constants l.fn.caps (forms l.fn.caps (widths_of l.fn.scope.defs.now l.fn.scope.tables.now) l.fn.es)
