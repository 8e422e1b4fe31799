use Rattle.std.proofs.Common.{◌≡◌, drop}
use Rattle.vdb_model.specs.Can.{all_criteria, widths_of}
use Rattle.vdb_model.proofs.can.all_criteria.Given as goal

abbrev pub invariant-loop-e : goal.invariant-loop-e
invariant-loop-e l = all_criteria l.caps (widths_of l.scope.defs.now l.scope.tables.now) (drop l.e-index l.filter) ≡ all_criteria l.fn.caps (widths_of l.fn.scope.defs.now l.fn.scope.tables.now) l.fn.filter
