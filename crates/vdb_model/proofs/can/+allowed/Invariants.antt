use Rattle.std.proofs.Common.{◌≡◌, drop}
use Rattle.vdb_model.specs.Can.{all_allowed, forms, widths_of}
use Rattle.vdb_model.proofs.can.+allowed.Given as goal

abbrev pub invariant-all_allowed-loop-e : goal.invariant-all_allowed-loop-e
invariant-all_allowed-loop-e l = all_allowed (forms l.caps (widths_of l.scope.defs.now l.scope.tables.now) (drop l.e-index l.es)) ≡ all_allowed (forms l.fn.caps (widths_of l.fn.scope.defs.now l.fn.scope.tables.now) l.fn.es)
