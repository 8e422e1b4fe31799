use Rattle.std.proofs.Common.{◌≡◌, drop}
use Rattle.vdb_model.specs.Defs.{all_fit}
use Rattle.vdb_model.proofs.fit.all_fit.Given as goal

abbrev pub invariant-loop-def : goal.invariant-loop-def
invariant-loop-def l = all_fit (drop l.def-index l.defs) ≡ all_fit l.fn.defs
