use Rattle.std.proofs.Common.{◌≡◌, drop}
use Rattle.vdb_model.specs.Defs.{all_required}
use Rattle.vdb_model.proofs.fit.all_required.Given as goal

abbrev pub invariant-loop-at : goal.invariant-loop-at
invariant-loop-at l = all_required l.columns (drop l.at-index l.ats) ≡ all_required l.fn.columns l.fn.ats
