use Rattle.std.proofs.Common.{◌≡◌, drop}
use Rattle.vdb_model.specs.Defs.{all_below}
use Rattle.vdb_model.proofs.fit.all_below.Given as goal

abbrev pub invariant-loop-at : goal.invariant-loop-at
invariant-loop-at l = all_below l.limit (drop l.at-index l.ats) ≡ all_below l.fn.limit l.fn.ats
