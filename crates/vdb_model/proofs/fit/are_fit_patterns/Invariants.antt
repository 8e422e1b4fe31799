use Rattle.std.proofs.Common.{◌≡◌, drop}
use Rattle.vdb_model.specs.Defs.{are_fit_patterns}
use Rattle.vdb_model.proofs.fit.are_fit_patterns.Given as goal

abbrev pub invariant-loop-ats : goal.invariant-loop-ats
invariant-loop-ats l = are_fit_patterns l.columns (drop l.ats-index l.patterns) ≡ are_fit_patterns l.fn.columns l.fn.patterns
