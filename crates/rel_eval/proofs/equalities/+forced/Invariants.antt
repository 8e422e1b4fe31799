use Rattle.std.proofs.Common.{take}
use Rattle.rel_eval.specs.Equal.{AreForced}
use Rattle.rel_eval.proofs.equalities.+forced.Given as goal

-- those of the conjuncts so far
abbrev pub invariant-forced_by_all-loop-e : goal.invariant-forced_by_all-loop-e
invariant-forced_by_all-loop-e l = AreForced (take l.e-index l.es) l.width l.made.lefts l.made.rights
