use Rattle.std.proofs.Common.{◌≡◌, length}
use Rattle.vdb_model.specs.Words.{is_like, some_end}
use Rattle.rel_eval.proofs.patterns.found.Given as goal

-- the ends that are left decide
abbrev pub invariant-loop-end : goal.invariant-loop-end
invariant-loop-end l = some_end (is_like l.pattern) l.end ≡ some_end (is_like l.pattern) l.text

abbrev pub decreases-loop-end : goal.decreases-loop-end
decreases-loop-end l = length l.end
