use Rattle.std.proofs.Common.{◌≡◌, length}
use Rattle.vdb_model.specs.Defs.{are_named_apart}
use Rattle.vdb_model.proofs.fit.are_named_apart.Given as goal

abbrev pub invariant-loop-left : goal.invariant-loop-left
invariant-loop-left l = are_named_apart l.left ≡ are_named_apart l.fn.defs

abbrev pub decreases-loop-left : goal.decreases-loop-left
decreases-loop-left l = length l.left
