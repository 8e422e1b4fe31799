use Rattle.std.proofs.Common.{◌≡◌, length}
use Rattle.vdb_session.specs.Lanes.{are_apart, names_of}
use Rattle.vdb_session.proofs.names.are_named_apart.Given as goal

abbrev pub invariant-loop-left : goal.invariant-loop-left
invariant-loop-left g l = are_apart (names_of l.left) ≡ are_apart (names_of l.fn.lanes)

abbrev pub decreases-loop-left : goal.decreases-loop-left
decreases-loop-left g l = length l.left
