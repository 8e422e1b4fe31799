use Rattle.std.proofs.Common.{length}
use Rattle.vdb_ddl.proofs.Turns.{Reaches}
use Rattle.vdb_ddl.proofs.read.read_items.Given as goal

abbrev pub invariant-loop-grammar : goal.invariant-loop-grammar
invariant-loop-grammar l = Reaches l.source l.left l.items

abbrev pub decreases-loop-grammar : goal.decreases-loop-grammar
decreases-loop-grammar l = length l.left.tokens
