use Rattle.std.proofs.Common.{take}
use Rattle.grammar.proofs.Logs.{IsLeastSoFar}
use Rattle.grammar.proofs.order.least.Given as goal

abbrev pub invariant-loop-thread : goal.invariant-loop-thread
invariant-loop-thread l = IsLeastSoFar l.least (take l.thread-index l.threads) l.threads
