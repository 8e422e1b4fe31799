use Rattle.std.proofs.Common.{◌+◌, [], take}
use Rattle.grammar.specs.Table.{shapes}
use Rattle.grammar.specs.Threads.{Adds, SomeReads, KeepsEnded}
use Rattle.grammar.proofs.machine.step.Given as goal

abbrev pub invariant-loop-thread : goal.invariant-loop-thread
invariant-loop-thread l = record {
  adds : Adds (shapes l.rules) (l.at + 1) [] l.out.items (SomeReads (shapes l.rules) l.at (take l.thread-index l.threads) l.token);
  ended : KeepsEnded l.token [] l.out.items;
}
