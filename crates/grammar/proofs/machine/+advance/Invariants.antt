use Rattle.std.proofs.Common.{◌≡◌, ◌+◌}
use Rattle.grammar.specs.Table.{shapes}
use Rattle.grammar.specs.Threads.{symbols, Adds, OpensTo, KeepsEnded}
use Rattle.grammar.proofs.Steps.{opened}
use Rattle.grammar.proofs.Tables.{cost}
use Rattle.grammar.proofs.machine.+advance.Given as goal

abbrev pub decreases-advance : goal.decreases-advance
decreases-advance l = cost (shapes l.rules.now) (symbols l.stack.now)

abbrev pub invariant-loop-items : goal.invariant-loop-items
invariant-loop-items l = record {
  trail : l.trail.items ≡ l.fn.trail.items;
  adds : Adds (shapes l.rules) (l.at + 1) l.fn.out.items l.out.items
      (OpensTo (shapes l.rules) l.at l.fn.trail.items l.symbol (opened l.items-index l.alternatives) (symbols l.rest.value) l.token);
  ended : KeepsEnded l.token l.fn.out.items l.out.items;
}
