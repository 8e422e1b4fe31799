use Rattle.std.proofs.Common.{ap, ◌∙◌}
use Rattle.grammar.specs.Table.{shapes}
use Rattle.grammar.specs.Threads.{symbols}
use Rattle.grammar.proofs.Adding.{keeps_ended_then}
use Rattle.grammar.proofs.Steps.{step_more}
use Rattle.grammar.proofs.machine.step.Goals as goal

pub loop-thread-preserved : goal.loop-thread-preserved
loop-thread-preserved c = record {
  adds = step_more (shapes c.args.rules.now) c.args.at c.args.token c.args.threads.now c.loop-thread.thread-index c.thread-item.result _ _ _ _ c.loop-thread-test.true c.thread-item.is
      (c.in_ok-trail.ensures.items ∙ c.as_slice.ensures.value) (ap symbols c.deref.ensures) c.loop-thread.invariant.adds c.in_ok-advance.ensures.adds;
  ended = keeps_ended_then c.args.token _ _ _ c.loop-thread.invariant.ended c.in_ok-advance.ensures.ended;
}
