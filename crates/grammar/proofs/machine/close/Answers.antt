use Rattle.std.proofs.Common.{ap, ◌∙◌}
use Rattle.grammar.specs.Table.{shapes}
use Rattle.grammar.specs.Threads.{symbols}
use Rattle.grammar.proofs.Adding.{keeps_ended_push}
use Rattle.grammar.proofs.Steps.{adds_end}
use Rattle.grammar.proofs.machine.close.Goals as goal

pub returns-in_ok-push-in-None-clause-adds : goal.returns-in_ok-push-in-None-clause-adds
returns-in_ok-push-in-None-clause-adds c = rw (c.in_ok-push-in-None.ensures.items, c.in-None.is)
    (adds_end (shapes c.args.rules.now) c.args.at c.args.trail.now.items c.args.out.now.items _ (c.in_ok-log-in-None.ensures.items ∙ c.as_slice.ensures.value) (ap symbols c.in_ok-stack-in-None.ensures.ok))

pub returns-in_ok-push-in-None-clause-ended : goal.returns-in_ok-push-in-None-clause-ended
returns-in_ok-push-in-None-clause-ended c = rw (c.in_ok-push-in-None.ensures.items, c.in-None.is) (keeps_ended_push c.args.out.now.items _ (ap symbols c.in_ok-stack-in-None.ensures.ok))
