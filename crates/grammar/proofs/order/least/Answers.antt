use Rattle.std.proofs.Common.{◌≡◌, sym, subst, List, cond}
use Rattle.grammar.specs.declared.machine.Event.{Event}
use Rattle.grammar.specs.Order.{is_up_to}
use Rattle.grammar.proofs.Logs.{least_none, least_more}
use Rattle.grammar.proofs.order.least.Goals as goal

pub loop-thread-init : goal.loop-thread-init
loop-thread-init c = least_none c.as_slice-least.result.now c.args.threads.now c.in_ok-first.field-0.now (sym c.in_ok-first.ensures.value) c.as_slice-least.ensures.value

pub loop-thread-preserved : goal.loop-thread-preserved
loop-thread-preserved c = least_more c.loop-thread.least.now c.lesser-least.result.now c.args.threads.now c.loop-thread.thread-index c.thread-item.result c.loop-thread-test.true c.thread-item.is
    (subst (λ (log : List Event). c.lesser-least.result.now ≡ cond (is_up_to c.loop-thread.least.now log) c.loop-thread.least.now log) c.as_slice.ensures.value c.lesser-least.ensures) c.loop-thread.invariant
