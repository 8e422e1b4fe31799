use Rattle.std.proofs.Common.{sym, ◌∙◌}
use Rattle.grammar.proofs.Logs.{past_other}
use Rattle.grammar.proofs.order.is_up_to.Goals as goal

pub returns-then-at-other : goal.returns-then-at-other
returns-then-at-other c = sym (past_other c.args.log.now c.args.other.now c.loop-at.at c.loop-at-test.true c.if-at-other.true) ∙ c.loop-at.invariant
