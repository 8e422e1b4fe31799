use Rattle.std.proofs.Common.{arith, sym, ◌∙◌}
use Rattle.sql_tokens.proofs.Decimal.{all_read, too_wide}
use Rattle.sql_tokens.proofs.values.value.Goals as goal

pub returns-in-None : goal.returns-in-None
returns-in-None c = too_wide _ _ _ c.loop-b.b-index (omega arith) (sym c.more.ensures ∙ c.in-None.is) c.loop-b.invariant.1

pub returns : goal.returns
returns c = all_read _ _ _ c.loop-b.b-index c.loop-b.invariant.0 (omega arith) c.loop-b.invariant.1
