use Rattle.grammar.proofs.Tables.{shape_at, no_shape}
use Rattle.grammar.proofs.table.rule_at.Goals as goal

pub returns-then-at-rules : goal.returns-then-at-rules
returns-then-at-rules c = shape_at c.args.rules.now c.args.symbol _ c.if-at-rules.true

pub returns-else-at-rules : goal.returns-else-at-rules
returns-else-at-rules c = no_shape c.args.rules.now c.args.symbol c.if-at-rules.false
