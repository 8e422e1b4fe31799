use Rattle.store_tables.proofs.AnswerSteps.{copies_more}
use Rattle.store_tables.proofs.tally.add_copies.Goals as goal

pub loop-preserved : goal.loop-preserved
loop-preserved c = copies_more c.loop.counter c.args.made.now c.loop.made _ c.args.rows.now _ c.in_ok-append.ensures.ok c.in_ok-copy.ensures c.loop.invariant
