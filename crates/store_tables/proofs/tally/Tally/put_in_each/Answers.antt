use Rattle.store_tables.proofs.TallySteps.{gain_next, Gains-more}
use Rattle.store_tables.proofs.tally.Tally.put_in_each.Goals as goal

pub put_in-requires : goal.put_in-requires
put_in-requires c = gain_next c.args.rows.now c.loop-row.row-index c.row-item.result c.args.self.now c.loop-row.self c.loop-row-test.true c.row-item.is c.requires c.loop-row.invariant

pub loop-row-preserved : goal.loop-row-preserved
loop-row-preserved c = Gains-more c.args.rows.now c.loop-row.row-index c.row-item.result c.args.self.now c.loop-row.self c.put_in.new.self c.loop-row-test.true c.row-item.is c.loop-row.invariant c.put_in.ensures
