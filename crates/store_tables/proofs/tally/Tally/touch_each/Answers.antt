use Rattle.store_tables.proofs.TallySteps.{ready_more, SameTimes-trans}
use Rattle.store_tables.proofs.tally.Tally.touch_each.Goals as goal

pub returns-in_err-touch-clause-keeps : goal.returns-in_err-touch-clause-keeps
returns-in_err-touch-clause-keeps c = λ more row ready. c.touch.ensures.keeps more row (c.loop-row.invariant.keeps more row ready)

pub loop-row-preserved : goal.loop-row-preserved
loop-row-preserved c = record {
  same = SameTimes-trans c.args.self.now c.loop-row.self c.touch.new.self c.loop-row.invariant.same c.touch.ensures.same;
  keeps = λ more row ready. c.touch.ensures.keeps more row (c.loop-row.invariant.keeps more row ready);
  ready = ready_more c.args.more c.args.rows.now c.loop-row.row-index c.row-item.result c.loop-row.self c.touch.new.self c.loop-row-test.true c.row-item.is c.loop-row.invariant.ready c.touch.ensures.keeps c.in_ok-touch.ensures.ready;
}
