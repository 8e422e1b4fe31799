use Rattle.std.proofs.Common.{◌∙◌, subst}
use Rattle.store_tables.specs.Counting.{OnlyAt}
use Rattle.store_tables.proofs.TallySteps.{OnlyAt-settles, settles_seen}
use Rattle.store_tables.proofs.tally.Tally.keep.Goals as goal

pub invariant_of-self : goal.invariant_of-self
invariant_of-self c = record {
  only_touched = OnlyAt-settles c.pop.new.self.items c.in-Some.row _ c.loop-row.self.counts c.settle.new.map c.settle.ensures
      (subst (λ rows. OnlyAt rows c.loop-row.self.counts) c.in-Some.ensures.items c.loop-row.self.only_touched);
}

pub loop-row-preserved : goal.loop-row-preserved
loop-row-preserved c = λ row. settles_seen c.in-Some.row _ c.loop-row.self.counts c.settle.new.map c.seen_in-times.ensures c.settle.ensures row ∙ c.loop-row.invariant row
