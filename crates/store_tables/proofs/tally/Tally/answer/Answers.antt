use Rattle.std.specs.BTreeMap.{IsOrdered}
use Rattle.vdb_base.specs.Order.{row_cmp}
use Rattle.store_tables.proofs.AnswerSteps.{passing_step, seen_passing}
use Rattle.store_tables.proofs.tally.Tally.answer.Goals as goal

pub loop-row-preserved : goal.loop-row-preserved
loop-row-preserved c =
    passing_step c.args.conditions.now c.args.columns.now c.loop-row.made c.in_ok-passing.passing c.from_ref.result.now c.add_copies.new.made c.in-Some.row.now c.in-Some.counts.now c.loop-row.row-iterator c.next.new.self c.args.self.now.counts.entries
    c.in-Some.ensures.steps c.from_ref.ensures.value c.in_ok-passing.ensures c.in_ok-add_copies.ensures c.loop-row.invariant

pub returns : goal.returns
returns c = λ kept seen has.
    let sorted : IsOrdered row_cmp c.args.self.now.counts = c.into_iter-row-iterator.ensures.into_iter_gives.5 in
    seen_passing c.args.conditions.now c.args.columns.now c.loop-row.row-iterator kept seen c.args.self.now c.loop-row.made sorted c.in-None.ensures.steps.0 c.loop-row.invariant has
