use Rattle.std.proofs.Common.{sym, ◌∙◌}
use Rattle.vdb_session.proofs.FetchedTables.{may_ask_now, pushed, count_more, fetched_next}
use Rattle.vdb_session.proofs.AskedLanes.{asked_on}
use Rattle.vdb_session.proofs.fetching.fetch_tables.Goals as goal

pub fetch_marked-requires-clause-allowed : goal.fetch_marked-requires-clause-allowed
fetch_marked-requires-clause-allowed g c = λ κs b.
    may_ask_now g.S.Resource.told c.args.cat.now c.args.lanes.now c.loop-at.lanes c.as_slice-table-items.result.now c.loop-at.at c.table-item.result c.is_well_formed.ensures c.requires.patterns c.requires.attached c.loop-at.invariant.asked
    (c.as_slice-table-items.ensures ∙ c.tables.ensures) c.table-item.is c.loop-at-test.true

pub loop-at-preserved : goal.loop-at-preserved
loop-at-preserved g c =
    let next = pushed c.push.result _ (sym c.if-is_err.ensures.value) c.push.ensures.ok in
    record {
      count = count_more c.loop-at.bags c.push.new.self c.in-Ok.bag c.loop-at.at next c.loop-at.invariant.count;
      asked = asked_on g.S.Resource.told _ c.args.lanes.now c.loop-at.lanes c.fetch_marked.new.lanes c.loop-at.invariant.asked c.in-Ok.ensures.asked;
      fetched = fetched_next g.S.Resource.told c.args.cat.now c.args.lanes.now c.loop-at.lanes c.args.marks.now c.loop-at.at c.loop-at.bags c.push.new.self c.in-Ok.bag c.as_slice-table-items.result.now c.table-item.result
          c.loop-at.invariant.asked (c.as_slice-table-items.ensures ∙ c.tables.ensures) c.table-item.is c.loop-at-test.true next c.loop-at.invariant.count c.loop-at.invariant.fetched c.in-Ok.ensures.bag;
    }
