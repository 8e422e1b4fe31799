use Rattle.std.proofs.Common.{sym, subst, slice_set}
use Rattle.std.specs.Prelude.{IfOk}
use Rattle.vdb_session.specs.Fetching.{failed_lane, AreRows}
use Rattle.vdb_session.specs.Lanes.{AreAsked}
use Rattle.vdb_session.proofs.WholeTables.{may_ask_at, was_asked}
use Rattle.vdb_session.proofs.fetching.ask_at.Goals as goal

pub ask-requires-after_bounds : goal.ask-requires-after_bounds
ask-requires-after_bounds g c = λ κs b.
    (may_ask_at g.S.Resource.told c.args.cat.now c.args.table.now c.args.lanes.now c.args.at c.index-lanes-at.result c.requires.serving c.requires.allowed).allows

pub returns-clause-asked : goal.returns-clause-asked
returns-clause-asked g c =
    let h = was_asked g.S.Resource.told c.args.cat.now c.args.table.now c.args.lanes.now c.args.at c.index-lanes-at.result c.ask.new.lane c.ask.result c.requires.serving c.requires.allowed
    c.ask.ensures.name c.ask.ensures.kind c.ask.ensures.asked in
    subst (λ r. AreAsked g.S.Resource.told (failed_lane r) c.args.lanes.now (slice_set c.args.lanes.now c.args.at c.ask.new.lane)) (sym c.at_lane.ensures) h.asked

pub returns-clause-rows : goal.returns-clause-rows
returns-clause-rows g c =
    let h = was_asked g.S.Resource.told c.args.cat.now c.args.table.now c.args.lanes.now c.args.at c.index-lanes-at.result c.ask.new.lane c.ask.result c.requires.serving c.requires.allowed
    c.ask.ensures.name c.ask.ensures.kind c.ask.ensures.asked in
    subst (λ r. IfOk r (AreRows g.S.Resource.told c.args.cat.now c.args.lanes.now c.args.table.now)) (sym c.at_lane.ensures) h.rows
