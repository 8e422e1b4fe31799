use Rattle.std.proofs.Common.{sym, subst}
use Rattle.vdb_session.specs.Starting.{IsStartFault}
use Rattle.vdb_session.proofs.starting.start_fault.Goals as goal

pub returns-in-BadCell : goal.returns-in-BadCell
returns-in-BadCell c = subst (λ a. IsStartFault c.args.server.now c.args.tables.now c.args.at a c.bad_cell.result) (sym c.in-BadCell.is) (c.bad_cell.ensures c.args.at)

pub returns-in-BadStore : goal.returns-in-BadStore
returns-in-BadStore c = subst (λ a. IsStartFault c.args.server.now c.args.tables.now c.args.at a c.bad_store.result) (sym c.in-BadStore.is) (c.bad_store.ensures c.args.at)
