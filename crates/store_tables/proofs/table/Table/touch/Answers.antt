use Rattle.std.proofs.Common.{List, length, subst}
use Rattle.vdb_model.specs.Rows.{Cells}
use Rattle.store_tables.specs.Tallies.{AreReady}
use Rattle.store_tables.proofs.TableSteps.{kept_ready}
use Rattle.store_tables.proofs.table.Table.touch.Goals as goal

pub returns-clause-ready : goal.returns-clause-ready
returns-clause-ready c = record {
  removed = subst (λ (l : List Cells). AreReady 0 l c.touch_each-2.new.self) c.as_slice-removed.ensures
      (kept_ready 0 c.as_slice-removed.result.now c.touch_each.new.self c.touch_each-2.new.self c.in_ok-touch_each.ensures.ready c.touch_each-2.ensures.keeps);
  added = subst (λ (l : List Cells). AreReady (length l) l c.touch_each-2.new.self) c.as_slice-added.ensures c.in_ok-touch_each-2.ensures.ready;
  gone = subst (λ (l : List Cells). AreReady 0 l c.touch_each-4.new.self) c.as_slice-gone.ensures
      (kept_ready 0 c.as_slice-gone.result.now c.touch_each-3.new.self c.touch_each-4.new.self c.in_ok-touch_each-3.ensures.ready c.touch_each-4.ensures.keeps);
  come = subst (λ (l : List Cells). AreReady (length l) l c.touch_each-4.new.self) c.as_slice-come.ensures c.in_ok-touch_each-4.ensures.ready;
}
