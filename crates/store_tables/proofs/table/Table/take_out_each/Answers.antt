use Rattle.std.proofs.Common.{List, take, ap, sym, subst, ◌∙◌}
use Rattle.std.specs.Prelude.{slice_get}
use Rattle.std.proofs.lemmas.List.Folds.{list_any_at}
use Rattle.vdb_model.specs.Deltas.{without_each}
use Rattle.vdb_model.specs.Rows.{Cells, same_row}
use Rattle.store_tables.specs.Tables.{TableHas}
use Rattle.store_tables.proofs.Times.{alike}
use Rattle.store_tables.proofs.TableSteps.{KeepsReady-trans, kept_ready, each_more, key_at, ready_at}
use Rattle.store_tables.proofs.table.Table.take_out_each.Goals as goal

pub take_out-requires-clause-row : goal.take_out-requires-clause-row
take_out-requires-clause-row c =
    let x = c.index-removed-i.result in
    let among = list_any_at (same_row x) c.args.removed.now c.loop-i.i x c.loop-i-test.true (ap (same_row x) (sym c.index-removed-i.is) ∙ alike.refl x) in
    c.loop-i.invariant.keeps.rows 0 x (c.requires.removed x among)

pub take_out-requires-clause-key : goal.take_out-requires-clause-key
take_out-requires-clause-key c =
    ready_at c.args.gone.now c.loop-i.i c.loop-i.self.keys c.get.result c.get.ensures.value (kept_ready 0 c.args.gone.now c.args.self.now.keys c.loop-i.self.keys c.requires.gone c.loop-i.invariant.keeps.keys)

pub loop-i-preserved : goal.loop-i-preserved
loop-i-preserved c = record {
  keeps = record {
    rows = KeepsReady-trans c.args.self.now.rows c.loop-i.self.rows c.take_out.new.self.rows c.loop-i.invariant.keeps.rows c.take_out.ensures.keeps.rows;
    keys = KeepsReady-trans c.args.self.now.keys c.loop-i.self.keys c.take_out.new.self.keys c.loop-i.invariant.keeps.keys c.take_out.ensures.keeps.keys;
  };
  has = λ ats kept seen is has.
      let x = c.index-removed-i.result in
      let key_is = c.get.ensures.value ∙ ap (λ (l : List Cells). slice_get l c.loop-i.i) is ∙ key_at ats c.args.removed.now c.loop-i.i x c.loop-i-test.true c.index-removed-i.is in
      subst (λ (s : List Cells). TableHas ats kept s c.take_out.new.self) (sym (each_more c.args.removed.now c.loop-i.i x seen c.loop-i-test.true c.index-removed-i.is))
      (c.take_out.ensures.has ats kept (without_each (take c.loop-i.i c.args.removed.now) seen) key_is (c.loop-i.invariant.has ats kept seen is has));
}
