use Rattle.std.proofs.Common.{List, length, ap, sym, subst, ◌∙◌}
use Rattle.vdb_model.specs.Deltas.{without_each}
use Rattle.vdb_model.specs.Rows.{Cells}
use Rattle.store_tables.specs.Tables.{keys_of, TableHas}
use Rattle.store_tables.specs.Tallies.{AreReady}
use Rattle.store_tables.proofs.TableSteps.{kept_ready, put_in, put_changed}
use Rattle.store_tables.proofs.table.Table.apply.Goals as goal

pub put_in_each-requires : goal.put_in_each-requires
put_in_each-requires c =
    subst (λ (l : List Cells). AreReady (length l) l c.take_out_each.new.self.rows) (sym c.as_slice-2.ensures)
    (kept_ready _ c.args.delta.now.added c.args.self.now.rows c.take_out_each.new.self.rows c.requires.added c.take_out_each.ensures.keeps.rows)

pub put_in_each-requires-2 : goal.put_in_each-requires-2
put_in_each-requires-2 c =
    subst (λ (l : List Cells). AreReady (length l) l c.take_out_each.new.self.keys) (sym c.as_slice-3.ensures)
    (kept_ready _ c.args.keys.now.come c.args.self.now.keys c.take_out_each.new.self.keys c.requires.come c.take_out_each.ensures.keeps.keys)

pub returns : goal.returns
returns c = λ ats kept seen are has.
    let removed = c.as_slice.result.now in
    let added = c.as_slice-2.result.now in
    let come = c.as_slice-3.result.now in
    let gone_is = are.gone ∙ ap (keys_of ats) (sym c.as_slice.ensures) in
    let come_is = c.as_slice-3.ensures ∙ are.come ∙ ap (keys_of ats) (sym c.as_slice-2.ensures) in
    let out : TableHas ats kept (without_each removed seen) c.take_out_each.new.self = c.take_out_each.ensures.has ats kept seen gone_is has in
    put_changed ats kept seen c.args.delta.now _ removed added c.as_slice.ensures c.as_slice-2.ensures
    (put_in ats kept (without_each removed seen) added come c.take_out_each.new.self _ come_is c.put_in_each.ensures c.put_in_each-2.ensures out)
