use Rattle.std.proofs.Common.{List, get_or, sym, ap, subst, ◌∙◌}
use Rattle.vdb_model.specs.declared.table.TableDef.{TableDef}
use Rattle.vdb_model.specs.Defs.{is_defined}
use Rattle.vdb_model.specs.Deltas.{after_delta}
use Rattle.vdb_model.specs.Rows.{Cells}
use Rattle.store_tables.specs.Shelves.{IsPlace, ShelfHas}
use Rattle.store_tables.specs.Tables.{AreKeys}
use Rattle.store_tables.proofs.ShelfSteps.{after_delta-none}
use Rattle.store_tables.proofs.shelf.Shelf.make.Goals as goal

pub returns-in_ok-keys-in-Some-clause-has : goal.returns-in_ok-keys-in-Some-clause-has
returns-in_ok-keys-in-Some-clause-has c = λ kept seen has.
    let same = c.touch.ensures.same in
    let place = subst (λ (l : List TableDef). IsPlace c.args.delta.now.table l c.in-Some.at) (c.as_slice.ensures ∙ sym same.defs) c.in-Some.ensures in
    let are = λ (d : TableDef). subst (λ (l : List TableDef). AreKeys (get_or l c.in-Some.at d).key c.args.delta.now c.in_ok-keys-in-Some.keys) (sym same.defs) (c.in_ok-keys-in-Some.ensures.keys d) in
    subst (λ (l : List TableDef). ShelfHas kept (after_delta l seen c.args.delta.now) c.apply.new.self) same.defs (c.apply.ensures.has kept seen place are (same.has kept seen has))

pub returns-in-None-clause-has : goal.returns-in-None-clause-has
returns-in-None-clause-has c = λ kept seen has.
    subst (λ (tables : List (List Cells)). ShelfHas kept tables c.args.self.now)
    (sym (after_delta-none c.args.delta.now c.args.self.now.defs seen has.seen_len (sym (ap (λ (l : List TableDef). is_defined l c.args.delta.now.table) c.as_slice.ensures) ∙ c.in-None.ensures))) has
