use Rattle.std.proofs.Common.{List, sym, ap, ◌∙◌, subst}
use Rattle.vdb_model.specs.declared.table.TableDef.{TableDef}
use Rattle.vdb_model.specs.Rows.{Cells}
use Rattle.vdb_model.specs.Defs.{is_defined}
use Rattle.resource.specs.Checked.{passing_cut}
use Rattle.store_tables.specs.Counting.{times}
use Rattle.store_tables.specs.Shelves.{IsPlace}
use Rattle.store_tables.proofs.OneTable.{answers_one, rows_none}
use Rattle.store_tables.proofs.shelf.Shelf.answer.Goals as goal

pub returns-in-Some : goal.returns-in-Some
returns-in-Some c =
    answers_one c.answer.result c.args.conditions.now c.args.columns.now c.args.number c.args.self.now.defs c.args.self.now.tables.items c.in-Some.at c.index.result.now
    (subst (λ (l : List TableDef). IsPlace c.args.number l c.in-Some.at) c.as_slice.ensures c.in-Some.ensures) c.index.ensures c.answer.ensures

pub returns-in-None : goal.returns-in-None
returns-in-None c = λ kept seen has row.
    let none = rows_none c.args.number c.args.self.now.defs seen (sym (ap (λ (l : List TableDef). is_defined l c.args.number) c.as_slice.ensures) ∙ c.in-None.ensures) in
    ap (times row) c.new.ensures ∙ sym (ap (λ (l : List Cells). times row (passing_cut c.args.conditions.now c.args.columns.now l)) none)
