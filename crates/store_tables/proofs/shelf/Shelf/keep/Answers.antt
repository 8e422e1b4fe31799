use Rattle.std.proofs.Common.{List, sym, subst, arith}
use Rattle.vdb_model.specs.declared.table.TableDef.{TableDef}
use Rattle.store_tables.specs.Shelves.{TablesHave}
use Rattle.store_tables.specs.Tables.{TableHas}
use Rattle.store_tables.proofs.ShelfSteps.{all_kept, Walked-more, Keeps}
use Rattle.store_tables.proofs.shelf.Shelf.keep.Goals as goal

pub loop-i-preserved : goal.loop-i-preserved
loop-i-preserved c = record {
  defs = c.loop-i.invariant.defs;
  walked = Walked-more Keeps c.loop-i.i c.args.self.now.tables.items c.loop-i.self.tables.items c.index_mut.result.now c.keep.new.self (omega (arith, c.loop-i.self.as_many)) c.loop-i.invariant.walked
      (λ ats kept seen has. c.keep.ensures ats kept seen (subst (λ t. TableHas ats kept seen t) (sym c.index_mut.ensures.value) has));
}

pub returns-clause-has : goal.returns-clause-has
returns-clause-has c = λ kept seen has.
    let walked = c.loop-i.invariant.walked in
    all_kept c.loop-i.self.defs kept seen c.loop-i.i c.args.self.now.tables.items c.loop-i.self.tables.items (omega (arith, c.len-i-end.ensures, c.loop-i-test.false, walked.len)) walked
    (subst (λ (l : List TableDef). TablesHave l kept seen c.args.self.now.tables.items) (sym c.loop-i.invariant.defs) has)
