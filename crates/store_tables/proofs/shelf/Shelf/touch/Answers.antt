use Rattle.std.proofs.Common.{refl}
use Rattle.store_tables.proofs.ShelfSteps.{stays_at}
use Rattle.store_tables.proofs.shelf.Shelf.touch.Goals as goal

pub returns-in_err-touch-clause-same : goal.returns-in_err-touch-clause-same
returns-in_err-touch-clause-same c = record {
  defs = refl;
  has = λ kept seen has. stays_at c.args.self.now.defs kept seen c.args.self.now.tables.items c.args.at c.index_mut.result.now c.touch.new.self has c.requires c.index_mut.ensures.value c.touch.ensures.same;
}

pub returns-clause-same : goal.returns-clause-same
returns-clause-same c = record {
  defs = refl;
  has = λ kept seen has. stays_at c.args.self.now.defs kept seen c.args.self.now.tables.items c.args.at c.index_mut.result.now c.touch.new.self has c.requires c.index_mut.ensures.value c.touch.ensures.same;
}
