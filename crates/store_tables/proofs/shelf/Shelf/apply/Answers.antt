use Rattle.std.proofs.Common.{sym, subst}
use Rattle.store_tables.specs.Tables.{MayApply}
use Rattle.store_tables.specs.declared.table.Table.{Table}
use Rattle.store_tables.proofs.ShelfSteps.{applied_at}
use Rattle.store_tables.proofs.shelf.Shelf.apply.Goals as goal

pub apply-requires : goal.apply-requires
apply-requires c = subst (λ (t : Table). MayApply c.args.delta.now c.args.keys.now t) (sym c.index_mut.ensures.value) (c.requires.ready c.index_mut.result.now)

pub returns-clause-has : goal.returns-clause-has
returns-clause-has c = λ kept seen place are has.
    applied_at c.args.self.now.defs kept seen c.args.self.now.tables.items c.args.at c.index_mut.result.now c.apply.new.self has place.within c.index_mut.ensures.value c.args.delta.now c.args.keys.now place are c.apply.ensures
