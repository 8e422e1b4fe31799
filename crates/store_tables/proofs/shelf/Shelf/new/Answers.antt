use Rattle.std.proofs.Common.{ℕ, ◌<◌, List, [], ◌∷◌, length, get_or, sym, ap, subst, arith, length-append}
use Rattle.store_tables.specs.declared.table.Table.{Table}
use Rattle.store_tables.proofs.ShelfSteps.{IsEmptyTable, all_empty, one_more}
use Rattle.store_tables.proofs.shelf.Shelf.new.Goals as goal

pub loop-preserved : goal.loop-preserved
loop-preserved c = record {
  len = omega (arith, ap length c.in_ok-push.ensures.items, length-append c.loop.tables.items (c.new.result ∷ []), c.loop.invariant.len);
  empty = subst (λ (l : List Table). (k : ℕ) (t : Table) → k < length l → IsEmptyTable (get_or l k t)) (sym c.in_ok-push.ensures.items) (one_more c.loop.tables.items c.new.result c.loop.invariant.empty c.new.ensures);
}

pub returns-clause-has : goal.returns-clause-has
returns-clause-has c = all_empty c.args.defs c.loop.tables.items (omega (arith, c.loop.invariant.len, c.len-end.ensures, c.loop-test.false, c.loop.auto.counter-end)) c.loop.invariant.empty
