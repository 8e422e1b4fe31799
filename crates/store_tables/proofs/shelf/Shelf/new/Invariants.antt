use Rattle.std.proofs.Common.{◌≡◌, ℕ, ◌<◌, length, get_or}
use Rattle.store_tables.specs.declared.table.Table.{Table}
use Rattle.store_tables.proofs.ShelfSteps.{IsEmptyTable}
use Rattle.store_tables.proofs.shelf.Shelf.new.Given as goal

-- the tables so far are empty
abbrev pub invariant-loop : goal.invariant-loop
invariant-loop l = record {
  len : length l.tables.items ≡ l.counter;
  empty : (k : ℕ) (t : Table) → k < length l.tables.items → IsEmptyTable (get_or l.tables.items k t);
}
