use Rattle.std.proofs.Common.{List}
use Rattle.vdb_model.specs.Rows.{Cells}
use Rattle.store_tables.specs.Shelves.{ShelfHas}
use Rattle.store_tables.proofs.ShelfSteps.{InOrderTo}
use Rattle.store_tables.proofs.shelf.Shelf.is_in_order.Given as goal

-- the tables so far are in order
abbrev pub invariant-loop-i : goal.invariant-loop-i
invariant-loop-i l = (kept seen : List (List Cells)) → ShelfHas kept seen l.self → InOrderTo l.i l.self.defs kept seen
