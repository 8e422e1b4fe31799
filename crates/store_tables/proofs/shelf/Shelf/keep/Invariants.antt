use Rattle.std.proofs.Common.{◌≡◌}
use Rattle.store_tables.proofs.ShelfSteps.{Walked, Keeps}
use Rattle.store_tables.proofs.shelf.Shelf.keep.Given as goal

-- the tables so far
abbrev pub invariant-loop-i : goal.invariant-loop-i
invariant-loop-i l = record {
  defs : l.self.defs ≡ l.initial.self.defs;
  walked : Walked Keeps l.i l.initial.self.tables.items l.self.tables.items;
}
