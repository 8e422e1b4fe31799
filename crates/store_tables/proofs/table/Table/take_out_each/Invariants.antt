use Rattle.std.proofs.Common.{◌≡◌, ℕ, List, Option, take}
use Rattle.vdb_model.specs.Deltas.{without_each}
use Rattle.vdb_model.specs.Rows.{Cells}
use Rattle.store_tables.specs.Tables.{keys_of, StaysReady, TableHas}
use Rattle.store_tables.proofs.table.Table.take_out_each.Given as goal

-- the rows so far are taken out
abbrev pub invariant-loop-i : goal.invariant-loop-i
invariant-loop-i l = record {
  keeps : StaysReady l.initial.self l.self;
  has : (ats : Option (List ℕ)) (kept seen : List Cells) → l.gone ≡ keys_of ats l.removed → TableHas ats kept seen l.initial.self → TableHas ats kept (without_each (take l.i l.removed) seen) l.self;
}
