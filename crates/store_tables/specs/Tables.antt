-- A table of the store in memory: its rows, and the keys of its rows.
use Rattle.std.specs.Prelude.{◌≡◌, ℕ, List, [], length, Option, Some, None}
use Rattle.vdb_model.specs.declared.source.Delta.{Delta}
use Rattle.vdb_model.specs.Rows.{Cells, cut, cut_rows}
use Rattle.store_tables.specs.Tallies.{Tallies, SameTimes, KeepsReady, AreReady}
use Rattle.store_tables.specs.declared.table.Keys.{Keys}
use Rattle.store_tables.specs.declared.table.Table.{Table}

-- the key of a row, and the keys of rows; without a primary key there are none
abbrev pub key_of : Option (List ℕ) → Cells → Option Cells
key_of None row = None
key_of (Some ats) row = Some (cut ats row)

abbrev pub keys_of : Option (List ℕ) → List Cells → List Cells
keys_of None rows = []
keys_of (Some ats) rows = cut_rows ats rows

-- these are the keys of the rows of a change
pub record AreKeys (key : Option (List ℕ)) (delta : Delta) (keys : Keys) : Type 0 where
  pub gone : keys.gone ≡ keys_of key delta.removed
  pub come : keys.come ≡ keys_of key delta.added

-- the table has these rows, as kept and as seen, and their keys
pub record TableHas (key : Option (List ℕ)) (kept seen : List Cells) (table : Table) : Type 0 where
  pub rows : Tallies kept seen table.rows
  pub keys : Tallies (keys_of key kept) (keys_of key seen) table.keys

-- no row and no key stands there more or less often
pub record SameRows (old new : Table) : Type 0 where
  pub rows : SameTimes old.rows new.rows
  pub keys : SameTimes old.keys new.keys

-- what was ready still is
pub record StaysReady (old new : Table) : Type 0 where
  pub rows : KeepsReady old.rows new.rows
  pub keys : KeepsReady old.keys new.keys

-- the memory for a change is there
pub record MayApply (delta : Delta) (keys : Keys) (table : Table) : Type 0 where
  pub removed : AreReady 0 delta.removed table.rows
  pub added : AreReady (length delta.added) delta.added table.rows
  pub gone : AreReady 0 keys.gone table.keys
  pub come : AreReady (length keys.come) keys.come table.keys
