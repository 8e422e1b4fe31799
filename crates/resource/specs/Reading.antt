-- What a store reads as under definitions of tables.
use Rattle.std.specs.Prelude.{◌≡◌, ℕ, List, Option, Some, None, Result, Ok, Err, ⊤}
use Rattle.vdb_model.specs.Rows.{Cells}
use Rattle.vdb_model.specs.declared.source.Delta.{Delta}
use Rattle.vdb_model.specs.declared.source.Xid.{Xid}
use Rattle.resource.specs.declared.resource.AttachFault.{AttachFault}
use Rattle.resource.specs.declared.resource.AttachFault.TheVariants.{BadCell, BadStore, Failed, Memory}

-- a prepared branch: its transaction, and its deltas in turn
pub record Branch : Type 0 where
  pub xid : Xid
  pub deltas : List Delta

-- the committed rows of each table in turn and the prepared branch, where there is one, or the first fault: a cell, or the
-- form of a table or of the whole store
pub data Reading : Type 0 where
  Sound : List (List Cells) → Option Branch → Reading
  CellFault : ℕ → ℕ → ℕ → Reading
  StoreFault : ℕ → Reading

abbrev pub tables_of : Reading → Option (List (List Cells))
tables_of (Sound tables branch) = Some tables
tables_of (CellFault table row col) = None
tables_of (StoreFault table) = None

-- what an attach answers, by what the store reads as
abbrev pub IsAttachAnswer : Reading → Result (Unit {0}) AttachFault → Type 0
IsAttachAnswer reading (Ok done) = (tables : List (List Cells)) × (branch : Option Branch) × (reading ≡ Sound tables branch)
IsAttachAnswer reading (Err (BadCell table row col)) = reading ≡ CellFault table row col
IsAttachAnswer reading (Err (BadStore table)) = reading ≡ StoreFault table
IsAttachAnswer reading (Err Failed) = ⊤
IsAttachAnswer reading (Err Memory) = ⊤
