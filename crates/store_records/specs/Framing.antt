-- The frame of a branch's record, and that of the record that ends it.
use Rattle.std.specs.Prelude.{◌≡◌, ℕ, ◌+◌, true, List, length, ◌++◌, ◌∷◌, []}
use Rattle.std.specs.Int.{w32, to_be_bytes}
use Rattle.vdb_model.specs.declared.source.Xid.{Xid}
use Rattle.resource.specs.declared.stored.StoredDelta.{StoredDelta}
use Rattle.store_records.specs.declared.branch.Ending.{Ending}
use Rattle.store_records.specs.declared.branch.Ending.TheVariants as ending
use Rattle.store_records.specs.declared.branch.Form.{Form}
use Rattle.store_records.specs.declared.branch.Form.TheVariants as form
use Rattle.store_records.specs.declared.entry.Entry.{Entry}
use Rattle.store_records.specs.declared.entry.Entry.TheVariants.{Prepared, Committed, RolledBack, OnePhase}
use Rattle.store_records.specs.Payloads.{xid_bytes, payload, has_payload}

-- the record of a branch, to be prepared or to be kept in one phase
abbrev pub record_of : Form → Xid → List StoredDelta → Entry
record_of form.Prepared x deltas = Prepared x deltas
record_of form.OnePhase x deltas = OnePhase x deltas

abbrev pub kind_in : Form → ℕ
kind_in form.Prepared = 1
kind_in form.OnePhase = 4

-- what stands before the deltas in the frame of such a record: the payload's length, its kind, its transaction and their count
abbrev pub head : ℕ → ℕ → Xid → ℕ → List ℕ
head size kind x count = to_be_bytes w32 size ++ kind ∷ (xid_bytes x ++ to_be_bytes w32 count)

-- the record that ends it
abbrev pub ending_of : Ending → Xid → Entry
ending_of ending.Committed x = Committed x
ending_of ending.RolledBack x = RolledBack x

-- the bytes of a frame: the payload's length and the payload, and a closed gate
abbrev pub framed : List ℕ → List ℕ
framed bytes = (to_be_bytes w32 (length bytes) ++ bytes) ++ 0 ∷ []

-- these are the frame of the record, which has bytes
pub record Frames (entry : Entry) (frame : List ℕ) : Type 0 where
  pub has : has_payload entry ≡ true
  pub is : frame ≡ framed (payload entry)

-- the bytes of a record that ends a branch, with its gate
abbrev pub ending_size : ℕ
ending_size = 22

-- the bytes of the log that a branch of these deltas needs, for its record and its ending
abbrev pub branch_size : List StoredDelta → ℕ
branch_size deltas = length (framed (payload (Prepared (record { epoch = 0; seq = 0 }) deltas))) + ending_size
