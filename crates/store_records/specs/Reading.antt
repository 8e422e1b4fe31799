-- Reading a payload from left to right.
use Rattle.std.specs.Prelude.{◌≡◌, ℕ, zero, suc, true, false, List, [], ◌∷◌, Option, Some, None, Result, Ok, Err, ⊤}
use Rattle.std.specs.Int.{w16, w32, w64}
use Rattle.vdb_base.specs.declared.value.Value.{Value}
use Rattle.vdb_base.specs.declared.value.Value.TheVariants.{Null, Bool as Truth, Num, Str}
use Rattle.vdb_model.specs.declared.source.Xid.{Xid}
use Rattle.vdb_model.specs.Rows.{Cells}
use Rattle.resource.specs.declared.stored.StoredDelta.{StoredDelta}
use Rattle.store_records.specs.Fields.{◌>>=◌, Front, number_at, signed_at, text_at, list_at, whole}
use Rattle.store_records.specs.declared.entry.Entry.{Entry}
use Rattle.store_records.specs.declared.entry.Entry.TheVariants.{Prepared, Committed, RolledBack, OnePhase}
use Rattle.store_records.specs.declared.reading.ReadFault.{ReadFault}
use Rattle.store_records.specs.declared.reading.ReadFault.TheVariants as fault

unfoldable pub value_at : List ℕ → Front Value
value_at [] = None
value_at (zero ∷ rest) = Some (Null, rest)
value_at (suc zero ∷ rest) = Some (Truth false, rest)
value_at (suc (suc zero) ∷ rest) = Some (Truth true, rest)
value_at (suc (suc (suc zero)) ∷ rest) = do
  n ← signed_at rest
  Some (Num n.0, n.1)
value_at (suc (suc (suc (suc zero))) ∷ rest) = do
  text ← text_at w32 rest
  Some (Str text.0, text.1)
value_at (suc (suc (suc (suc (suc kind)))) ∷ rest) = None

abbrev pub row_at : List ℕ → Front Cells
row_at bytes = list_at w16 value_at bytes

abbrev pub rows_at : List ℕ → Front (List Cells)
rows_at bytes = list_at w32 row_at bytes

unfoldable pub delta_at : List ℕ → Front StoredDelta
delta_at bytes = do
  source ← text_at w16 bytes
  removed ← rows_at source.1
  added ← rows_at removed.1
  Some (record { source = source.0; removed = removed.0; added = added.0 }, added.1)

abbrev pub deltas_at : List ℕ → Front (List StoredDelta)
deltas_at bytes = list_at w32 delta_at bytes

unfoldable pub xid_at : List ℕ → Front Xid
xid_at bytes = do
  epoch ← number_at w64 bytes
  seq ← number_at w64 epoch.1
  Some (record { epoch = epoch.0; seq = seq.0 }, seq.1)

-- a transaction, and deltas
unfoldable pub branch_at : List ℕ → Front (Xid × List StoredDelta)
branch_at bytes = do
  x ← xid_at bytes
  deltas ← deltas_at x.1
  Some ((x.0, deltas.0), deltas.1)

-- the record of a payload: none where no record has it
unfoldable pub entry_of : List ℕ → Option Entry
entry_of [] = None
entry_of (zero ∷ rest) = None
entry_of (suc zero ∷ rest) = do
  branch ← whole (branch_at rest)
  Some (Prepared branch.0 branch.1)
entry_of (suc (suc zero) ∷ rest) = do
  x ← whole (xid_at rest)
  Some (Committed x)
entry_of (suc (suc (suc zero)) ∷ rest) = do
  x ← whole (xid_at rest)
  Some (RolledBack x)
entry_of (suc (suc (suc (suc zero))) ∷ rest) = do
  branch ← whole (branch_at rest)
  Some (OnePhase branch.0 branch.1)
entry_of (suc (suc (suc (suc (suc kind)))) ∷ rest) = None

-- what a function that reads returns, seen by view, is what stands there, unless memory was wanting
abbrev pub Fails : {Y : Type 0} → ReadFault → Option Y → Type 0
Fails fault.Broken read = read ≡ None
Fails fault.Memory read = ⊤

abbrev pub Gives : {X Y : Type 0} → (X → Y) → Result X ReadFault → Option Y → Type 0
Gives view (Ok x) read = read ≡ Some (view x)
Gives view (Err e) read = Fails e read
