-- What bytes a record of the store is. Numbers have their highest byte first.
use Rattle.std.specs.Prelude.{◌≡◌, ℕ, ◌^◌, nat_lt, Bool, true, false, ◌&&◌, List, [], ◌∷◌, ◌++◌}
use Rattle.std.specs.Int.{w16, w32, w64, w128, to_be_bytes, cast_unsigned}
use Rattle.std.specs.List.{list_all}
use Rattle.vdb_base.specs.declared.value.Value.{Value}
use Rattle.vdb_base.specs.declared.value.Value.TheVariants.{Null, Bool as Truth, Num, Str}
use Rattle.vdb_model.specs.declared.source.Xid.{Xid}
use Rattle.vdb_model.specs.Number.{extent}
use Rattle.vdb_model.specs.Rows.{Cells}
use Rattle.resource.specs.declared.stored.StoredDelta.{StoredDelta}
use Rattle.store_records.specs.Fields.{counted, lettered, is_short, is_text}
use Rattle.store_records.specs.declared.entry.Entry.{Entry}
use Rattle.store_records.specs.declared.entry.Entry.TheVariants.{Prepared, Committed, RolledBack, OnePhase}

-- a number is two's complement of 128 bits
abbrev pub value_bytes : Value → List ℕ
value_bytes Null = 0 ∷ []
value_bytes (Truth false) = 1 ∷ []
value_bytes (Truth true) = 2 ∷ []
value_bytes (Num n) = 3 ∷ to_be_bytes w128 (cast_unsigned w128 n)
value_bytes (Str text) = 4 ∷ lettered w32 text

abbrev pub row_bytes : Cells → List ℕ
row_bytes row = counted w16 value_bytes row

abbrev pub rows_bytes : List Cells → List ℕ
rows_bytes rows = counted w32 row_bytes rows

abbrev pub delta_bytes : StoredDelta → List ℕ
delta_bytes delta = lettered w16 delta.source ++ (rows_bytes delta.removed ++ rows_bytes delta.added)

abbrev pub xid_bytes : Xid → List ℕ
xid_bytes x = to_be_bytes w64 x.epoch ++ to_be_bytes w64 x.seq

-- a record's kind, its transaction, and the deltas of a branch
abbrev pub payload : Entry → List ℕ
payload (Prepared x deltas) = 1 ∷ (xid_bytes x ++ counted w32 delta_bytes deltas)
payload (Committed x) = 2 ∷ xid_bytes x
payload (RolledBack x) = 3 ∷ xid_bytes x
payload (OnePhase x deltas) = 4 ∷ (xid_bytes x ++ counted w32 delta_bytes deltas)

-- What has such bytes: lengths go into the bytes that are there for them, numbers are of 128 bits, and texts are UTF-8.
abbrev pub has_value : Value → Bool
has_value Null = true
has_value (Truth b) = true
has_value (Num n) = nat_lt (extent n) (2 ^ 127)
has_value (Str text) = is_text 32 text

abbrev pub has_row : Cells → Bool
has_row row = is_short 16 row && list_all has_value row

abbrev pub has_rows : List Cells → Bool
has_rows rows = is_short 32 rows && list_all has_row rows

abbrev pub has_delta : StoredDelta → Bool
has_delta delta = is_text 16 delta.source && (has_rows delta.removed && has_rows delta.added)

abbrev pub has_xid : Xid → Bool
has_xid x = nat_lt x.epoch (2 ^ 64) && nat_lt x.seq (2 ^ 64)

abbrev pub has_deltas : List StoredDelta → Bool
has_deltas deltas = is_short 32 deltas && list_all has_delta deltas

abbrev pub has_payload : Entry → Bool
has_payload (Prepared x deltas) = has_xid x && has_deltas deltas
has_payload (Committed x) = has_xid x
has_payload (RolledBack x) = has_xid x
has_payload (OnePhase x deltas) = has_xid x && has_deltas deltas

-- these bytes are the payload of the record, which has one
pub record IsPayload (entry : Entry) (bytes : List ℕ) : Type 0 where
  pub has : has_payload entry ≡ true
  pub is : bytes ≡ payload entry
