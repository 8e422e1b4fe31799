-- What the records of a log leave, from left to right: tables, and a prepared branch.
use Rattle.std.specs.Prelude.{ℕ, ◌+◌, ◌-◌, nat_le, Bool, true, ◌&&◌, ◌==◌, if◌then◌else◌, List, [], ◌∷◌, Option, Some, None, is_some}
use Rattle.vdb_model.specs.declared.source.Xid.{Xid}
use Rattle.resource.specs.declared.stored.StoredDelta.{StoredDelta}
use Rattle.vdb_model.specs.declared.table.TableDef.{TableDef}
use Rattle.gate_log.specs.Records.{log_limit, records}
use Rattle.gate_log.specs.Walking.{gate_behind}
use Rattle.resource.specs.declared.stored.StoredTable.{StoredTable}
use Rattle.resource.specs.Reading.{Reading, StoreFault}
use Rattle.resource.specs.Stored.{StoredBranch, after_stored, read_store}
use Rattle.store_records.specs.declared.entry.Entry.{Entry}
use Rattle.store_records.specs.declared.entry.Entry.TheVariants.{Prepared, Committed, RolledBack, OnePhase}
use Rattle.store_records.specs.Fields.{◌>>=◌}
use Rattle.store_records.specs.Framing.{ending_size}
use Rattle.store_records.specs.Reading.{entry_of}

-- the tables by their source names, and the branch that was prepared and not ended
pub record Replayed : Type 0 where
  pub tables : List StoredTable
  pub branch : Option StoredBranch

-- an empty log
abbrev pub nothing : Replayed
nothing = record { tables = []; branch = None }

abbrev pub same_xid : Xid → Xid → Bool
same_xid x y = (x.epoch == y.epoch) && (x.seq == y.seq)

-- the branch is ended by its own transaction and leaves these tables
abbrev pub ended : Option StoredBranch → Xid → (List StoredDelta → List StoredTable) → Option Replayed
ended None x left = None
ended (Some branch) x left = if same_xid branch.xid x then Some (record { tables = left branch.deltas; branch = None }) else None

-- one record more: a branch begins, or is changed and kept in one phase, where there is none
abbrev pub after_entry : Entry → Replayed → Option Replayed
after_entry (Prepared x deltas) r = if is_some r.branch then None else Some (record r { branch = Some (record { xid = x; deltas = deltas }) })
after_entry (OnePhase x deltas) r = if is_some r.branch then None else Some (record r { tables = after_stored r.tables deltas })
after_entry (Committed x) r = ended r.branch x (λ deltas. after_stored r.tables deltas)
after_entry (RolledBack x) r = ended r.branch x (λ deltas. r.tables)

-- one payload more: none where it is no record's, or its record can't stand there
abbrev pub after_payload : List ℕ → Replayed → Option Replayed
after_payload payload r = do
  entry ← entry_of payload
  after_entry entry r

abbrev pub replay : List (List ℕ) → Replayed → Option Replayed
replay [] r = Some r
replay (payload ∷ payloads) r = do
  next ← after_payload payload r
  replay payloads next

-- the bytes that are left behind these records
abbrev pub room_behind : List (List ℕ) → ℕ
room_behind payloads = log_limit - (gate_behind payloads + 1)

-- there is no branch, or its ending has room
abbrev pub can_end : Option StoredBranch → ℕ → Bool
can_end None room = true
can_end (Some branch) room = nat_le ending_size room

-- what a log's bytes leave, none where they are no store's
unfoldable pub store_in : List ℕ → Option Replayed
store_in bytes = do
  payloads ← records bytes
  r ← replay payloads nothing
  if can_end r.branch (room_behind payloads) then Some r else None

abbrev pub reading_of : Option Replayed → List TableDef → Reading
reading_of None defs = StoreFault 0
reading_of (Some r) defs = read_store r.tables r.branch defs

-- what a log's bytes read as under definitions
abbrev pub read_bytes : List ℕ → List TableDef → Reading
read_bytes bytes defs = reading_of (store_in bytes) defs
