-- What a journaled store tells, and what a stop may leave of it.
use Rattle.std.specs.Prelude.{◌≡◌, ℕ, ◌+◌, ◌-◌, true, false, List, [], Option, Some, None, is_some, option_map, take, ⊤}
use Rattle.vdb_model.specs.declared.source.Caps.{Caps}
use Rattle.vdb_model.specs.declared.source.Delta.{Delta}
use Rattle.vdb_model.specs.declared.table.TableDef.{TableDef}
use Rattle.vdb_model.specs.Rows.{Cells}
use Rattle.gate_log.specs.Disk.{DiskTold}
use Rattle.gate_log.specs.Records.{log_limit, records}
use Rattle.resource.specs.declared.resource.ResState.TheVariants.{Idle}
use Rattle.resource.specs.Images.{Image}
use Rattle.resource.specs.Stored.{tables_in}
use Rattle.resource.specs.Told.{Told, Contents, no_contents}
use Rattle.store_records.specs.Fields.{◌>>=◌}
use Rattle.mem_store.specs.declared.attached.Attached.{Attached}
use Rattle.mem_store.specs.declared.inner.Inner.{Inner}
use Rattle.mem_store.specs.Seen.{Seen}
use Rattle.store_replay.specs.Replay.{Replayed, nothing, replay, read_bytes}

-- rows of one table at a time, by any criteria, and changes
abbrev pub store_caps : Caps
store_caps = record {
  equals = true;
  ordered = true;
  in_max = 1000;
  is_null = true;
  like = true;
  or = true;
  not = true;
  joins = false;
  distinct = false;
  order = false;
  limit = false;
  count_star = false;
  wide = true;
  writes = true;
}

abbrev pub tables_left : Option Replayed → List TableDef → List (List Cells)
tables_left None defs = []
tables_left (Some r) defs = tables_in r.tables defs

-- the committed rows that the first records of a log leave under definitions
abbrev pub kept_by : ℕ → List ℕ → List TableDef → List (List Cells)
kept_by n bytes defs = tables_left (records bytes >>= λ payloads. replay (take n payloads) nothing) defs

-- the contents, by the known records and the branch
abbrev pub contents_in : ℕ → Option (List TableDef) → List Delta → List ℕ → Contents
contents_in n None deltas bytes = no_contents
contents_in n (Some defs) deltas bytes = record { kept = kept_by n bytes defs; deltas = deltas }

abbrev pub store_told : {D : Type 0} → (D → DiskTold) → Seen D → Told
store_told told s = record {
  caps = store_caps;
  state = s.state;
  reserved = s.reserved;
  defs = s.defs;
  faults = (told s.disk).faults + s.own_faults;
  spare = Some (log_limit - (s.end + 1));
  reads = option_map read_bytes (told s.disk).bytes;
  contents = option_map (contents_in s.records s.defs s.deltas) (told s.disk).bytes;
  asked = Some s.asked;
}

-- each content that a stop may leave, as it reads; of a disk that doesn't tell its bytes any image
abbrev pub images_read : Option (List ℕ) → (List ℕ → Type 0) → Image → Type 0
images_read None now i = ⊤
images_read (Some bytes) now i = (c : List ℕ) × now c × (i ≡ read_bytes c)

abbrev pub store_images : {D : Type 0} → (D → DiskTold) → (D → List ℕ → Type 0) → Seen D → Image → Type 0
store_images told images s = images_read (told s.disk).bytes (images s.disk)

abbrev pub deltas_of : Option Attached → List Delta
deltas_of None = []
deltas_of (Some a) = a.deltas.items

abbrev pub seen_of : {D : Type 0} → Inner D → Seen D
seen_of s = record {
  disk = s.log.disk;
  end = s.log.end;
  records = s.records;
  own_faults = s.own_faults;
  state = s.state;
  reserved = is_some s.reserved;
  defs = option_map (λ a. a.shelf.defs) s.attached;
  deltas = deltas_of s.attached;
  asked = s.asked.items;
}

-- over a disk that wasn't read
abbrev pub unread : {D : Type 0} → D → Seen D
unread disk = record { disk = disk; end = 268435455; records = 0; own_faults = 0; state = Idle; reserved = false; defs = None; deltas = []; asked = [] }
