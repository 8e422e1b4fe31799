-- A journaled store that took what was opened, over plain values.
use Rattle.std.proofs.Common.{◌≡◌, ℕ, ◌+◌, ◌-◌, ◌≤◌, true, false, ◌&&◌, cond, Bool, List, [], ◌∷◌, ◌++◌, length, take, Option, Some, None, option_map, IfSome, refl, sym, ap, subst, ◌∙◌, arith}
use Rattle.std.specs.Prelude.{is_some}
use Rattle.std.proofs.lemmas.Bool.{and_parts, and_from}
use Rattle.std.proofs.lemmas.List.{append-nil, take_at}
use Rattle.vdb_model.specs.declared.source.Delta.{Delta}
use Rattle.vdb_model.specs.declared.source.SourceQuery.{SourceQuery}
use Rattle.vdb_model.specs.declared.table.ColumnDef.{ColumnDef}
use Rattle.vdb_model.specs.declared.table.TableDef.{TableDef}
use Rattle.vdb_model.specs.Defs.{all_fit, are_fit, are_numbered_apart, are_named_apart}
use Rattle.vdb_model.specs.Deltas.{after_deltas}
use Rattle.vdb_model.specs.Rows.{Cells}
use Rattle.vdb_model.specs.World.{takes_rows, keeps_key, is_table, is_world}
use Rattle.gate_log.specs.Disk.{DiskTold}
use Rattle.gate_log.specs.Records.{log_limit, opened, records}
use Rattle.gate_log.specs.Log.{IsOpenAt}
use Rattle.gate_log.specs.Stops.{Only as OnlyBytes}
use Rattle.gate_log.specs.Walking.{gate_behind}
use Rattle.gate_log.proofs.Places.{place_of}
use Rattle.gate_log.proofs.Told.{told_map}
use Rattle.resource.specs.declared.resource.ResState.{ResState}
use Rattle.resource.specs.declared.resource.ResState.TheVariants as state
use Rattle.resource.specs.Images.{Image, Only, Stands}
use Rattle.resource.specs.Leaves.{HasRead}
use Rattle.resource.specs.Reading.{Branch, Reading, Sound, CellFault, StoreFault}
use Rattle.resource.specs.Stored.{StoredBranch, tables_in, numbered, branch_under, fault_at, first_fault, cell_fault, bad_column, all_long, table_fault, tables_fault, sound_unless, read_store}
use Rattle.resource.specs.Told.{Contents, contents_of, branch_deltas, state_with, is_settled}
use Rattle.resource.proofs.Faultless.{are_as_many, worlds}
use Rattle.store_records.specs.Fields.{◌>>=◌}
use Rattle.store_tables.specs.declared.shelf.Shelf.{Shelf}
use Rattle.store_tables.specs.Shelves.{ShelfHas}
use Rattle.mem_store.specs.declared.attached.Attached.{Attached}
use Rattle.store_replay.specs.declared.opening.Opened.{Opened}
use Rattle.store_replay.specs.declared.opening.Waiting.{Waiting}
use Rattle.store_replay.specs.OpeningStore.{OpenedHas, IsOpened, OpensSo}
use Rattle.store_replay.specs.Replay.{Replayed, nothing, replay, room_behind, store_in, reading_of, read_bytes}
use Rattle.store_replay.specs.Replaying.{AreApart, WaitsAs, left_by}
use Rattle.mem_store.specs.Standing.{all_take, BranchIn, LogBranch, Knows, Works, Stays}
use Rattle.mem_store.specs.Store.{store_caps, tables_left, kept_by, images_read}
use Rattle.mem_store.specs.Taking.{TakesBranch}
use Rattle.mem_store.proofs.MoreRecords.{reads_unbranched, reads_branched}
use Rattle.mem_store.proofs.TellingSteps.{some_same, telling}

-- ---- no fault is a sound reading

abbrev is_fault : Reading → Bool
is_fault (Sound kept branch) = false
is_fault (CellFault table row col) = true
is_fault (StoreFault table) = true

abbrev if_fault : Option Reading → Bool
if_fault None = true
if_fault (Some reading) = is_fault reading

first_is : (a b : Option Reading) → if_fault a ≡ true → if_fault b ≡ true → if_fault (first_fault a b) ≡ true
first_is None b p q = q
first_is (Some f) b p q = p

at_is : (table row : ℕ) (col : Option ℕ) → if_fault (fault_at table row col) ≡ true
at_is table row None = refl
at_is table row (Some col) = refl

cell_is : (table : ℕ) (cs : List ColumnDef) (at : ℕ) (rows : List Cells) → if_fault (cell_fault table cs at rows) ≡ true
cell_is table cs at [] = refl
cell_is table cs at (row ∷ rows) = first_is (fault_at table at (bad_column 1 cs row)) (cell_fault table cs (at + 1) rows) (at_is table at (bad_column 1 cs row)) (cell_is table cs (at + 1) rows)

table_is : (d : TableDef) (rows : List Cells) → if_fault (table_fault d rows) ≡ true
table_is d rows = by (all_long (length d.columns) rows && keeps_key d.key rows)
  where
    by : (b : Bool) → if_fault (cond b (cell_fault (d.number + 1) d.columns 1 rows) (Some (StoreFault (d.number + 1)))) ≡ true
    by true = cell_is (d.number + 1) d.columns 1 rows
    by false = refl

tables_is : (defs : List TableDef) (kept left : List (List Cells)) → if_fault (tables_fault defs kept left) ≡ true
tables_is [] kept left = refl
tables_is (d ∷ ds) [] left = refl
tables_is (d ∷ ds) (rows ∷ kept) [] = refl
tables_is (d ∷ ds) (rows ∷ kept) (after ∷ left) =
    first_is (first_fault (table_fault d rows) (table_fault d after)) (tables_fault ds kept left)
    (first_is (table_fault d rows) (table_fault d after) (table_is d rows) (table_is d after)) (tables_is ds kept left)

-- what reads as sound has no fault
no_fault : (f : Option Reading) (kept k : List (List Cells)) (branch b : Option Branch) → if_fault f ≡ true → sound_unless f kept branch ≡ Sound k b → f ≡ None
no_fault None kept k branch b is e = refl
no_fault (Some f) kept k branch b is e = let no : is_fault f ≡ false = ap is_fault e in cc

as_many : (defs : List TableDef) (tables : List (List Cells)) → length tables ≡ length defs → are_as_many defs tables ≡ true
as_many [] [] e = refl
as_many [] (rows ∷ tables) e = absurd (omega arith)
as_many (d ∷ ds) [] e = absurd (omega arith)
as_many (d ∷ ds) (rows ∷ tables) e = as_many ds tables (omega arith)

-- a store that reads as sound has worlds
sound_worlds : (defs : List TableDef) (bytes : List ℕ) (r : Replayed) (k : List (List Cells)) (b : Option Branch) → store_in bytes ≡ Some r → read_bytes bytes defs ≡ Sound k b
    → length (tables_in r.tables defs) ≡ length defs → length (left_by r defs) ≡ length defs → (is_world defs (tables_in r.tables defs) ≡ true) × (is_world defs (left_by r defs) ≡ true)
sound_worlds defs bytes r k b whole reads kept_len left_len =
    let kept = tables_in r.tables defs in
    let left = left_by r defs in
    let e : read_store r.tables r.branch defs ≡ Sound k b = sym (ap (λ o. reading_of o defs) whole) ∙ reads in
    let none = no_fault (tables_fault defs kept left) kept k (option_map (branch_under defs) r.branch) b (tables_is defs kept left) e in
    worlds defs kept left (as_many defs kept kept_len) (as_many defs left left_len) none

-- rows of a world go into their columns
world_takes : (defs : List TableDef) (tables : List (List Cells)) → is_world defs tables ≡ true → all_take defs tables ≡ true
world_takes [] tables h = h
world_takes (d ∷ ds) [] h = h
world_takes (d ∷ ds) (rows ∷ tables) h =
    let parts = and_parts (is_table d rows) (is_world ds tables) h in
    let here = and_parts (takes_rows d.columns rows) (keeps_key d.key rows) parts.0 in
    and_from (takes_rows d.columns rows && true) (all_take ds tables) (and_from (takes_rows d.columns rows) true here.0 refl) (world_takes ds tables parts.1)

-- definitions that are fit for the store are apart
pub fit_apart : (defs : List TableDef) → are_fit store_caps defs ≡ true → AreApart defs
fit_apart defs h =
    let parts = and_parts (all_fit defs && are_numbered_apart defs) (are_named_apart defs) h in
    let front = and_parts (all_fit defs) (are_numbered_apart defs) parts.0 in
    record { numbers = front.1; names = parts.1 }

-- ---- what was opened

-- these records are all that the bytes have, and leave this
record Has (r : Replayed) (n end : ℕ) (now : List ℕ → Type 0) (bytes : List ℕ) : Type 0 where
  payloads : List (List ℕ)
  are : records bytes ≡ Some payloads
  count : length payloads ≡ n
  leaves : replay payloads nothing ≡ Some r
  is_open : IsOpenAt end now bytes

-- some records leave what was opened, and where bytes are told these are theirs
record Found (defs : List TableDef) (o : Opened) (end : ℕ) (now : List ℕ → Type 0) (bytes : Option (List ℕ)) : Type 0 where
  r : Replayed
  has : OpenedHas r o
  kept_fits : is_world defs (tables_in r.tables defs) ≡ true
  left_fits : is_world defs (left_by r defs) ≡ true
  known : IfSome bytes (Has r o.records end now)

found : (defs : List TableDef) (o : Opened) (left end : ℕ) (now : List ℕ → Type 0) (b0 b1 : Option (List ℕ)) → IsOpened defs left o → option_map records b1 ≡ option_map records b0
    → IfSome b0 (OpensSo defs o) → IfSome b1 (IsOpenAt end now) → Found defs o end now b1
found defs o left end now None None h e so at = record { r = h.r; has = h.has; kept_fits = h.kept_fits; left_fits = h.left_fits; known = tt }
found defs o left end now None (Some y) h e so at = cc
found defs o left end now (Some x) None h e so at = cc
found defs o left end now (Some x) (Some y) h e so at =
    let kept_len : length (tables_in so.r.tables defs) ≡ length defs = subst (λ ds. length (tables_in so.r.tables ds) ≡ length ds) h.defs_are so.has.has.kept_len in
    let left_len : length (left_by so.r defs) ≡ length defs = subst (λ ds. length (left_by so.r ds) ≡ length ds) h.defs_are so.has.has.seen_len in
    let fits = sound_worlds defs x so.r (tables_in so.r.tables defs) (option_map (branch_under defs) so.r.branch) so.whole so.reads kept_len left_len in
    record {
      r = so.r;
      has = so.has;
      kept_fits = fits.0;
      left_fits = fits.1;
      known = record { payloads = so.payloads; are = some_same (records y) (records x) e ∙ so.are; count = so.count; leaves = so.leaves; is_open = at };
    }

-- ---- the branch that was taken

-- the state and the changes, by the branch that the records leave
record Branches (defs : List TableDef) (branch : Option StoredBranch) (left : ℕ) (s : ResState) (a : Attached) : Type 0 where
  deltas_are : a.deltas.items ≡ branch_deltas (option_map (branch_under defs) branch)
  branch_in : BranchIn s left None a
  log_branch : LogBranch s defs a.deltas.items branch
  settled : is_settled s ≡ true

branches : (defs : List TableDef) (branch : Option StoredBranch) (w : Option Waiting) (left : ℕ) (s : ResState) (a : Attached) → WaitsAs defs branch w → TakesBranch w s a → (is_some w ≡ true → 22 ≤ left) → Branches defs branch left s a
branches defs None None left s a waits takes room =
    subst (λ x. Branches defs None left x a) (sym takes.0) (record { deltas_are = takes.1; branch_in = (refl, takes.1, takes.2); log_branch = refl; settled = refl })
branches defs None (Some waiting) left s a waits takes room = absurd waits
branches defs (Some branch) None left s a waits takes room = absurd waits
branches defs (Some branch) (Some waiting) left s a waits takes room =
    subst (λ x. Branches defs (Some branch) left x a) (sym takes.0) (record {
      deltas_are = takes.1 ∙ waits.1;
      branch_in = (refl, room refl);
      log_branch = record { stored = branch.deltas; is = ap (λ x. Some (record { xid = x; deltas = branch.deltas })) (sym waits.0); deltas_are = takes.1 ∙ waits.1 };
      settled = refl;
    })

pub stays_settled : (s : ResState) (n end left : ℕ) (reserved : Option (List ℕ)) (a : Attached) (t : DiskTold) (now : List ℕ → Type 0) → is_settled s ≡ true → Works s n end left reserved a t now → Stays s n end left reserved a t now
stays_settled state.Idle n end left reserved a t now e w = w
stays_settled (state.Active x) n end left reserved a t now e w = cc
stays_settled (state.Ended x) n end left reserved a t now e w = cc
stays_settled (state.Prepared x) n end left reserved a t now e w = w
stays_settled state.Lost n end left reserved a t now e w = cc

-- what was opened and taken works
pub taken_works : (defs : List TableDef) (o : Opened) (a : Attached) (s : ResState) (end : ℕ) (now : List ℕ → Type 0) (b0 : Option (List ℕ)) (t : DiskTold)
    → IsOpened defs (log_limit - (end + 1)) o → option_map records t.bytes ≡ option_map records b0 → IfSome b0 (OpensSo defs o) → IfSome t.bytes (IsOpenAt end now) → a.shelf ≡ o.shelf → TakesBranch o.waiting s a
    → Works s o.records end (log_limit - (end + 1)) None a t now × (is_settled s ≡ true)
taken_works defs o a s end now b0 t opened same so at shelf takes = (
  record {
    kept = tables_in f.r.tables a.shelf.defs;
    has = subst (λ ds. ShelfHas (tables_in f.r.tables a.shelf.defs) (after_deltas a.shelf.defs (tables_in f.r.tables a.shelf.defs) ds) a.shelf) (sym b.deltas_are) has;
    kept_take = world_takes a.shelf.defs (tables_in f.r.tables a.shelf.defs) kept_fits;
    seen_take = world_takes a.shelf.defs (after_deltas a.shelf.defs (tables_in f.r.tables a.shelf.defs) a.deltas.items) seen_fits;
    branch = b.branch_in;
    knows = told_map t.bytes (Has f.r o.records end now) (Knows s o.records end a.shelf.defs (tables_in f.r.tables a.shelf.defs) a.deltas.items now) knows f.known;
  },
  b.settled,
)
  where
    left : ℕ
    left = log_limit - (end + 1)

    f : Found defs o end now t.bytes
    f = found defs o left end now b0 t.bytes opened same so at

    defs_are : defs ≡ a.shelf.defs
    defs_are = sym (ap (λ (sh : Shelf). sh.defs) shelf ∙ opened.defs_are)

    has : ShelfHas (tables_in f.r.tables a.shelf.defs) (left_by f.r a.shelf.defs) a.shelf
    has = subst (λ (sh : Shelf). ShelfHas (tables_in f.r.tables sh.defs) (left_by f.r sh.defs) sh) (sym shelf) f.has.has

    b : Branches a.shelf.defs f.r.branch left s a
    b = branches a.shelf.defs f.r.branch o.waiting left s a (subst (λ (sh : Shelf). WaitsAs sh.defs f.r.branch o.waiting) (sym shelf) f.has.waits) takes opened.room

    kept_fits : is_world a.shelf.defs (tables_in f.r.tables a.shelf.defs) ≡ true
    kept_fits = subst (λ ds. is_world ds (tables_in f.r.tables ds) ≡ true) defs_are f.kept_fits

    left_fits : is_world a.shelf.defs (left_by f.r a.shelf.defs) ≡ true
    left_fits = subst (λ ds. is_world ds (left_by f.r ds) ≡ true) defs_are f.left_fits

    seen_fits : is_world a.shelf.defs (after_deltas a.shelf.defs (tables_in f.r.tables a.shelf.defs) a.deltas.items) ≡ true
    seen_fits = subst (λ ds. is_world a.shelf.defs (after_deltas a.shelf.defs (tables_in f.r.tables a.shelf.defs) ds) ≡ true) (sym b.deltas_are) left_fits

    knows : (bytes : List ℕ) → Has f.r o.records end now bytes → Knows s o.records end a.shelf.defs (tables_in f.r.tables a.shelf.defs) a.deltas.items now bytes
    knows bytes h = record {
      payloads = h.payloads;
      r = f.r;
      are = h.are;
      count = h.count;
      leaves = h.leaves;
      kept_is = refl;
      branch = b.log_branch;
      kept_fits = kept_fits;
      seen_fits = seen_fits;
      is_open = h.is_open;
    }

-- ---- a settled store reads as it is told

pub kept_all : (n : ℕ) (bytes : List ℕ) (payloads more : List (List ℕ)) (defs : List TableDef) → records bytes ≡ Some (payloads ++ more) → length payloads ≡ n → kept_by n bytes defs ≡ tables_left (replay payloads nothing) defs
kept_all n bytes payloads more defs are count =
    ap (λ (o : Option (List (List ℕ))). tables_left (o >>= λ ps. replay (take n ps) nothing) defs) are
    ∙ ap (λ (ps : List (List ℕ)). tables_left (replay ps nothing) defs) (take_at payloads more n count)

kept_known : (n : ℕ) (bytes : List ℕ) (payloads : List (List ℕ)) (r : Replayed) (defs : List TableDef) → records bytes ≡ Some payloads → length payloads ≡ n → replay payloads nothing ≡ Some r → kept_by n bytes defs ≡ tables_in r.tables defs
kept_known n bytes payloads r defs are count leaves =
    kept_all n bytes payloads [] defs (are ∙ ap Some (sym (append-nil payloads))) count ∙ ap (λ o. tables_left o defs) leaves

-- the room behind the records is what is left of the log
room_left : (end : ℕ) (now : List ℕ → Type 0) (bytes : List ℕ) (payloads : List (List ℕ)) → IsOpenAt end now bytes → records bytes ≡ Some payloads → room_behind payloads ≡ log_limit - (end + 1)
room_left end now bytes payloads at are =
    let ps = at.ends.payloads in
    let within = at.ends.within in
    let place : end ≡ 8 + length (opened ps) = place_of bytes ps end at.ends.front (omega arith) in
    let same : ps ≡ payloads = some_same ps payloads (sym at.ends.are ∙ are) in
    ap (λ qs. log_limit - (gate_behind qs + 1)) (sym same) ∙ ap (λ k. log_limit - (k + 1)) (sym place)

-- each image reads as the bytes do
only_reads : (defs : List TableDef) (y : List ℕ) (reading : Reading) (now : List ℕ → Type 0) → OnlyBytes y now → read_bytes y defs ≡ reading → Only defs reading (images_read (Some y) now)
only_reads defs y reading now only e = record { some = (read_bytes y, (y, only.is, refl)); each = each }
  where
    each : (i : Image) → images_read (Some y) now i → i defs ≡ reading
    each i h = ap (λ (g : Image). g defs) h.2 ∙ ap (λ c. read_bytes c defs) (only.only h.0 h.1) ∙ e

-- a reading, by its parts
has_read : (s : ResState) (branch : Option Branch) (defs : List TableDef) (kept : List (List Cells)) (deltas : List Delta) (faults own spare n : ℕ) (asked : List SourceQuery) (y : List ℕ) (now : List ℕ → Type 0)
    → read_bytes y defs ≡ Sound kept branch → s ≡ state_with branch → deltas ≡ branch_deltas branch → kept_by n y defs ≡ kept → is_world defs kept ≡ true → is_world defs (after_deltas defs kept deltas) ≡ true → OnlyBytes y now
    → HasRead (read_bytes y defs) (telling s false (Some defs) faults own spare n deltas asked (Some y)) (images_read (Some y) now)
has_read s branch defs kept deltas faults own spare n asked y now reads state_is deltas_are kept_is kept_fits seen_fits only = record {
  kept = kept;
  branch = branch;
  is = reads;
  state_is = state_is;
  contents_are = ap (λ (c : Contents). Some c) (ap (λ k. record { kept = k; deltas = deltas }) kept_is ∙ ap (λ ds. record { kept = kept; deltas = ds }) deltas_are ∙ sym (ap contents_of reads));
  kept_fits = kept_fits;
  work_fits = subst (λ k. is_world defs (after_deltas defs k deltas) ≡ true) (sym kept_is) seen_fits;
  sound = subst (λ k. Stands s defs (record { kept = k; deltas = deltas }) images) (sym kept_is) (
      subst (λ x. Stands x defs (record { kept = kept; deltas = deltas }) images) (sym state_is) (
      subst (λ ds. Stands (state_with branch) defs (record { kept = kept; deltas = ds }) images) (sym deltas_are) (by branch (only_reads defs y (Sound kept branch) now only reads))));
}
  where
    images : Image → Type 0
    images = images_read (Some y) now

    by : (b : Option Branch) → Only defs (Sound kept b) images → Stands (state_with b) defs (record { kept = kept; deltas = branch_deltas b }) images
    by None o = (o, refl)
    by (Some b) o = o

-- a settled store reads as it is told
pub settled_read : (s : ResState) (n end : ℕ) (a : Attached) (t : DiskTold) (now : List ℕ → Type 0) (faults own : ℕ) (asked : List SourceQuery) → is_settled s ≡ true → Works s n end (log_limit - (end + 1)) None a t now
    → IfSome t.bytes (λ y. HasRead (read_bytes y a.shelf.defs) (telling s false (Some a.shelf.defs) faults own (log_limit - (end + 1)) n a.deltas.items asked (Some y)) (images_read (Some y) now))
settled_read s n end a t now faults own asked e w = told_map t.bytes (Knows s n end a.shelf.defs w.kept a.deltas.items now) Reads (λ y k. by s e w.branch y k) w.knows
  where
    defs : List TableDef
    defs = a.shelf.defs

    left : ℕ
    left = log_limit - (end + 1)

    Reads : List ℕ → Type 0
    Reads y = HasRead (read_bytes y a.shelf.defs) (telling s false (Some a.shelf.defs) faults own (log_limit - (end + 1)) n a.deltas.items asked (Some y)) (images_read (Some y) now)

    by : (x : ResState) → is_settled x ≡ true → BranchIn x left None a → (y : List ℕ) → Knows x n end defs w.kept a.deltas.items now y
        → HasRead (read_bytes y defs) (telling x false (Some defs) faults own left n a.deltas.items asked (Some y)) (images_read (Some y) now)
    by state.Idle e branch y k =
        let kept_fits = subst (λ tables. is_world defs tables ≡ true) k.kept_is k.kept_fits in
        let seen_fits = subst (λ tables. is_world defs (after_deltas defs tables a.deltas.items) ≡ true) k.kept_is k.seen_fits in
        has_read state.Idle None defs (tables_in k.r.tables defs) a.deltas.items faults own left n asked y now
        (reads_unbranched y k.payloads k.r defs k.are k.leaves k.branch kept_fits) refl branch.1
        (kept_known n y k.payloads k.r defs k.are k.count k.leaves) kept_fits seen_fits k.is_open.only
    by (state.Active x) e branch y k = cc
    by (state.Ended x) e branch y k = cc
    by (state.Prepared x) e branch y k =
        let kept_fits = subst (λ tables. is_world defs tables ≡ true) k.kept_is k.kept_fits in
        let seen_fits = subst (λ tables. is_world defs (after_deltas defs tables a.deltas.items) ≡ true) k.kept_is k.seen_fits in
        let stored : StoredBranch = record { xid = x; deltas = k.branch.stored } in
        let room : 22 ≤ room_behind k.payloads = subst (λ m. 22 ≤ m) (sym (room_left end now y k.payloads k.is_open k.are)) branch.1 in
        let after = subst (λ ds. is_world defs (after_deltas defs (tables_in k.r.tables defs) ds) ≡ true) k.branch.deltas_are seen_fits in
        has_read (state.Prepared x) (Some (record { xid = x; deltas = numbered defs k.branch.stored })) defs (tables_in k.r.tables defs) a.deltas.items faults own left n asked y now
        (reads_branched y k.payloads k.r stored defs k.are k.leaves k.branch.is room kept_fits after) refl k.branch.deltas_are
        (kept_known n y k.payloads k.r defs k.are k.count k.leaves) kept_fits seen_fits k.is_open.only
    by state.Lost e branch y k = cc
