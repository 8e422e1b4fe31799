-- Reading a lost store again, over plain values.
use Rattle.std.proofs.Common.{◌≡◌, ℕ, ◌+◌, false, Bool, List, Option, Some, None, option_map, IfSome, Err, refl, sym, ap, subst, ◌∙◌, arith}
use Rattle.std.specs.Prelude.{is_some}
use Rattle.vdb_base.specs.Counts.{Rose}
use Rattle.vdb_model.specs.declared.source.Delta.{Delta}
use Rattle.vdb_model.specs.declared.source.SourceQuery.{SourceQuery}
use Rattle.vdb_model.specs.declared.table.TableDef.{TableDef}
use Rattle.vdb_model.specs.Rows.{Cells}
use Rattle.gate_log.specs.declared.log.Log.{Log}
use Rattle.gate_log.specs.Disk.{DiskTold, Fails as DiskFails}
use Rattle.gate_log.specs.Records.{records}
use Rattle.gate_log.specs.Log.{left_of}
use Rattle.gate_log.specs.Opening.{KeepsRecords, Keeps}
use Rattle.resource.specs.declared.resource.AttachFault.{AttachFault}
use Rattle.resource.specs.declared.resource.AttachFault.TheVariants as attach
use Rattle.resource.specs.declared.resource.ResFault.{ResFault}
use Rattle.resource.specs.declared.resource.ResFault.TheVariants as fault
use Rattle.resource.specs.declared.resource.ResState.{ResState}
use Rattle.resource.specs.declared.resource.ResState.TheVariants as state
use Rattle.resource.specs.Images.{Image, Fewer}
use Rattle.resource.specs.Leaves.{HasRead, Fails, Reopened, Reopens}
use Rattle.resource.specs.Reading.{Branch, Reading, Sound, CellFault, StoreFault}
use Rattle.resource.specs.Told.{Told, Contents}
use Rattle.mem_store.specs.declared.attached.Attached.{Attached}
use Rattle.mem_store.specs.declared.inner.Inner.{Inner}
use Rattle.store_replay.specs.declared.opening.Opened.{Opened}
use Rattle.store_replay.specs.OpeningStore.{OpensAs, KeepsStore, OpenLeaves}
use Rattle.store_replay.specs.Replay.{read_bytes}
use Rattle.store_replay.specs.Replaying.{AreApart}
use Rattle.mem_store.specs.Standing.{MayRead, Lost, Stays, IsAttached, Standing}
use Rattle.mem_store.specs.Counting.{CountsFault}
use Rattle.mem_store.specs.Store.{kept_by, contents_in, images_read, store_told, store_images, seen_of}
use Rattle.mem_store.proofs.AttachSteps.{reads_stands, some_mapped, still}
use Rattle.mem_store.proofs.OpenedSteps.{kept_all}
use Rattle.mem_store.proofs.TellingSteps.{telling, tells, tells_as, same_reads, contents_by_records, rose_beside}
use Rattle.mem_store.proofs.MoreRecords.{reads_same}

-- ---- a lost store

-- a content with the same records reads alike
may_read : (defs : List TableDef) (payloads : List (List ℕ)) (c d : List ℕ) → records c ≡ records d → MayRead defs payloads d → MayRead defs payloads c
may_read defs payloads c d e m = record { more = m.more; are = e ∙ m.are; kept = m.kept; branch = m.branch; reads = ap (λ (g : Image). g defs) (reads_same c d e) ∙ m.reads }

-- it stays one, where no records are added
pub lost_still : (n : ℕ) (defs : List TableDef) (b0 b1 : Option (List ℕ)) (i0 i1 : List ℕ → Type 0) → is_some b1 ≡ is_some b0 → IfSome b0 (λ bytes. KeepsRecords i0 i1) → IfSome b1 i1 → IfSome b0 (Lost n defs i0) → IfSome b1 (Lost n defs i1)
lost_still n defs None None i0 i1 e keeps stands lost = tt
lost_still n defs None (Some y) i0 i1 e keeps stands lost = cc
lost_still n defs (Some x) None i0 i1 e keeps stands lost = cc
lost_still n defs (Some x) (Some y) i0 i1 e keeps stands lost = record {
  payloads = lost.payloads;
  count = lost.count;
  each = λ c here. let k = keeps c here in may_read defs lost.payloads c k.0 k.2 (lost.each k.0 k.1);
  stands = stands;
}

-- the known records are those of what is read now
lost_kept : (n : ℕ) (defs : List TableDef) (x y : List ℕ) (i0 i1 : List ℕ → Type 0) → KeepsRecords i0 i1 → i1 y → Lost n defs i0 x → kept_by n y defs ≡ kept_by n x defs
lost_kept n defs x y i0 i1 keeps here lost =
    let k = keeps y here in
    let now = lost.each k.0 k.1 in
    let before = lost.each x lost.stands in
    kept_all n y lost.payloads now.more defs (k.2 ∙ now.are) lost.count ∙ sym (kept_all n x lost.payloads before.more defs before.are lost.count)

pub lost_contents : (n : ℕ) (defs : List TableDef) (deltas : List Delta) (b0 b1 : Option (List ℕ)) (i0 i1 : List ℕ → Type 0) → is_some b1 ≡ is_some b0 → IfSome b0 (λ bytes. KeepsRecords i0 i1) → IfSome b1 i1 → IfSome b0 (Lost n defs i0)
    → option_map (contents_in n (Some defs) deltas) b1 ≡ option_map (contents_in n (Some defs) deltas) b0
lost_contents n defs deltas None None i0 i1 e keeps stands lost = refl
lost_contents n defs deltas None (Some y) i0 i1 e keeps stands lost = cc
lost_contents n defs deltas (Some x) None i0 i1 e keeps stands lost = cc
lost_contents n defs deltas (Some x) (Some y) i0 i1 e keeps stands lost =
    ap (λ (kept : List (List Cells)). let c : Contents = record { kept = kept; deltas = deltas } in Some c) (lost_kept n defs x y i0 i1 keeps stands lost)

-- what is read of it is sound
lost_sound : (n : ℕ) (defs : List TableDef) (x : List ℕ) (now : List ℕ → Type 0) (reading : Reading) → Lost n defs now x → read_bytes x defs ≡ reading → (kept : List (List Cells)) × (branch : Option Branch) × (reading ≡ Sound kept branch)
lost_sound n defs x now reading lost e = let m = lost.each x lost.stands in (m.kept, m.branch, sym e ∙ m.reads)

-- so it has no fault where it is told
pub no_cell_fault : (n : ℕ) (defs : List TableDef) (bytes : Option (List ℕ)) (now : List ℕ → Type 0) (table row col : ℕ) → IfSome bytes (Lost n defs now) → IfSome bytes (OpensAs defs (Err (attach.BadCell table row col))) → bytes ≡ None
no_cell_fault n defs None now table row col lost h = refl
no_cell_fault n defs (Some x) now table row col lost h = let s = lost_sound n defs x now (CellFault table row col) lost h in let e = s.2 in cc

pub no_store_fault : (n : ℕ) (defs : List TableDef) (bytes : Option (List ℕ)) (now : List ℕ → Type 0) (table : ℕ) → IfSome bytes (Lost n defs now) → IfSome bytes (OpensAs defs (Err (attach.BadStore table))) → bytes ≡ None
no_store_fault n defs None now table lost h = refl
no_store_fault n defs (Some x) now table lost h = let s = lost_sound n defs x now (StoreFault table) lost h in let e = s.2 in cc

-- ---- what a reopening leaves

-- a count of its own that rose
pub rose_own : (f0 f1 own0 own1 : ℕ) → f1 ≡ f0 → Rose own0 own1 → Rose (f0 + own0) (f1 + own1)
rose_own f0 f1 own0 own1 ef h = let later = h.later in let risen = h.risen in record { later = omega arith; risen = omega arith }

module _ (s0 : ResState) (r0 : Bool) (ds : List TableDef) (f0 own spare0 n0 : ℕ) (deltas0 : List Delta) (asked : List SourceQuery) where
  abbrev told_before : Option (List ℕ) → Told
  told_before b0 = telling s0 r0 (Some ds) f0 own spare0 n0 deltas0 asked b0

  pub reopened_so : (b0 : Option (List ℕ)) (s1 : ResState) (f1 left n : ℕ) (deltas : List Delta) (b1 : Option (List ℕ)) (now : List ℕ → Type 0) → f1 ≡ f0 → is_some b1 ≡ is_some b0 → IfSome b1 now
      → IfSome b1 (λ y. HasRead (read_bytes y ds) (telling s1 false (Some ds) f1 own left n deltas asked (Some y)) (images_read (Some y) now))
      → Reopened (told_before b0) (telling s1 false (Some ds) f1 own left n deltas asked b1) (images_read b1 now)
  reopened_so b0 s1 f1 left n deltas b1 now ef some stands h = (
    record {
      same = ap (λ f. record (telling s1 false (Some ds) f1 own left n deltas asked b1) { faults = f + own }) ef;
      tells = some_mapped read_bytes read_bytes b0 b1 some;
      reads = reads_stands b1 now stands;
    },
    some_mapped (contents_in n (Some ds) deltas) (contents_in n0 (Some ds) deltas0) b0 b1 some,
    by b0 b1 some h,
  )
    where
      by : (x y : Option (List ℕ)) → is_some y ≡ is_some x → IfSome y (λ b. HasRead (read_bytes b ds) (telling s1 false (Some ds) f1 own left n deltas asked (Some b)) (images_read (Some b) now))
          → IfSome (option_map (contents_in n0 (Some ds) deltas0) x) (λ c. (reading : Reading) × HasRead reading (telling s1 false (Some ds) f1 own left n deltas asked y) (images_read y now))
      by None y e h = tt
      by (Some x) None e h = cc
      by (Some x) (Some y) e h = (read_bytes y ds, h)

module _ (s0 : ResState) (r0 : Bool) (d : Option (List TableDef)) (f0 own spare0 n0 : ℕ) (deltas0 : List Delta) (asked : List SourceQuery) where
  -- it stays as it was
  pub kept_so : (b0 b1 : Option (List ℕ)) (f1 left : ℕ) → f1 ≡ f0 → option_map records b1 ≡ option_map records b0
      → telling s0 false d f1 own left n0 deltas0 asked b1 ≡ record (telling s0 r0 d f0 own spare0 n0 deltas0 asked b0) { reserved = false; spare = Some left }
  kept_so b0 b1 f1 left ef e =
      let new = telling s0 false d f1 own left n0 deltas0 asked b1 in
      tells new d d (f1 + own) (f0 + own) new.reads (option_map read_bytes b0) new.contents (option_map (contents_in n0 d deltas0) b0) refl (ap (λ f. f + own) ef) (same_reads b0 b1 e)
      (contents_by_records n0 d deltas0 b0 b1 e)

  -- a failure, of the disk or of its own
  pub fails_so : (b0 b1 : Option (List ℕ)) (f1 own1 left : ℕ) (now : List ℕ → Type 0) → Rose (f0 + own) (f1 + own1) → is_some b1 ≡ is_some b0 → IfSome b1 now → option_map (contents_in n0 d deltas0) b1 ≡ option_map (contents_in n0 d deltas0) b0
      → Fails (record (telling s0 r0 d f0 own spare0 n0 deltas0 asked b0) { state = state.Lost; reserved = false; spare = Some left }) (telling state.Lost false d f1 own1 left n0 deltas0 asked b1) (images_read b1 now)
  fails_so b0 b1 f1 own1 left now rose some stands contents =
      let new = telling state.Lost false d f1 own1 left n0 deltas0 asked b1 in
      record {
        rose = rose;
        stores = record {
          same = ap (λ c. record new { contents = c }) contents;
          tells = some_mapped read_bytes read_bytes b0 b1 some;
          reads = reads_stands b1 now stands;
        };
      }

-- ---- of the store

at_attached : (att : Option Attached) (a : Attached) (P : Attached → Type 0) → att ≡ Some a → IfSome att P → P a
at_attached att a P some h = subst (λ o. IfSome o P) some h

lost_in : (att : Option Attached) (a : Attached) (s : ResState) (n end left : ℕ) (res : Option (List ℕ)) (t : DiskTold) (now : List ℕ → Type 0) → att ≡ Some a → s ≡ state.Lost → IfSome att (IsAttached s n end left res t now) → IfSome t.bytes (Lost n a.shelf.defs now)
lost_in att a s n end left res t now some lost h = subst (λ x. Stays x n end left res a t now) lost (at_attached att a (IsAttached s n end left res t now) some h).stays

-- where no bytes were told, none are
untold : (P : List ℕ → Type 0) (b0 b1 : Option (List ℕ)) → is_some b1 ≡ is_some b0 → b0 ≡ None → IfSome b1 P
untold P b0 None e none = tt
untold P b0 (Some y) e none = let no : is_some b0 ≡ false = ap is_some none in cc

module _ {D : Type 0} (told : D → DiskTold) (images : D → List ℕ → Type 0) (old : Inner D) where
  pub is_apart : (a : Attached) → old.attached ≡ Some a → Standing told images old → AreApart a.shelf.defs
  is_apart a some stands =
      (at_attached old.attached a (IsAttached old.state old.records old.log.end (left_of old.log) (option_map (λ frame. frame.items) old.reserved) (told old.log.disk) (images old.log.disk)) some stands.attached).apart

module _ {D : Type 0} (told : D → DiskTold) (images : D → List ℕ → Type 0) (old : Inner D) (log : Log D) (a : Attached) (some : old.attached ≡ Some a) (lost : old.state ≡ state.Lost) (stands : Standing told images old) where
  abbrev t0 : DiskTold
  t0 = told old.log.disk

  abbrev t1 : DiskTold
  t1 = told log.disk

  abbrev now : List ℕ → Type 0
  now = images log.disk

  was : IfSome t0.bytes (Lost old.records a.shelf.defs (images old.log.disk))
  was = lost_in old.attached a old.state old.records old.log.end (left_of old.log) (option_map (λ frame. frame.items) old.reserved) t0 (images old.log.disk) some lost stands.attached

  -- the log was opened again, and nothing else is new but the count of its own
  abbrev pub lost_with : ℕ → Inner D
  lost_with own = record old { log = log; reserved = None; own_faults = own }

  defs_are : (seen_of old).defs ≡ Some a.shelf.defs
  defs_are = ap (option_map (λ (x : Attached). x.shelf.defs)) some

  lost_stands : (own : ℕ) → IfSome t1.bytes (λ bytes. own ≡ 0) → is_some t1.bytes ≡ is_some t0.bytes → Keeps t0 (images old.log.disk) now → IfSome t1.bytes now → Standing told images (lost_with own)
  lost_stands own none e keeps here =
      let lost_now = lost_still old.records a.shelf.defs t0.bytes t1.bytes (images old.log.disk) now e keeps here was in
      record {
        own = none;
        attached = subst (λ o. IfSome o (IsAttached old.state old.records log.end (left_of log) None t1 now)) (sym some) (record {
          apart = is_apart told images old a some stands;
          stays = subst (λ x. Stays x old.records log.end (left_of log) None a t1 now) (sym lost) lost_now;
        });
      }

  contents_stay : is_some t1.bytes ≡ is_some t0.bytes → Keeps t0 (images old.log.disk) now → IfSome t1.bytes now
      → option_map (contents_in old.records (seen_of old).defs (seen_of old).deltas) t1.bytes ≡ option_map (contents_in old.records (seen_of old).defs (seen_of old).deltas) t0.bytes
  contents_stay e keeps here =
      subst (λ d. option_map (contents_in old.records d (seen_of old).deltas) t1.bytes ≡ option_map (contents_in old.records d (seen_of old).deltas) t0.bytes) (sym defs_are)
      (lost_contents old.records a.shelf.defs (seen_of old).deltas t0.bytes t1.bytes (images old.log.disk) now e keeps here was)

  -- after want of memory
  pub wanting_stands : KeepsStore t0 t1 now → Keeps t0 (images old.log.disk) now → Standing told images (lost_with old.own_faults)
  wanting_stands h keeps =
      let e = tells_as records t0.bytes t1.bytes h.same in
      lost_stands old.own_faults (still (old.own_faults ≡ 0) t0.bytes t1.bytes e stands.own) e keeps h.stands

  pub wanting_leaves : KeepsStore t0 t1 now → store_told told (seen_of (lost_with old.own_faults)) ≡ record (store_told told (seen_of old)) { reserved = false; spare = Some (left_of log) }
  wanting_leaves h =
      let seen = seen_of old in
      kept_so seen.state seen.reserved seen.defs t0.faults seen.own_faults (left_of old.log) seen.records seen.deltas seen.asked t0.bytes t1.bytes t1.faults (left_of log) h.faults h.same

  -- after a failure of the disk
  pub failing_stands : DiskFails t0 t1 now → Keeps t0 (images old.log.disk) now → Standing told images (lost_with old.own_faults)
  failing_stands h keeps = lost_stands old.own_faults (still (old.own_faults ≡ 0) t0.bytes t1.bytes h.tells stands.own) h.tells keeps h.reads

  fails : (own : ℕ) → Rose (t0.faults + old.own_faults) (t1.faults + own) → is_some t1.bytes ≡ is_some t0.bytes → Keeps t0 (images old.log.disk) now → IfSome t1.bytes now
      → Fails (record (store_told told (seen_of old)) { state = state.Lost; reserved = false; spare = Some (left_of log) }) (store_told told (seen_of (lost_with own))) (store_images told images (seen_of (lost_with own)))
  fails own rose e keeps here =
      let seen = seen_of old in
      subst (λ x. Fails (record (store_told told seen) { state = state.Lost; reserved = false; spare = Some (left_of log) }) (telling x false seen.defs t1.faults own (left_of log) seen.records seen.deltas seen.asked t1.bytes) (images_read t1.bytes now)) (sym lost) (
      fails_so seen.state seen.reserved seen.defs t0.faults seen.own_faults (left_of old.log) seen.records seen.deltas seen.asked t0.bytes t1.bytes t1.faults own (left_of log) now rose e here (contents_stay e keeps here))

  pub failing_leaves : DiskFails t0 t1 now → Keeps t0 (images old.log.disk) now
      → Fails (record (store_told told (seen_of old)) { state = state.Lost; reserved = false; spare = Some (left_of log) }) (store_told told (seen_of (lost_with old.own_faults))) (store_images told images (seen_of (lost_with old.own_faults)))
  failing_leaves h keeps = fails old.own_faults (rose_beside t0.faults t1.faults old.own_faults h.rose) h.tells keeps h.reads

  -- after a fault of its own, which comes over no told bytes
  broken_stands : (own : ℕ) → t0.bytes ≡ None → KeepsStore t0 t1 now → Keeps t0 (images old.log.disk) now → Standing told images (lost_with own)
  broken_stands own none h keeps =
      let e = tells_as records t0.bytes t1.bytes h.same in
      lost_stands own (untold (λ bytes. own ≡ 0) t0.bytes t1.bytes e none) e keeps h.stands

  broken_leaves : (own : ℕ) → Rose old.own_faults own → KeepsStore t0 t1 now → Keeps t0 (images old.log.disk) now
      → Fails (record (store_told told (seen_of old)) { state = state.Lost; reserved = false; spare = Some (left_of log) }) (store_told told (seen_of (lost_with own))) (store_images told images (seen_of (lost_with own)))
  broken_leaves own rose h keeps =
      let e = tells_as records t0.bytes t1.bytes h.same in
      fails own (rose_own t0.faults t1.faults old.own_faults own h.faults rose) e keeps h.stands

  -- what was not read
  pub unread_stands : (why : AttachFault) (new : Inner D) (answer : ResFault) → CountsFault why (lost_with old.own_faults) new answer → IfSome t0.bytes (OpensAs a.shelf.defs (Err why)) → OpenLeaves {T = Opened} t0 t1 now (Err why)
      → Keeps t0 (images old.log.disk) now → Standing told images new
  unread_stands why new answer counted h leaves keeps = by why counted h leaves
    where
      by : (why : AttachFault) → CountsFault why (lost_with old.own_faults) new answer → IfSome t0.bytes (OpensAs a.shelf.defs (Err why)) → OpenLeaves {T = Opened} t0 t1 now (Err why) → Standing told images new
      by (attach.BadCell table row col) counted h leaves =
          subst (λ (n : Inner D). Standing told images n) (sym counted.0) (broken_stands new.own_faults (no_cell_fault old.records a.shelf.defs t0.bytes (images old.log.disk) table row col was h) leaves keeps)
      by (attach.BadStore table) counted h leaves =
          subst (λ (n : Inner D). Standing told images n) (sym counted.0) (broken_stands new.own_faults (no_store_fault old.records a.shelf.defs t0.bytes (images old.log.disk) table was h) leaves keeps)
      by attach.Failed counted h leaves = subst (λ (n : Inner D). Standing told images n) (sym counted.0) (failing_stands leaves keeps)
      by attach.Memory counted h leaves = subst (λ (n : Inner D). Standing told images n) (sym counted.0) (wanting_stands leaves keeps)

  pub unread_leaves : (why : AttachFault) (new : Inner D) (answer : ResFault) → CountsFault why (lost_with old.own_faults) new answer → OpenLeaves {T = Opened} t0 t1 now (Err why) → Keeps t0 (images old.log.disk) now
      → Reopens {T = Unit {0}} (store_told told (seen_of old)) (store_told told (seen_of new)) (store_images told images (seen_of new)) (Err answer)
  unread_leaves why new answer counted leaves keeps = by why counted leaves
    where
      failed : (n : Inner D) → new ≡ n → answer ≡ fault.Failed → Reopens {T = Unit {0}} (store_told told (seen_of old)) (store_told told (seen_of n)) (store_images told images (seen_of n)) (Err fault.Failed)
          → Reopens {T = Unit {0}} (store_told told (seen_of old)) (store_told told (seen_of new)) (store_images told images (seen_of new)) (Err answer)
      failed n is says h =
          subst (λ f. Reopens {T = Unit {0}} (store_told told (seen_of old)) (store_told told (seen_of new)) (store_images told images (seen_of new)) (Err f)) (sym says)
          (subst (λ (m : Inner D). Reopens {T = Unit {0}} (store_told told (seen_of old)) (store_told told (seen_of m)) (store_images told images (seen_of m)) (Err fault.Failed)) (sym is) h)

      by : (why : AttachFault) → CountsFault why (lost_with old.own_faults) new answer → OpenLeaves {T = Opened} t0 t1 now (Err why)
          → Reopens {T = Unit {0}} (store_told told (seen_of old)) (store_told told (seen_of new)) (store_images told images (seen_of new)) (Err answer)
      by (attach.BadCell table row col) counted leaves = failed (lost_with new.own_faults) counted.0 counted.2 (broken_leaves new.own_faults counted.1 leaves keeps)
      by (attach.BadStore table) counted leaves = failed (lost_with new.own_faults) counted.0 counted.2 (broken_leaves new.own_faults counted.1 leaves keeps)
      by attach.Failed counted leaves = failed (lost_with old.own_faults) counted.0 counted.1 (failing_leaves leaves keeps)
      by attach.Memory counted leaves =
          subst (λ f. Reopens {T = Unit {0}} (store_told told (seen_of old)) (store_told told (seen_of new)) (store_images told images (seen_of new)) (Err f)) (sym counted.1)
          (subst (λ (m : Inner D). Reopens {T = Unit {0}} (store_told told (seen_of old)) (store_told told (seen_of m)) (store_images told images (seen_of m)) (Err fault.Memory)) (sym counted.0) (wanting_leaves leaves))

  pub unread_fewer : (why : AttachFault) (new : Inner D) (answer : ResFault) → CountsFault why (lost_with old.own_faults) new answer → Fewer (store_images told images (seen_of old)) (images_read t1.bytes now)
      → Fewer (store_images told images (seen_of old)) (store_images told images (seen_of new))
  unread_fewer why new answer counted few = by why counted
    where
      to : (n : Inner D) → new ≡ n → Fewer (store_images told images (seen_of old)) (store_images told images (seen_of n)) → Fewer (store_images told images (seen_of old)) (store_images told images (seen_of new))
      to n is h = subst (λ (m : Inner D). Fewer (store_images told images (seen_of old)) (store_images told images (seen_of m))) (sym is) h

      by : (why : AttachFault) → CountsFault why (lost_with old.own_faults) new answer → Fewer (store_images told images (seen_of old)) (store_images told images (seen_of new))
      by (attach.BadCell table row col) counted = to (lost_with new.own_faults) counted.0 few
      by (attach.BadStore table) counted = to (lost_with new.own_faults) counted.0 few
      by attach.Failed counted = to (lost_with old.own_faults) counted.0 few
      by attach.Memory counted = to (lost_with old.own_faults) counted.0 few
