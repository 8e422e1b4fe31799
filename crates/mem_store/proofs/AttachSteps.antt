-- What an attach answers and leaves, over plain values.
use Rattle.std.proofs.Common.{◌≡◌, ℕ, ◌+◌, false, Bool, List, [], Option, Some, None, option_map, IfSome, Result, Ok, Err, refl, sym, ap, subst, ◌∙◌}
use Rattle.std.specs.Prelude.{is_some}
use Rattle.vdb_base.specs.Counts.{Rose}
use Rattle.vdb_model.specs.declared.source.Delta.{Delta}
use Rattle.vdb_model.specs.declared.source.SourceQuery.{SourceQuery}
use Rattle.vdb_model.specs.declared.table.TableDef.{TableDef}
use Rattle.gate_log.specs.Disk.{DiskTold}
use Rattle.gate_log.specs.Records.{records}
use Rattle.resource.specs.declared.resource.AttachFault.{AttachFault}
use Rattle.resource.specs.declared.resource.AttachFault.TheVariants as attach
use Rattle.resource.specs.declared.resource.ResState.{ResState}
use Rattle.resource.specs.Images.{Image}
use Rattle.resource.specs.Leaves.{Attaches, HasRead, Fails, detached}
use Rattle.resource.specs.Told.{Told, contents_of, no_contents}
use Rattle.store_replay.specs.declared.opening.Opened.{Opened}
use Rattle.store_replay.specs.OpeningStore.{OpenLeaves}
use Rattle.store_replay.specs.Replay.{read_bytes}
use Rattle.mem_store.specs.Store.{contents_in, images_read}
use Rattle.mem_store.proofs.MoreRecords.{reads_same}
use Rattle.mem_store.proofs.TellingSteps.{some_same, tells_as, same_reads, telling, tells, rose_beside}

pub reads_stands : (bytes : Option (List ℕ)) (now : List ℕ → Type 0) → IfSome bytes now → IfSome (option_map read_bytes bytes) (images_read bytes now)
reads_stands None now h = tt
reads_stands (Some y) now h = (y, h, refl)

pub some_mapped : {A B : Type 0} (f : List ℕ → A) (g : List ℕ → B) (b0 b1 : Option (List ℕ)) → is_some b1 ≡ is_some b0 → is_some (option_map f b1) ≡ is_some (option_map g b0)
some_mapped f g None None e = refl
some_mapped f g None (Some y) e = cc
some_mapped f g (Some x) None e = cc
some_mapped f g (Some x) (Some y) e = refl

none_held : (n : ℕ) (b0 b1 : Option (List ℕ)) → is_some b1 ≡ is_some b0 → option_map (contents_in n None []) b1 ≡ option_map (λ reads. no_contents) (option_map read_bytes b0)
none_held n None None e = refl
none_held n None (Some y) e = cc
none_held n (Some x) None e = cc
none_held n (Some x) (Some y) e = refl

-- what holds where bytes are told before holds where they are told now
pub still : (P : Type 0) (b0 b1 : Option (List ℕ)) → is_some b1 ≡ is_some b0 → IfSome b0 (λ bytes. P) → IfSome b1 (λ bytes. P)
still P None None e h = tt
still P None (Some y) e h = cc
still P (Some x) None e h = cc
still P (Some x) (Some y) e h = h

module _ (s0 : ResState) (r0 : Bool) (d0 : Option (List TableDef)) (f0 own spare0 n0 : ℕ) (deltas0 : List Delta) (asked : List SourceQuery) (b0 : Option (List ℕ)) where
  abbrev before : Told
  before = telling s0 r0 d0 f0 own spare0 n0 deltas0 asked b0

  -- what a reading that is sound leaves, from one told so
  pub attached_so : (ds : List TableDef) (s1 : ResState) (f1 left n : ℕ) (deltas : List Delta) (b1 : Option (List ℕ)) (now : List ℕ → Type 0) → f1 ≡ f0 → option_map records b1 ≡ option_map records b0 → IfSome b1 now
      → IfSome b1 (λ y. HasRead (read_bytes y ds) (telling s1 false (Some ds) f1 own left n deltas asked (Some y)) (images_read (Some y) now))
      → Attaches ds before (telling s1 false (Some ds) f1 own left n deltas asked b1) (images_read b1 now) (Ok tt)
  attached_so ds s1 f1 left n deltas b1 now ef e stands h = by b0 b1 e stands h
    where
      by : (x y : Option (List ℕ)) → option_map records y ≡ option_map records x → IfSome y now → IfSome y (λ b. HasRead (read_bytes b ds) (telling s1 false (Some ds) f1 own left n deltas asked (Some b)) (images_read (Some b) now))
          → Attaches ds (telling s0 r0 d0 f0 own spare0 n0 deltas0 asked x) (telling s1 false (Some ds) f1 own left n deltas asked y) (images_read y now) (Ok tt)
      by None None e stands h = (ap (λ f. record (telling s1 false (Some ds) f1 own left n deltas asked None) { faults = f + own }) ef, tt)
      by None (Some y) e stands h = cc
      by (Some x) None e stands h = cc
      by (Some x) (Some y) e stands h =
          let new = telling s1 false (Some ds) f1 own left n deltas asked (Some y) in
          let er : read_bytes y ≡ read_bytes x = reads_same y x (some_same (records y) (records x) e) in
          let contents : new.contents ≡ Some (contents_of (read_bytes x ds)) = h.contents_are ∙ ap (λ (g : Image). Some (contents_of (g ds))) er in (
            tells new (Some ds) (Some ds) (f1 + own) (f0 + own) (Some (read_bytes y)) (Some (read_bytes x)) new.contents (Some (contents_of (read_bytes x ds))) refl (ap (λ f. f + own) ef) (ap (λ (g : Image). Some g) er) contents,
            ((y, stands, sym er), subst (λ (g : Image). HasRead (g ds) new (images_read (Some y) now)) er h),
          )

  -- nothing is attached
  pub refused_so : (f1 left : ℕ) (b1 : Option (List ℕ)) → f1 ≡ f0 → option_map records b1 ≡ option_map records b0 → telling s0 false None f1 own left n0 [] asked b1 ≡ record (detached before) { spare = Some left }
  refused_so f1 left b1 ef e =
      let new = telling s0 false None f1 own left n0 [] asked b1 in
      let some = tells_as records b0 b1 e in
      tells new None None (f1 + own) (f0 + own) new.reads (option_map read_bytes b0) new.contents (option_map (λ reads. no_contents) (option_map read_bytes b0)) refl (ap (λ f. f + own) ef) (same_reads b0 b1 e) (none_held n0 b0 b1 some)

  pub failed_so : (f1 left : ℕ) (b1 : Option (List ℕ)) (now : List ℕ → Type 0) → Rose f0 f1 → is_some b1 ≡ is_some b0 → IfSome b1 now
      → Fails (record (detached before) { spare = Some left }) (telling s0 false None f1 own left n0 [] asked b1) (images_read b1 now)
  failed_so f1 left b1 now rose some stands =
      let new = telling s0 false None f1 own left n0 [] asked b1 in
      record {
        rose = rose_beside f0 f1 own rose;
        stores = record {
          same = ap (λ c. record new { contents = c }) (none_held n0 b0 b1 some);
          tells = some_mapped read_bytes read_bytes b0 b1 some;
          reads = reads_stands b1 now stands;
        };
      }

pub attach_refused : (s0 : ResState) (r0 : Bool) (d0 : Option (List TableDef)) (own spare0 left n0 : ℕ) (deltas0 : List Delta) (asked : List SourceQuery) (t0 t1 : DiskTold) (now : List ℕ → Type 0) (defs : List TableDef) (why : AttachFault)
    → OpenLeaves {T = Opened} t0 t1 now (Err why)
    → Attaches defs (telling s0 r0 d0 t0.faults own spare0 n0 deltas0 asked t0.bytes) (telling s0 false None t1.faults own left n0 [] asked t1.bytes) (images_read t1.bytes now) (Err why)
attach_refused s0 r0 d0 own spare0 left n0 deltas0 asked t0 t1 now defs (attach.BadCell table row col) h = refused_so s0 r0 d0 t0.faults own spare0 n0 deltas0 asked t0.bytes t1.faults left t1.bytes h.faults h.same
attach_refused s0 r0 d0 own spare0 left n0 deltas0 asked t0 t1 now defs (attach.BadStore table) h = refused_so s0 r0 d0 t0.faults own spare0 n0 deltas0 asked t0.bytes t1.faults left t1.bytes h.faults h.same
attach_refused s0 r0 d0 own spare0 left n0 deltas0 asked t0 t1 now defs attach.Memory h = refused_so s0 r0 d0 t0.faults own spare0 n0 deltas0 asked t0.bytes t1.faults left t1.bytes h.faults h.same
attach_refused s0 r0 d0 own spare0 left n0 deltas0 asked t0 t1 now defs attach.Failed h = failed_so s0 r0 d0 t0.faults own spare0 n0 deltas0 asked t0.bytes t1.faults left t1.bytes now h.rose h.tells h.reads

-- whatever is answered, the disk tells as before, and what is read is one of the images
pub leaves_tells : {T : Type 0} (t0 t1 : DiskTold) (now : List ℕ → Type 0) (answer : Result T AttachFault) → OpenLeaves t0 t1 now answer → is_some t1.bytes ≡ is_some t0.bytes
leaves_tells t0 t1 now (Ok done) h = tells_as records t0.bytes t1.bytes h.same
leaves_tells t0 t1 now (Err (attach.BadCell table row col)) h = tells_as records t0.bytes t1.bytes h.same
leaves_tells t0 t1 now (Err (attach.BadStore table)) h = tells_as records t0.bytes t1.bytes h.same
leaves_tells t0 t1 now (Err attach.Memory) h = tells_as records t0.bytes t1.bytes h.same
leaves_tells t0 t1 now (Err attach.Failed) h = h.tells

pub leaves_stands : {T : Type 0} (t0 t1 : DiskTold) (now : List ℕ → Type 0) (answer : Result T AttachFault) → OpenLeaves t0 t1 now answer → IfSome t1.bytes now
leaves_stands t0 t1 now (Ok done) h = h.stands
leaves_stands t0 t1 now (Err (attach.BadCell table row col)) h = h.stands
leaves_stands t0 t1 now (Err (attach.BadStore table)) h = h.stands
leaves_stands t0 t1 now (Err attach.Memory) h = h.stands
leaves_stands t0 t1 now (Err attach.Failed) h = h.reads
