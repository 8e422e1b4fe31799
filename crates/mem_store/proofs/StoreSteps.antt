-- A journaled store whose log was opened, and what was opened taken.
use Rattle.std.proofs.Common.{◌≡◌, ℕ, true, false, List, Some, None, IfSome, Result, Ok, Err, sym, ap, subst, ◌∙◌}
use Rattle.vdb_model.specs.declared.table.TableDef.{TableDef}
use Rattle.gate_log.specs.declared.log.Log.{Log}
use Rattle.gate_log.specs.Disk.{DiskTold}
use Rattle.gate_log.specs.Records.{records}
use Rattle.gate_log.specs.Log.{IsOpen, left_of}
use Rattle.gate_log.specs.Opening.{Keeps}
use Rattle.resource.specs.declared.resource.AttachFault.{AttachFault}
use Rattle.resource.specs.declared.resource.ResState.{ResState}
use Rattle.resource.specs.Images.{Fewer}
use Rattle.resource.specs.Leaves.{Attaches, HasRead, Reopened}
use Rattle.resource.specs.Told.{is_settled}
use Rattle.store_tables.specs.declared.shelf.Shelf.{Shelf}
use Rattle.mem_store.specs.declared.attached.Attached.{Attached}
use Rattle.mem_store.specs.declared.inner.Inner.{Inner}
use Rattle.store_replay.specs.declared.opening.Opened.{Opened}
use Rattle.store_replay.specs.OpeningStore.{IsOpened, OpensSo, KeepsStore, OpenLeaves}
use Rattle.store_replay.specs.Replay.{read_bytes}
use Rattle.store_replay.specs.Replaying.{AreApart}
use Rattle.mem_store.specs.Standing.{Works, Standing}
use Rattle.mem_store.specs.Store.{store_told, store_images, seen_of, images_read}
use Rattle.mem_store.specs.Taking.{TakesBranch}
use Rattle.mem_store.proofs.ReopenSteps.{reopened_so}
use Rattle.mem_store.proofs.AttachSteps.{still, attached_so, attach_refused, leaves_tells, leaves_stands}
use Rattle.mem_store.proofs.OpenedSteps.{stays_settled, taken_works, settled_read}
use Rattle.mem_store.proofs.TellingSteps.{telling, tells_as, fewer}

module _ {D : Type 0} (told : D → DiskTold) (images : D → List ℕ → Type 0) (old : Inner D) (log : Log D) where
  -- the log was opened again, and nothing is attached
  abbrev pub detached_with : Inner D
  detached_with = record old { log = log; attached = None; reserved = None }

  pub refused_leaves : (defs : List TableDef) (why : AttachFault) → OpenLeaves {T = Opened} (told old.log.disk) (told log.disk) (images log.disk) (Err why)
      → Attaches defs (store_told told (seen_of old)) (store_told told (seen_of detached_with)) (store_images told images (seen_of detached_with)) (Err why)
  refused_leaves defs why h =
      let seen = seen_of old in
      attach_refused seen.state seen.reserved seen.defs seen.own_faults (left_of old.log) (left_of log) seen.records seen.deltas seen.asked (told old.log.disk) (told log.disk) (images log.disk) defs why h

  pub fewer_opened : {T : Type 0} (answer : Result T AttachFault) → OpenLeaves (told old.log.disk) (told log.disk) (images log.disk) answer → Keeps (told old.log.disk) (images old.log.disk) (images log.disk)
      → Fewer (images_read (told old.log.disk).bytes (images old.log.disk)) (images_read (told log.disk).bytes (images log.disk))
  fewer_opened answer leaves keeps =
      fewer (told old.log.disk).bytes (told log.disk).bytes (images old.log.disk) (images log.disk) (leaves_tells (told old.log.disk) (told log.disk) (images log.disk) answer leaves) keeps (leaves_stands (told old.log.disk) (told log.disk) (images log.disk) answer leaves)

  module _ (defs : List TableDef) (apart : AreApart defs) (stands : Standing told images old) (o : Opened) (answer : IfSome (told old.log.disk).bytes (OpensSo defs o)) (opened : IsOpened defs (left_of log) o)
      (leaves : KeepsStore (told old.log.disk) (told log.disk) (images log.disk)) (ready : IsOpen told images log)
      (a : Attached) (s : ResState) (shelf : a.shelf ≡ o.shelf) (branch : TakesBranch o.waiting s a) where
    -- and what was opened is taken
    abbrev pub taken_with : Inner D
    taken_with = record old { log = log; reserved = None; records = o.records; attached = Some a; state = s }

    defs_are : a.shelf.defs ≡ defs
    defs_are = ap (λ (sh : Shelf). sh.defs) shelf ∙ opened.defs_are

    works : Works s o.records log.end (left_of log) None a (told log.disk) (images log.disk) × (is_settled s ≡ true)
    works = taken_works defs o a s log.end (images log.disk) (told old.log.disk).bytes (told log.disk) opened leaves.same answer ready shelf branch

    reads : IfSome (told log.disk).bytes (λ y. HasRead (read_bytes y a.shelf.defs) (telling s false (Some a.shelf.defs) (told log.disk).faults old.own_faults (left_of log) o.records a.deltas.items old.asked.items (Some y)) (images_read (Some y) (images log.disk)))
    reads = settled_read s o.records log.end a (told log.disk) (images log.disk) (told log.disk).faults old.own_faults old.asked.items works.1 works.0

    pub taken_stands : Standing told images taken_with
    taken_stands = record {
      own = still (old.own_faults ≡ 0) (told old.log.disk).bytes (told log.disk).bytes (tells_as records (told old.log.disk).bytes (told log.disk).bytes leaves.same) stands.own;
      attached = record {
        apart = subst AreApart (sym defs_are) apart;
        stays = stays_settled s o.records log.end (left_of log) None a (told log.disk) (images log.disk) works.1 works.0;
      };
    }

    pub taken_leaves : (wanted : List TableDef) → defs ≡ wanted → Attaches wanted (store_told told (seen_of old)) (store_told told (seen_of taken_with)) (store_images told images (seen_of taken_with)) (Ok tt)
    taken_leaves wanted same =
        let seen = seen_of old in
        let new = taken_with in
        subst (λ ds. Attaches ds (store_told told (seen_of old)) (store_told told (seen_of new)) (store_images told images (seen_of new)) (Ok tt)) (defs_are ∙ same) (
        attached_so seen.state seen.reserved seen.defs (told old.log.disk).faults old.own_faults (left_of old.log) seen.records seen.deltas seen.asked (told old.log.disk).bytes
        a.shelf.defs s (told log.disk).faults (left_of log) o.records a.deltas.items (told log.disk).bytes (images log.disk) leaves.faults leaves.same leaves.stands reads)

    -- of a store that was attached to the same definitions
    pub taken_reopens : (seen_of old).defs ≡ Some defs → Reopened (store_told told (seen_of old)) (store_told told (seen_of taken_with)) (store_images told images (seen_of taken_with))
    taken_reopens known =
        let seen = seen_of old in
        let new = taken_with in
        subst (λ d. Reopened (telling seen.state seen.reserved d (told old.log.disk).faults old.own_faults (left_of old.log) seen.records seen.deltas seen.asked (told old.log.disk).bytes) (store_told told (seen_of new)) (store_images told images (seen_of new)))
        (ap Some defs_are ∙ sym known) (
        reopened_so seen.state seen.reserved a.shelf.defs (told old.log.disk).faults old.own_faults (left_of old.log) seen.records seen.deltas seen.asked (told old.log.disk).bytes
        s (told log.disk).faults (left_of log) o.records a.deltas.items (told log.disk).bytes (images log.disk) leaves.faults (tells_as records (told old.log.disk).bytes (told log.disk).bytes leaves.same) leaves.stands reads)
