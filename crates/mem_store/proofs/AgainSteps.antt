-- Reading a store again that isn't lost: it stands as it would if it were lost.
use Rattle.std.proofs.Common.{◌≡◌, ℕ, ◌≤◌, false, List, [], Option, Some, None, option_map, IfSome, Result, Err, refl, sym, ap, subst, ◌∙◌, append-nil}
use Rattle.vdb_model.specs.declared.source.Delta.{Delta}
use Rattle.vdb_model.specs.declared.table.TableDef.{TableDef}
use Rattle.vdb_model.specs.Rows.{Cells}
use Rattle.gate_log.specs.declared.log.Log.{Log}
use Rattle.gate_log.specs.Disk.{DiskTold}
use Rattle.gate_log.specs.Records.{records}
use Rattle.gate_log.specs.Log.{IsOpen, IsOpenAt, left_of}
use Rattle.gate_log.specs.Opening.{Entered, Keeps, KeepsRecords}
use Rattle.gate_log.specs.Stops.{Same}
use Rattle.gate_log.proofs.Told.{told_map}
use Rattle.resource.specs.declared.resource.AttachFault.{AttachFault}
use Rattle.resource.specs.declared.resource.AttachFault.TheVariants as attach
use Rattle.resource.specs.declared.resource.ResFault.{ResFault}
use Rattle.resource.specs.declared.resource.ResFault.TheVariants as fault
use Rattle.resource.specs.declared.resource.ResState.{ResState}
use Rattle.resource.specs.declared.resource.ResState.TheVariants as state
use Rattle.resource.specs.Images.{Fewer}
use Rattle.resource.specs.Leaves.{Reopens}
use Rattle.resource.specs.Told.{is_lost}
use Rattle.store_replay.specs.declared.opening.Opened.{Opened}
use Rattle.store_replay.specs.OpeningStore.{OpensAs, OpenLeaves, LooksOn}
use Rattle.store_replay.specs.Replay.{room_behind}
use Rattle.store_replay.proofs.OpenSteps.{leaves_entered}
use Rattle.mem_store.specs.declared.attached.Attached.{Attached}
use Rattle.mem_store.specs.declared.inner.Inner.{Inner}
use Rattle.mem_store.specs.Counting.{CountsFault}
use Rattle.mem_store.specs.Standing.{BranchIn, Knows, Lost, Works, IsAttached, Standing}
use Rattle.mem_store.specs.Store.{store_told, store_images, seen_of}
use Rattle.mem_store.proofs.FinishCalls.{attached, works}
use Rattle.mem_store.proofs.NextRecords.{known_room}
use Rattle.mem_store.proofs.RecordSteps.{branch_read, HasEnding, known_leaves, leaves_reads}
use Rattle.mem_store.proofs.ReopenSteps.{unread_leaves, unread_stands, unread_fewer}
use Rattle.mem_store.proofs.StoreSteps.{fewer_opened}

-- a prepared branch has the room for its end
has_ending : (s : ResState) (left room : ℕ) (reserved : Option (List ℕ)) (a : Attached) → room ≡ left → BranchIn s left reserved a → HasEnding s room
has_ending state.Idle left room reserved a e b = tt
has_ending (state.Active x) left room reserved a e b = tt
has_ending (state.Ended x) left room reserved a e b = tt
has_ending (state.Prepared x) left room reserved a e b = subst (λ n. 22 ≤ n) (sym e) b.1
has_ending state.Lost left room reserved a e b = tt

module _ (s : ResState) (here : is_lost s ≡ false) (n end : ℕ) (defs : List TableDef) (kept : List (List Cells)) (deltas : List Delta) (now : List ℕ → Type 0) (bytes : List ℕ) (k : Knows s n end defs kept deltas now bytes) where
  -- each content that a stop may leave is known, and reads as sound
  known_lost : HasEnding s (room_behind k.payloads) → Lost n defs now bytes
  known_lost room = record {
    payloads = k.payloads;
    count = k.count;
    each = λ c from.
        let are = ap records (k.is_open.only.only c from) ∙ k.are in
        record {
          more = [];
          are = are ∙ ap Some (sym (append-nil k.payloads));
          kept = kept;
          branch = branch_read s deltas;
          reads = leaves_reads s defs kept deltas k.payloads here (known_leaves s n end defs kept deltas now bytes k room) c are;
        };
    stands = k.is_open.only.is;
  }

-- what counts but want of memory is a failure
says_failed : {D : Type 0} (why : AttachFault) (before after : Inner D) (answer : ResFault) → ((why ≡ attach.Memory) → ⊥) → CountsFault why before after answer → answer ≡ fault.Failed
says_failed (attach.BadCell table row col) before after answer other counted = counted.2
says_failed (attach.BadStore table) before after answer other counted = counted.2
says_failed attach.Failed before after answer other counted = counted.1
says_failed attach.Memory before after answer other counted = absurd (other refl)

module _ {D : Type 0} (told : D → DiskTold) (images : D → List ℕ → Type 0) (old : Inner D) (a : Attached) (some : old.attached ≡ Some a) (here : is_lost old.state ≡ false) (stands : Standing told images old) where
  abbrev t0 : DiskTold
  t0 = told old.log.disk

  abbrev now0 : List ℕ → Type 0
  now0 = images old.log.disk

  abbrev frame : Option (List ℕ)
  frame = option_map (λ bytes. bytes.items) old.reserved

  was : IsAttached old.state old.records old.log.end (left_of old.log) frame t0 now0 a
  was = attached told images old a old.state here some refl stands

  works_now : Works old.state old.records old.log.end (left_of old.log) frame a t0 now0
  works_now = works told images old a old.state here some refl stands

  abbrev Known : List ℕ → Type 0
  Known bytes = Knows old.state old.records old.log.end a.shelf.defs works_now.kept a.deltas.items now0 bytes

  pub is_ready : IsOpen told images old.log
  is_ready = told_map t0.bytes Known (IsOpenAt old.log.end now0) (λ bytes k. k.is_open) works_now.knows

  -- as it would be if it were lost
  abbrev as_lost : Inner D
  as_lost = record old { state = state.Lost; reserved = None }

  lost_stands : Standing told images as_lost
  lost_stands = record {
    own = stands.own;
    attached = subst (λ o. IfSome o (IsAttached state.Lost old.records old.log.end (left_of old.log) None t0 now0)) (sym some) (record { apart = was.apart; stays = told_map t0.bytes Known (Lost old.records a.shelf.defs now0) lost_by works_now.knows });
  }
    where
      lost_by : (bytes : List ℕ) → Known bytes → Lost old.records a.shelf.defs now0 bytes
      lost_by bytes k =
          let room = known_room old.state old.records old.log.end a.shelf.defs works_now.kept a.deltas.items now0 bytes k in
          known_lost old.state here old.records old.log.end a.shelf.defs works_now.kept a.deltas.items now0 bytes k (has_ending old.state (left_of old.log) (room_behind k.payloads) frame a room works_now.branch)

  -- the log after questions
  module _ (log : Log D) (stops : Same now0 (images log.disk)) where
    abbrev t1 : DiskTold
    t1 = told log.disk

    abbrev now1 : List ℕ → Type 0
    now1 = images log.disk

    entered : Entered old.log.end t0 t0 now0 now0
    entered = record { faults = refl; stood = told_map t0.bytes (IsOpenAt old.log.end now0) now0 (λ bytes o. o.only.is) is_ready; same = refl; is_open = is_ready }

    asked_keeps : Keeps t0 now0 now1
    asked_keeps = told_map t0.bytes (IsOpenAt old.log.end now0) (λ bytes. KeepsRecords now0 now1) (λ bytes o. λ c from. (c, stops.within c from, refl)) is_ready

    pub asked_leaves : {T : Type 0} (result : Result T AttachFault) → LooksOn t0 t1 result → OpenLeaves t0 t1 now1 result
    asked_leaves result looks = leaves_entered old.log.end t0 t0 now0 now0 entered t1 now1 stops result looks

    pub asked_fewer : {T : Type 0} (result : Result T AttachFault) → LooksOn t0 t1 result → Fewer (store_images told images (seen_of old)) (store_images told images (seen_of (record old { log = log; reserved = None })))
    asked_fewer result looks = fewer_opened told images old log result (asked_leaves result looks) asked_keeps

    -- after a failure, or a fault of its own
    module _ (why : AttachFault) (new : Inner D) (answer : ResFault) (counted : CountsFault why (record old { log = log; state = state.Lost; reserved = None }) new answer) (looks : LooksOn {T = Opened} t0 t1 (Err why)) where
      pub failing_leaves : ((why ≡ attach.Memory) → ⊥) → Reopens {T = Unit {0}} (store_told told (seen_of old)) (store_told told (seen_of new)) (store_images told images (seen_of new)) (Err answer)
      failing_leaves other =
          from answer (says_failed why (record old { log = log; state = state.Lost; reserved = None }) new answer other counted)
          (unread_leaves told images as_lost log a some refl lost_stands why new answer counted (asked_leaves {T = Opened} (Err why) looks) asked_keeps)
        where
          from : (f : ResFault) → f ≡ fault.Failed → Reopens {T = Unit {0}} (store_told told (seen_of as_lost)) (store_told told (seen_of new)) (store_images told images (seen_of new)) (Err f)
              → Reopens {T = Unit {0}} (store_told told (seen_of old)) (store_told told (seen_of new)) (store_images told images (seen_of new)) (Err f)
          from fault.Failed e h = h
          from fault.Memory e h = cc

      pub failing_fewer : Fewer (store_images told images (seen_of old)) (store_images told images (seen_of new))
      failing_fewer = unread_fewer told images as_lost log a some refl lost_stands why new answer counted (asked_fewer {T = Opened} (Err why) looks)

      pub failing_stands : IfSome t0.bytes (OpensAs a.shelf.defs (Err why)) → Standing told images new
      failing_stands opens = unread_stands told images as_lost log a some refl lost_stands why new answer counted opens (asked_leaves {T = Opened} (Err why) looks) asked_keeps
