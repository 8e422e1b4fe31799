-- Commits and rollbacks of a journaled store.
use Rattle.std.proofs.Common.{◌≡◌, ℕ, List, length, Some, MatchOption, refl, sym, subst, arith}
use Rattle.vdb_model.specs.declared.source.Xid.{Xid}
use Rattle.vdb_model.specs.Deltas.{after_deltas}
use Rattle.vdb_model.specs.Rows.{Cells}
use Rattle.gate_log.specs.Appending.{payload_of}
use Rattle.gate_log.specs.Disk.{DiskTold}
use Rattle.resource.specs.declared.resource.ResState.TheVariants as state
use Rattle.resource.specs.Images.{plain, done}
use Rattle.resource.specs.Leaves.{DropFails, committed, reverted}
use Rattle.resource.specs.Needs.{IsIn}
use Rattle.resource.specs.Told.{Told, Contents, defs_in, prepared_in}
use Rattle.store_records.specs.declared.entry.Entry.TheVariants.{Committed, RolledBack}
use Rattle.store_records.specs.Framing.{Frames}
use Rattle.mem_store.specs.declared.attached.Attached.{Attached}
use Rattle.mem_store.specs.declared.inner.Inner.{Inner}
use Rattle.mem_store.specs.Appends.{HasAppended, HasFailed}
use Rattle.store_replay.specs.Replay.{room_behind}
use Rattle.mem_store.specs.Standing.{Standing}
use Rattle.mem_store.specs.Store.{store_told, store_images, seen_of}
use Rattle.mem_store.specs.Writing.{one_more, Keeps, TakesBack}
use Rattle.mem_store.proofs.NextRecords.{known_room, next_committed, next_rolled_back}
use Rattle.mem_store.proofs.EndingSteps.{IsKnown}
use Rattle.mem_store.proofs.RecordSteps.{HasEnding}
use Rattle.mem_store.proofs.FinishCalls.{attached, works, some_mapped, SaysEnd, SaysLost, finish_writes, finish_fails}

-- the rows that a commit keeps, and a rollback
abbrev pub rows_kept : Attached → List (List Cells) → List (List Cells)
rows_kept b kept = after_deltas b.shelf.defs kept b.deltas.items

abbrev pub rows_back : Attached → List (List Cells) → List (List Cells)
rows_back b kept = kept

abbrev pub commits : Told → Contents → Contents
commits t = committed (defs_in t)

abbrev pub drops : Told → Contents → Contents
drops t = reverted

module _ {D : Type 0} (told : D → DiskTold) (images : D → List ℕ → Type 0) (old written : Inner D) (x : Xid) (may : IsIn (state.Prepared x) (store_told told (seen_of old))) (stands : Standing told images old) where
  pub found : (a : Attached) × (old.attached ≡ Some a)
  found = some_mapped (λ a. a.shelf.defs) old.attached may.attached

  abbrev a : Attached
  a = found.0

  abbrev rows : List (List Cells)
  rows = (works told images old a (state.Prepared x) refl found.1 may.state_is stands).kept

  room : (bytes : List ℕ) (k : IsKnown told images old (state.Prepared x) refl a rows bytes) → HasEnding (state.Prepared x) (room_behind k.payloads)
  room bytes k =
      omega (arith, known_room (state.Prepared x) old.records old.log.end a.shelf.defs rows a.deltas.items (images old.log.disk) bytes k, (works told images old a (state.Prepared x) refl found.1 may.state_is stands).branch.1)

  module _ (frame : List ℕ) (frames : Frames (Committed x) frame) where
    pub commit_writes : (new : Inner D) → HasAppended told images (payload_of frame) (length frame) old.log written.log → written ≡ record old { log = written.log; records = one_more old.records; state = state.Idle }
        → MatchOption written.attached (new ≡ written) (Keeps written new) → SaysEnd told images old a (state.Prepared x) refl found.1 may.state_is stands commits (λ t. done (defs_in t)) old new
    commit_writes new h is branch =
        finish_writes told images old a (state.Prepared x) refl found.1 may.state_is stands commits (λ t. done (defs_in t)) rows_kept refl refl old.reserved (works told images old a (state.Prepared x) refl found.1 may.state_is stands).branch.0 written (payload_of frame) room
        (next_committed x old.records old.log.end a.shelf.defs rows a.deltas.items (images old.log.disk) frame (attached told images old a (state.Prepared x) refl found.1 may.state_is stands).apart frames)
        (length frame) new (works told images old a (state.Prepared x) refl found.1 may.state_is stands).seen_take h is branch

    pub commit_fails : HasFailed told images (payload_of frame) old.log written.log → written ≡ record old { log = written.log; state = state.Lost } → SaysLost told images old a (state.Prepared x) refl found.1 may.state_is stands commits (λ t. done (defs_in t)) old written
    commit_fails h is =
        finish_fails told images old a (state.Prepared x) refl found.1 may.state_is stands commits (λ t. done (defs_in t)) rows_kept refl refl old.reserved (works told images old a (state.Prepared x) refl found.1 may.state_is stands).branch.0 written (payload_of frame) room
        (next_committed x old.records old.log.end a.shelf.defs rows a.deltas.items (images old.log.disk) frame (attached told images old a (state.Prepared x) refl found.1 may.state_is stands).apart frames)
        h is

  module _ (frame : List ℕ) (frames : Frames (RolledBack x) frame) where
    pub rollback_writes : (new : Inner D) → HasAppended told images (payload_of frame) (length frame) old.log written.log → written ≡ record old { log = written.log; records = one_more old.records; state = state.Idle }
        → MatchOption written.attached (new ≡ written) (TakesBack written new) → SaysEnd told images old a (state.Prepared x) refl found.1 may.state_is stands drops (λ t. plain) old new
    rollback_writes new h is branch =
        finish_writes told images old a (state.Prepared x) refl found.1 may.state_is stands drops (λ t. plain) rows_back refl refl old.reserved (works told images old a (state.Prepared x) refl found.1 may.state_is stands).branch.0 written (payload_of frame) room
        (next_rolled_back x old.records old.log.end a.shelf.defs rows a.deltas.items (images old.log.disk) frame (attached told images old a (state.Prepared x) refl found.1 may.state_is stands).apart frames)
        (length frame) new (works told images old a (state.Prepared x) refl found.1 may.state_is stands).kept_take h is branch

    pub rollback_fails : HasFailed told images (payload_of frame) old.log written.log → written ≡ record old { log = written.log; state = state.Lost } → SaysLost told images old a (state.Prepared x) refl found.1 may.state_is stands drops (λ t. plain) old written
    rollback_fails h is =
        finish_fails told images old a (state.Prepared x) refl found.1 may.state_is stands drops (λ t. plain) rows_back refl refl old.reserved (works told images old a (state.Prepared x) refl found.1 may.state_is stands).branch.0 written (payload_of frame) room
        (next_rolled_back x old.records old.log.end a.shelf.defs rows a.deltas.items (images old.log.disk) frame (attached told images old a (state.Prepared x) refl found.1 may.state_is stands).apart frames)
        h is

    pub rollback_stops_lost : HasFailed told images (payload_of frame) old.log written.log → written ≡ record old { log = written.log; state = state.Lost } → DropFails (prepared_in old.state) (store_told told (seen_of old)) (store_images told images (seen_of old)) (store_images told images (seen_of written))
    rollback_stops_lost h is =
        subst (λ st. DropFails (prepared_in st) (store_told told (seen_of old)) (store_images told images (seen_of old)) (store_images told images (seen_of written))) (sym may.state_is) (rollback_fails h is).2
