-- Commits in one phase of a journaled store.
use Rattle.std.proofs.Common.{◌≡◌, ℕ, true, List, [], length, nat_eq, Option, Some, None, option_map, IfSome, MatchOption, Vec, Global, refl, sym, ap, subst, arith}
use Rattle.std.proofs.lemmas.Bool.Decides.{nat_tests}
use Rattle.vdb_model.specs.declared.source.Xid.{Xid}
use Rattle.vdb_model.specs.Deltas.{after_deltas}
use Rattle.vdb_model.specs.Rows.{Cells}
use Rattle.gate_log.specs.Appending.{IsFrame, payload_of}
use Rattle.gate_log.specs.Disk.{DiskTold}
use Rattle.gate_log.specs.Log.{left_of}
use Rattle.resource.specs.declared.resource.ResState.TheVariants as state
use Rattle.resource.specs.Images.{done}
use Rattle.resource.specs.Needs.{IsIn}
use Rattle.resource.specs.Told.{defs_in}
use Rattle.store_records.specs.declared.entry.Entry.TheVariants.{OnePhase}
use Rattle.mem_store.specs.declared.attached.Attached.{Attached}
use Rattle.mem_store.specs.declared.inner.Inner.{Inner}
use Rattle.mem_store.specs.Appends.{HasAppended, HasFailed}
use Rattle.mem_store.specs.Changes.{stored_as}
use Rattle.mem_store.specs.Standing.{IsReserved, Standing}
use Rattle.mem_store.specs.Store.{store_told, seen_of}
use Rattle.mem_store.specs.Writing.{one_more, Keeps}
use Rattle.mem_store.proofs.MoreRecords.{IsFrame-Frames}
use Rattle.mem_store.proofs.NextRecords.{next_one_phase}
use Rattle.mem_store.proofs.PrepareCalls.{nil_of}
use Rattle.mem_store.proofs.EndedCalls.{rows_kept, commits}
use Rattle.mem_store.proofs.FinishCalls.{attached, works, some_mapped, SaysEnd, SaysLost, finish_writes, finish_fails, finish_quiet}

-- what a test of the branch for changes says
pub unchanged : (o : Option Attached) (a : Attached) → o ≡ Some a → IfSome o (λ b. true ≡ nat_eq (length b.deltas.items) 0) → a.deltas.items ≡ []
unchanged o a at e =
    let empty = subst (λ p. IfSome p (λ b. true ≡ nat_eq (length b.deltas.items) 0)) at e in
    nil_of a.deltas.items (grind (arith, nat_tests))

module _ {D : Type 0} (told : D → DiskTold) (images : D → List ℕ → Type 0) (old written : Inner D) (x : Xid) (may : IsIn (state.Ended x) (store_told told (seen_of old))) (stands : Standing told images old) (frame : Vec ℕ Global) (reserved : Some frame ≡ old.reserved) (left : Option (Vec ℕ Global)) (none : left ≡ None) where
  pub found_ended : (a : Attached) × (old.attached ≡ Some a)
  found_ended = some_mapped (λ a. a.shelf.defs) old.attached may.attached

  abbrev a : Attached
  a = found_ended.0

  abbrev rows : List (List Cells)
  rows = (works told images old a (state.Ended x) refl found_ended.1 may.state_is stands).kept

  pub one_phase_quiet : (new : Inner D) → IfSome old.attached (λ b. true ≡ nat_eq (length b.deltas.items) 0) → written ≡ record old { state = state.Idle; reserved = left } → MatchOption written.attached (new ≡ written) (Keeps written new)
      → SaysEnd told images old a (state.Ended x) refl found_ended.1 may.state_is stands commits (λ t. done (defs_in t)) old new
  one_phase_quiet new empty is branch =
      finish_quiet told images old a (state.Ended x) refl found_ended.1 may.state_is stands commits (λ t. done (defs_in t)) rows_kept refl refl left (ap (option_map (λ f. f.items)) none) written new
      (ap (after_deltas a.shelf.defs rows) (unchanged old.attached a found_ended.1 empty)) (λ b k. k.branch) is branch

  module _ (bytes : List ℕ) (are : bytes ≡ frame.items) where
    is_reserved : IsReserved (left_of old.log) x a bytes
    is_reserved =
        subst (λ b. IsReserved (left_of old.log) x a b) (sym are)
        (subst (λ o. IfSome (option_map (λ f. f.items) o) (IsReserved (left_of old.log) x a)) (sym reserved) (works told images old a (state.Ended x) refl found_ended.1 may.state_is stands).branch.0)

    pub one_phase_form : IsFrame bytes
    one_phase_form = IsFrame-Frames (OnePhase x (stored_as a.shelf.defs a.deltas.items)) bytes is_reserved.frames

    pub one_phase_writes : (new : Inner D) → HasAppended told images (payload_of bytes) (length bytes) old.log written.log → written ≡ record old { log = written.log; records = one_more old.records; state = state.Idle; reserved = left }
        → MatchOption written.attached (new ≡ written) (Keeps written new) → SaysEnd told images old a (state.Ended x) refl found_ended.1 may.state_is stands commits (λ t. done (defs_in t)) old new
    one_phase_writes new h is branch =
        finish_writes told images old a (state.Ended x) refl found_ended.1 may.state_is stands commits (λ t. done (defs_in t)) rows_kept refl refl left (ap (option_map (λ f. f.items)) none) written (payload_of bytes) (λ b k. tt)
        (next_one_phase x old.records old.log.end a.shelf.defs rows a.deltas.items (images old.log.disk) bytes (attached told images old a (state.Ended x) refl found_ended.1 may.state_is stands).apart is_reserved.frames
        (works told images old a (state.Ended x) refl found_ended.1 may.state_is stands).branch.1.defined)
        (length bytes) new (works told images old a (state.Ended x) refl found_ended.1 may.state_is stands).seen_take h is branch

    pub one_phase_fails : HasFailed told images (payload_of bytes) old.log written.log → written ≡ record old { log = written.log; state = state.Lost; reserved = left } → SaysLost told images old a (state.Ended x) refl found_ended.1 may.state_is stands commits (λ t. done (defs_in t)) old written
    one_phase_fails h is =
        finish_fails told images old a (state.Ended x) refl found_ended.1 may.state_is stands commits (λ t. done (defs_in t)) rows_kept refl refl left (ap (option_map (λ f. f.items)) none) written (payload_of bytes) (λ b k. tt)
        (next_one_phase x old.records old.log.end a.shelf.defs rows a.deltas.items (images old.log.disk) bytes (attached told images old a (state.Ended x) refl found_ended.1 may.state_is stands).apart is_reserved.frames
        (works told images old a (state.Ended x) refl found_ended.1 may.state_is stands).branch.1.defined)
        h is
