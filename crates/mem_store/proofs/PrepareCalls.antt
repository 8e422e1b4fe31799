-- What a prepare of a journaled store leaves.
use Rattle.std.proofs.Common.{◌≡◌, ℕ, ◌+◌, ◌<◌, ◌≤◌, true, false, List, [], ◌∷◌, ◌++◌, length, Option, Some, None, option_map, Vec, Global, vec_len, ◌==◌, IfSome, Ok, Err, Result, refl, sym, ap, subst, ◌∙◌, arith}
use Rattle.std.proofs.lemmas.Bool.Decides.{nat_tests}
use Rattle.vdb_model.specs.declared.source.Xid.{Xid}
use Rattle.gate_log.specs.Appending.{payload_of}
use Rattle.gate_log.specs.Disk.{DiskTold}
use Rattle.gate_log.specs.Log.{left_of}
use Rattle.resource.specs.declared.resource.ResFault.{ResFault}
use Rattle.resource.specs.declared.resource.ResFault.TheVariants as fault
use Rattle.resource.specs.declared.resource.ResState.TheVariants as state
use Rattle.resource.specs.declared.resource.Vote.{Vote}
use Rattle.resource.specs.declared.resource.Vote.TheVariants as vote
use Rattle.resource.specs.Images.{branched, plain}
use Rattle.resource.specs.Leaves.{Prepares, PrepareStops}
use Rattle.resource.specs.Told.{Lowers}
use Rattle.store_records.specs.declared.entry.Entry.TheVariants.{Prepared}
use Rattle.store_records.specs.Framing.{Frames}
use Rattle.mem_store.specs.declared.attached.Attached.{Attached}
use Rattle.mem_store.specs.declared.inner.Inner.{Inner}
use Rattle.mem_store.specs.Appends.{HasAppended, HasFailed}
use Rattle.mem_store.specs.Changes.{stored_as, store_needs}
use Rattle.mem_store.specs.Standing.{Works, IsAttached, Standing}
use Rattle.mem_store.specs.Store.{store_told, store_images, seen_of, contents_in}
use Rattle.mem_store.specs.Writing.{one_more}
use Rattle.mem_store.proofs.NextRecords.{next_prepared, contents_are, kept_told}
use Rattle.mem_store.proofs.EndingSteps.{HasTables, IsKnown, was, wrote_says, failed_says, quiet_stands, quiet_only}
use Rattle.mem_store.proofs.RecordSteps.{Leaves}

pub nil_of : {A : Type 0} (xs : List A) → length xs ≡ 0 → xs ≡ []
nil_of [] e = refl
nil_of (x ∷ xs) e = absurd (omega (arith, e))

-- what a test of a vector for emptiness says of its items
pub no_items : {A : Type 0} (v : Vec A Global) → true ≡ (vec_len v == 0) → v.items ≡ []
no_items v e = nil_of v.items (let len = v.ok.0 in grind (arith, nat_tests))

pub some_items : {A : Type 0} (v : Vec A Global) → false ≡ (vec_len v == 0) → 0 < length v.items
some_items v e = let len = v.ok.0 in grind (arith, nat_tests)

module _ {D : Type 0} (told : D → DiskTold) (images : D → List ℕ → Type 0) (old new : Inner D) (a : Attached) (x : Xid) (at : old.attached ≡ Some a) (in_state : old.state ≡ state.Ended x) (stands : Standing told images old) where
  -- the store as it was, with its state and its tables written out
  is_was : old ≡ was told images old (state.Ended x) refl a
  is_was = ap (λ o. record old { attached = o }) at ∙ ap (λ st. record old { attached = Some a; state = st }) in_state

  attached : IsAttached (state.Ended x) old.records old.log.end (left_of old.log) (option_map (λ frame. frame.items) old.reserved) (told old.log.disk) (images old.log.disk) a
  attached =
      subst (λ st. IsAttached st old.records old.log.end (left_of old.log) (option_map (λ frame. frame.items) old.reserved) (told old.log.disk) (images old.log.disk) a) in_state
      (subst (λ o. IfSome o (IsAttached old.state old.records old.log.end (left_of old.log) (option_map (λ frame. frame.items) old.reserved) (told old.log.disk) (images old.log.disk))) at stands.attached)

  works : Works (state.Ended x) old.records old.log.end (left_of old.log) (option_map (λ frame. frame.items) old.reserved) a (told old.log.disk) (images old.log.disk)
  works = attached.stays

  -- all that a prepare says
  abbrev pub Says : Result Vote ResFault → Inner D → Inner D → Type 0
  Says result before after =
      Prepares x (store_told told (seen_of before)) (store_told told (seen_of after)) (store_images told images (seen_of after)) result
      × Lowers (store_told told (seen_of before)).spare (store_told told (seen_of after)).spare
      × PrepareStops x (store_told told (seen_of before)) (store_images told images (seen_of before)) (store_images told images (seen_of after)) result
      × Standing told images after

  module _ (frame : List ℕ) (some : 0 < length a.deltas.items) (frames : Frames (Prepared x (stored_as a.shelf.defs a.deltas.items)) frame) (size : length frame + 22 ≡ store_needs a.shelf.defs a.deltas.items) where
    fits : length frame + 22 ≤ left_of old.log
    fits = omega (arith, size, works.branch.1.room some)

    next : (bytes : List ℕ) (k : IsKnown told images old (state.Ended x) refl a works.kept bytes) → Leaves (state.Prepared x) a.shelf.defs works.kept a.deltas.items (k.payloads ++ payload_of frame ∷ [])
    next = next_prepared x old.records old.log.end a.shelf.defs works.kept a.deltas.items (images old.log.disk) frame attached.apart frames works.branch.1.defined fits

    -- where the record was added
    pub prepare_writes : HasAppended told images (payload_of frame) (length frame) old.log new.log → new ≡ record old { log = new.log; records = one_more old.records; state = state.Prepared x; reserved = None } → Says (Ok vote.Ready) old new
    prepare_writes h is =
        subst (λ before. Says (Ok vote.Ready) before new) (sym is_was)
        (subst (λ after. Says (Ok vote.Ready) (was told images old (state.Ended x) refl a) after)
        (sym (is ∙ ap (λ o. record old { log = new.log; records = one_more old.records; attached = o; state = state.Prepared x; reserved = None }) at))
        (wrote_says told images old (state.Ended x) refl a stands.own works.kept works.knows new.log None refl (state.Prepared x) refl a works.kept a.deltas.items (payload_of frame) (length frame) (λ b k. tt) next h tables _ (branched x)
        (sym (contents_are old.records a.shelf.defs works.kept a.deltas.items (told old.log.disk).bytes (kept_told (state.Ended x) old.records old.log.end a.shelf.defs works.kept a.deltas.items (images old.log.disk) (told old.log.disk).bytes works.knows))) refl))
      where
        tables : HasTables (state.Prepared x) (left_of new.log) None a.shelf.defs works.kept a.deltas.items a
        tables = record { defs_are = refl; deltas_are = refl; apart = attached.apart; has = works.has; kept_take = works.kept_take; seen_take = works.seen_take; branch = (refl, omega (arith, h.left, fits)) }

    -- where the disk failed
    pub prepare_fails : HasFailed told images (payload_of frame) old.log new.log → new ≡ record old { log = new.log; state = state.Lost; reserved = None } → Says (Err fault.Failed) old new
    prepare_fails h is =
        subst (λ before. Says (Err fault.Failed) before new) (sym is_was)
        (subst (λ after. Says (Err fault.Failed) (was told images old (state.Ended x) refl a) after)
        (sym (is ∙ ap (λ o. record old { log = new.log; attached = o; state = state.Lost; reserved = None }) at))
        (failed_says told images old (state.Ended x) refl a stands.own works.kept works.knows new.log None refl (state.Prepared x) refl works.kept a.deltas.items (payload_of frame) attached.apart (λ b k. tt) next h (branched x) refl))

  -- where nothing was changed
  pub prepare_reads : a.deltas.items ≡ [] → new ≡ record old { state = state.Idle; reserved = None } → Says (Ok vote.ReadOnly) old new
  prepare_reads none is =
      subst (λ before. Says (Ok vote.ReadOnly) before new) (sym is_was)
      (subst (λ after. Says (Ok vote.ReadOnly) (was told images old (state.Ended x) refl a) after)
      (sym (is ∙ ap (λ o. record old { attached = o; state = state.Idle; reserved = None }) at)) (
        (refl, no_deltas (told old.log.disk).bytes),
        omega arith,
        quiet_only told images old (state.Ended x) refl a stands.own works.kept works.knows None refl a (λ b k. k.branch) tables plain refl,
        quiet_stands told images old (state.Ended x) refl a stands.own works.kept works.knows None refl a (λ b k. k.branch) tables,
      ))
    where
      tables : HasTables state.Idle (left_of old.log) None a.shelf.defs works.kept [] a
      tables = record { defs_are = refl; deltas_are = none; apart = attached.apart; has = works.has; kept_take = works.kept_take; seen_take = works.kept_take; branch = (refl, none, works.branch.1.written) }

      no_deltas : (bytes : Option (List ℕ)) → IfSome (option_map (contents_in old.records (Some a.shelf.defs) a.deltas.items) bytes) (λ c. c.deltas ≡ [])
      no_deltas None = tt
      no_deltas (Some b) = none
