-- The end of a branch of a journaled store that isn't prepared.
use Rattle.std.proofs.Common.{◌≡◌, ℕ, ◌+◌, false, List, [], Option, Some, None, option_map, IfSome, MatchOption, inl, inr, ◌⊎◌, refl, sym, ap, subst, ◌∙◌, arith}
use Rattle.vdb_model.specs.declared.source.Delta.{Delta}
use Rattle.vdb_model.specs.declared.source.Xid.{Xid}
use Rattle.vdb_model.specs.declared.table.TableDef.{TableDef}
use Rattle.gate_log.specs.Disk.{DiskTold}
use Rattle.gate_log.specs.Log.{left_of}
use Rattle.resource.specs.declared.resource.ResState.{ResState}
use Rattle.resource.specs.declared.resource.ResState.TheVariants as state
use Rattle.resource.specs.Images.{Only, plain}
use Rattle.resource.specs.Leaves.{Stores, reverted}
use Rattle.resource.specs.Needs.{HasBranch}
use Rattle.resource.specs.Told.{Lowers, defs_in, is_lost}
use Rattle.mem_store.specs.declared.attached.Attached.{Attached}
use Rattle.mem_store.specs.declared.inner.Inner.{Inner}
use Rattle.store_replay.specs.Replay.{read_bytes}
use Rattle.mem_store.specs.Seen.{Seen}
use Rattle.mem_store.specs.Standing.{Knows, Works, Standing}
use Rattle.mem_store.specs.Store.{store_told, store_images, seen_of, deltas_of, contents_in, images_read}
use Rattle.mem_store.specs.Taking.{IsDropped}
use Rattle.mem_store.specs.Writing.{EndsBranch, TakesBack}
use Rattle.mem_store.proofs.EndingSteps.{IsKnown, stores_so, stands_read}
use Rattle.mem_store.proofs.NextRecords.{at_contents, kept_told, quiet_told, idle_only}
use Rattle.mem_store.proofs.EndedCalls.{rows_back, drops}
use Rattle.mem_store.proofs.FinishCalls.{works, is_was, some_mapped, finish_quiet}

module _ {D : Type 0} (told : D → DiskTold) (images : D → List ℕ → Type 0) (old written new : Inner D) (stands : Standing told images old) (is : written ≡ record old { state = state.Idle; reserved = None }) where
  module _ (a : Attached) (at : old.attached ≡ Some a) (end : EndsBranch (λ kept. kept) written new a) where
    new_is : new ≡ record old { attached = Some end.after; state = state.Idle; reserved = None }
    new_is = end.is ∙ ap (λ (w : Inner D). record w { attached = Some end.after }) is

    dropped_seen : seen_of new ≡ record (seen_of old) { state = state.Idle; reserved = false; deltas = [] }
    dropped_seen =
        ap (λ (n : Inner D). seen_of n) new_is
        ∙ ap (λ (d : List TableDef). record (seen_of old) { state = state.Idle; reserved = false; defs = Some d; deltas = end.after.deltas.items }) end.ended.defs
        ∙ ap (λ (ds : List Delta). record (seen_of old) { state = state.Idle; reserved = false; defs = Some a.shelf.defs; deltas = ds }) end.ended.deltas
        ∙ ap (λ (o : Option Attached). record (seen_of old) { state = state.Idle; reserved = false; defs = option_map (λ b. b.shelf.defs) o; deltas = [] }) (sym at)

    taken_back : MatchOption written.attached (new ≡ written) (TakesBack written new)
    taken_back = subst (λ o. MatchOption o (new ≡ written) (TakesBack written new)) (sym (ap (λ (w : Inner D). w.attached) is ∙ at)) end

    dropped_stands : (old.state ≡ state.Idle) ⊎ ((x : Xid) × ((old.state ≡ state.Active x) ⊎ (old.state ≡ state.Ended x))) → Standing told images new
    dropped_stands (inl e) =
        (finish_quiet told images old a state.Idle refl at e stands drops (λ t. plain) rows_back refl refl None refl written new refl (λ b k. k.branch) is taken_back).3
    dropped_stands (inr (x, inl e)) =
        (finish_quiet told images old a (state.Active x) refl at e stands drops (λ t. plain) rows_back refl refl None refl written new refl (λ b k. k.branch) is taken_back).3
    dropped_stands (inr (x, inr e)) =
        (finish_quiet told images old a (state.Ended x) refl at e stands drops (λ t. plain) rows_back refl refl None refl written new refl (λ b k. k.branch) is taken_back).3

  dropped_by : (o : Option Attached) → old.attached ≡ o → MatchOption o (new ≡ written) (TakesBack written new) → IsDropped told images old new
  dropped_by None at same = record {
    seen = ap (λ (n : Inner D). seen_of n) (same ∙ is) ∙ ap (λ (o : Option Attached). record (seen_of old) { state = state.Idle; reserved = false; deltas = deltas_of o }) at;
    stands = λ s. subst (λ n. Standing told images n) (sym (same ∙ is ∙ ap (λ o. record old { attached = o; state = state.Idle; reserved = None }) at)) (record { own = stands.own; attached = tt });
  }
  dropped_by (Some a) at end = record { seen = dropped_seen a at end; stands = dropped_stands a at end }

  pub dropped : MatchOption old.attached (new ≡ written) (TakesBack written new) → IsDropped told images old new
  dropped = dropped_by old.attached refl

reverted_contents : (n : ℕ) (defs : List TableDef) (deltas : List Delta) (bytes : Option (List ℕ)) → option_map (contents_in n (Some defs) []) bytes ≡ option_map reverted (option_map (contents_in n (Some defs) deltas) bytes)
reverted_contents n defs deltas None = refl
reverted_contents n defs deltas (Some b) = refl

module _ {D : Type 0} (told : D → DiskTold) (images : D → List ℕ → Type 0) (old : Inner D) where
  -- what a rollback tells
  abbrev pub SaysGone : Seen D → Seen D → Type 0
  SaysGone before after =
      Stores (record (store_told told before) { state = state.Idle; reserved = false; spare = (store_told told after).spare; contents = option_map reverted (store_told told before).contents }) (store_told told after) (store_images told images after)
      × Lowers (store_told told before).spare (store_told told after).spare
      × IfSome (store_told told before).contents (λ c. Only (defs_in (store_told told before)) (plain c) (store_images told images after))

  module _ (a : Attached) (s : ResState) (here : is_lost s ≡ false) (at : old.attached ≡ Some a) (in_state : old.state ≡ s) (stands : Standing told images old)
      (none : (bytes : List ℕ) (k : IsKnown told images old s here a (works told images old a s here at in_state stands).kept bytes) → k.r.branch ≡ None) where
    abbrev w : Works s old.records old.log.end (left_of old.log) (option_map (λ frame. frame.items) old.reserved) a (told old.log.disk) (images old.log.disk)
    w = works told images old a s here at in_state stands

    gone_from : (new : Seen D) → new ≡ record (seen_of old) { state = state.Idle; reserved = false; deltas = [] } → SaysGone (seen_of old) new
    gone_from new is =
        subst (λ (n : Seen D). SaysGone (seen_of old) n) (sym is)
        (subst (λ (o : Inner D). SaysGone (seen_of o) (record (seen_of o) { state = state.Idle; reserved = false; deltas = [] })) (sym (is_was told images old a s here at in_state stands)) (
          stores_so _ _ false (Some a.shelf.defs) ((told old.log.disk).faults + old.own_faults) _ (option_map read_bytes (told old.log.disk).bytes) refl refl refl
              (reverted_contents old.records a.shelf.defs a.deltas.items (told old.log.disk).bytes) refl (stands_read (told old.log.disk).bytes (images old.log.disk) (open_now (told old.log.disk).bytes idle)),
          omega arith,
          at_contents old.records a.shelf.defs w.kept a.deltas.items (told old.log.disk).bytes (λ c. Only a.shelf.defs (plain c) (images_read (told old.log.disk).bytes (images old.log.disk)))
              (kept_told s old.records old.log.end a.shelf.defs w.kept a.deltas.items (images old.log.disk) (told old.log.disk).bytes w.knows)
              (idle_only old.records old.log.end a.shelf.defs w.kept (images old.log.disk) (told old.log.disk).bytes idle),
        ))
      where
        idle : IfSome (told old.log.disk).bytes (Knows state.Idle old.records old.log.end a.shelf.defs w.kept [] (images old.log.disk))
        idle = quiet_told s here old.records old.log.end a.shelf.defs w.kept a.deltas.items (images old.log.disk) none (told old.log.disk).bytes w.knows

        open_now : (bytes : Option (List ℕ)) → IfSome bytes (Knows state.Idle old.records old.log.end a.shelf.defs w.kept [] (images old.log.disk)) → IfSome bytes (images old.log.disk)
        open_now None k = tt
        open_now (Some c) k = k.is_open.only.is

  module _ (x : Xid) (new : Inner D) (stands : Standing told images old) (drop : IsDropped told images old new) (unprepared : old.state ≡ state.Prepared x → ⊥) where
    pub gone : HasBranch x (store_told told (seen_of old)) → SaysGone (seen_of old) (seen_of new)
    gone (inl m) =
        let found = some_mapped (λ b. b.shelf.defs) old.attached m.attached in
        gone_from found.0 (state.Active x) refl found.1 m.state_is stands (λ b k. k.branch) (seen_of new) drop.seen
    gone (inr (inl m)) =
        let found = some_mapped (λ b. b.shelf.defs) old.attached m.attached in
        gone_from found.0 (state.Ended x) refl found.1 m.state_is stands (λ b k. k.branch) (seen_of new) drop.seen
    gone (inr (inr m)) = absurd (unprepared m.state_is)

    pub gone_stands : HasBranch x (store_told told (seen_of old)) → Standing told images new
    gone_stands (inl m) = drop.stands (inr (x, inl m.state_is))
    gone_stands (inr (inl m)) = drop.stands (inr (x, inr m.state_is))
    gone_stands (inr (inr m)) = absurd (unprepared m.state_is)
