-- What the calls of a journaled store leave that end a branch.
use Rattle.std.proofs.Common.{◌≡◌, ℕ, true, false, List, [], ◌∷◌, ◌++◌, Option, Some, None, option_map, is_some, IfSome, MatchOption, Vec, Global, refl, sym, ap, subst, ◌∙◌, arith}
use Rattle.vdb_model.specs.Rows.{Cells}
use Rattle.gate_log.specs.Disk.{DiskTold}
use Rattle.gate_log.specs.Log.{left_of}
use Rattle.resource.specs.declared.resource.ResState.{ResState}
use Rattle.resource.specs.declared.resource.ResState.TheVariants as state
use Rattle.resource.specs.Images.{Only, Or}
use Rattle.resource.specs.Leaves.{Stores, Fails}
use Rattle.resource.specs.Reading.{Reading, Sound}
use Rattle.resource.specs.Told.{Told, Contents, Lowers, defs_in, is_lost}
use Rattle.mem_store.specs.declared.attached.Attached.{Attached}
use Rattle.mem_store.specs.declared.inner.Inner.{Inner}
use Rattle.mem_store.specs.Appends.{HasAppended, HasFailed}
use Rattle.mem_store.specs.Attaching.{AttachedHas}
use Rattle.store_replay.specs.Replay.{room_behind}
use Rattle.mem_store.specs.Standing.{all_take, Works, IsAttached, Stays, Standing}
use Rattle.mem_store.specs.Store.{store_told, store_images, seen_of}
use Rattle.mem_store.specs.Writing.{one_more, EndsBranch, Keeps, TakesBack}
use Rattle.mem_store.proofs.NextRecords.{contents_are, content_ends, kept_told}
use Rattle.mem_store.proofs.EndingSteps.{HasTables, IsKnown, was, wrote_says, failed_says, quiet_stands, quiet_stores, quiet_only}
use Rattle.mem_store.proofs.RecordSteps.{HasEnding, Leaves}

-- ---- the end of a branch in memory

pub keeps_so : {D : Type 0} (old : Inner D) (a after : Attached) (at : old.attached ≡ Some a) → Keeps old (record old { attached = Some after }) a → MatchOption old.attached (record old { attached = Some after } ≡ old) (Keeps old (record old { attached = Some after }))
keeps_so old a after at so = subst (λ o. MatchOption o (record old { attached = Some after } ≡ old) (Keeps old (record old { attached = Some after }))) (sym at) so

pub takes_back_so : {D : Type 0} (old : Inner D) (a after : Attached) (at : old.attached ≡ Some a) → TakesBack old (record old { attached = Some after }) a → MatchOption old.attached (record old { attached = Some after } ≡ old) (TakesBack old (record old { attached = Some after }))
takes_back_so old a after at so = subst (λ o. MatchOption o (record old { attached = Some after } ≡ old) (TakesBack old (record old { attached = Some after }))) (sym at) so

pub some_mapped : {A B : Type 0} (f : A → B) (o : Option A) → is_some (option_map f o) ≡ true → (x : A) × (o ≡ Some x)
some_mapped f None e = cc
some_mapped f (Some x) e = (x, refl)

none_mapped : {A B : Type 0} (f : A → B) (o : Option A) → option_map f o ≡ None → is_some o ≡ false
none_mapped f None e = refl
none_mapped f (Some x) e = ap is_some e

pub works_of : (s : ResState) (n end left : ℕ) (reserved : Option (List ℕ)) (a : Attached) (t : DiskTold) (now : List ℕ → Type 0) → is_lost s ≡ false → Stays s n end left reserved a t now → Works s n end left reserved a t now
works_of state.Idle n end left reserved a t now here w = w
works_of (state.Active x) n end left reserved a t now here w = w
works_of (state.Ended x) n end left reserved a t now here w = w
works_of (state.Prepared x) n end left reserved a t now here w = w
works_of state.Lost n end left reserved a t now here w = cc

module _ {D : Type 0} (told : D → DiskTold) (images : D → List ℕ → Type 0) (old : Inner D) (a : Attached) (s : ResState) (here : is_lost s ≡ false) (at : old.attached ≡ Some a) (in_state : old.state ≡ s) (stands : Standing told images old) where
  -- the store as it was, with its state and its tables written out
  pub is_was : old ≡ was told images old s here a
  is_was = ap (λ o. record old { attached = o }) at ∙ ap (λ st. record old { attached = Some a; state = st }) in_state

  pub attached : IsAttached s old.records old.log.end (left_of old.log) (option_map (λ frame. frame.items) old.reserved) (told old.log.disk) (images old.log.disk) a
  attached =
      subst (λ st. IsAttached st old.records old.log.end (left_of old.log) (option_map (λ frame. frame.items) old.reserved) (told old.log.disk) (images old.log.disk) a) in_state
      (subst (λ o. IfSome o (IsAttached old.state old.records old.log.end (left_of old.log) (option_map (λ frame. frame.items) old.reserved) (told old.log.disk) (images old.log.disk))) at stands.attached)

  abbrev pub works : Works s old.records old.log.end (left_of old.log) (option_map (λ frame. frame.items) old.reserved) a (told old.log.disk) (images old.log.disk)
  works = works_of s old.records old.log.end (left_of old.log) (option_map (λ frame. frame.items) old.reserved) a (told old.log.disk) (images old.log.disk) here attached.stays

  abbrev t_was : Told
  t_was = store_told told (seen_of (was told images old s here a))

  abbrev was_contents : Contents
  was_contents = record { kept = works.kept; deltas = a.deltas.items }

  module _ (turn : Told → Contents → Contents) (reading : Told → Contents → Reading) where
    -- all that the end of a branch says
    abbrev pub SaysEnd : Inner D → Inner D → Type 0
    SaysEnd before after =
        Stores (record (store_told told (seen_of before)) { state = state.Idle; reserved = false; spare = (store_told told (seen_of after)).spare; contents = option_map (turn (store_told told (seen_of before))) (store_told told (seen_of before)).contents })
        (store_told told (seen_of after)) (store_images told images (seen_of after))
        × Lowers (store_told told (seen_of before)).spare (store_told told (seen_of after)).spare
        × IfSome (store_told told (seen_of before)).contents (λ c. Only (defs_in (store_told told (seen_of before))) (reading (store_told told (seen_of before)) c) (store_images told images (seen_of after)))
        × Standing told images after

    -- and where it failed
    abbrev pub SaysLost : Inner D → Inner D → Type 0
    SaysLost before after =
        Fails (record (store_told told (seen_of before)) { state = state.Lost; reserved = false; spare = (store_told told (seen_of after)).spare }) (store_told told (seen_of after)) (store_images told images (seen_of after))
        × Lowers (store_told told (seen_of before)).spare (store_told told (seen_of after)).spare
        × IfSome (store_told told (seen_of before)).contents (λ c. Or (defs_in (store_told told (seen_of before))) (reading (store_told told (seen_of before)) c) (store_images told images (seen_of before)) (store_images told images (seen_of after)))
        × Standing told images after

    module _ (ends : Attached → List (List Cells) → List (List Cells)) (turns : turn t_was was_contents ≡ record { kept = ends a works.kept; deltas = [] }) (reads : reading t_was was_contents ≡ Sound (ends a works.kept) None)
        (reserved : Option (Vec ℕ Global)) (unreserved : option_map (λ frame. frame.items) reserved ≡ None) (written : Inner D) where
      turned : option_map (λ bytes. record { kept = ends a works.kept; deltas = [] }) (told old.log.disk).bytes ≡ option_map (turn t_was) t_was.contents
      turned =
          sym (ap (option_map (turn t_was)) (contents_are old.records a.shelf.defs works.kept a.deltas.items (told old.log.disk).bytes (kept_told s old.records old.log.end a.shelf.defs works.kept a.deltas.items (images old.log.disk) (told old.log.disk).bytes works.knows))
          ∙ content_ends (turn t_was) was_contents (record { kept = ends a works.kept; deltas = [] }) (told old.log.disk).bytes turns)

      module _ (p : List ℕ)
          (room : (bytes : List ℕ) (k : IsKnown told images old s here a works.kept bytes) → HasEnding s (room_behind k.payloads))
          (next : (bytes : List ℕ) (k : IsKnown told images old s here a works.kept bytes) → Leaves state.Idle a.shelf.defs (ends a works.kept) [] (k.payloads ++ p ∷ [])) where
        -- a record was added, and the branch is gone
        pub finish_writes : (size : ℕ) (new : Inner D) → all_take a.shelf.defs (ends a works.kept) ≡ true → HasAppended told images p size old.log written.log → written ≡ record old { log = written.log; records = one_more old.records; state = state.Idle; reserved = reserved }
            → MatchOption written.attached (new ≡ written) (λ b. EndsBranch (ends b) written new b) → SaysEnd old new
        finish_writes size new take h is branch =
            subst (λ before. SaysEnd before new) (sym is_was)
            (subst (λ after. SaysEnd (was told images old s here a) after) (sym (end.is ∙ ap (λ (w : Inner D). record w { attached = Some end.after }) is))
            (wrote_says told images old s here a stands.own works.kept works.knows written.log reserved (none_mapped (λ frame. frame.items) reserved unreserved) state.Idle refl end.after (ends a works.kept) [] p size room next h tables _ (reading t_was) turned reads))
          where
            end : EndsBranch (ends a) written new a
            end = subst (λ o. MatchOption o (new ≡ written) (λ b. EndsBranch (ends b) written new b)) (ap (λ (w : Inner D). w.attached) is ∙ at) branch

            tables : HasTables state.Idle (left_of written.log) (option_map (λ frame. frame.items) reserved) a.shelf.defs (ends a works.kept) [] end.after
            tables = record {
              defs_are = end.ended.defs;
              deltas_are = end.ended.deltas;
              apart = attached.apart;
              has = end.ended.has works.kept works.has;
              kept_take = take;
              seen_take = take;
              branch = (unreserved, end.ended.deltas, end.ended.written);
            }

        -- the disk failed
        pub finish_fails : HasFailed told images p old.log written.log → written ≡ record old { log = written.log; state = state.Lost; reserved = reserved } → SaysLost old written
        finish_fails h is =
            subst (λ before. SaysLost before written) (sym is_was)
            (subst (λ after. SaysLost (was told images old s here a) after) (sym (is ∙ ap (λ o. record old { log = written.log; attached = o; state = state.Lost; reserved = reserved }) at))
            (failed_says told images old s here a stands.own works.kept works.knows written.log reserved (none_mapped (λ frame. frame.items) reserved unreserved) state.Idle refl (ends a works.kept) [] p attached.apart room next h (reading t_was) reads))

      -- nothing was written, and the branch is gone
      pub finish_quiet : (new : Inner D) → ends a works.kept ≡ works.kept → ((bytes : List ℕ) (k : IsKnown told images old s here a works.kept bytes) → k.r.branch ≡ None) → written ≡ record old { state = state.Idle; reserved = reserved }
          → MatchOption written.attached (new ≡ written) (λ b. EndsBranch (ends b) written new b) → SaysEnd old new
      finish_quiet new same none is branch =
          subst (λ before. SaysEnd before new) (sym is_was)
          (subst (λ after. SaysEnd (was told images old s here a) after) (sym (end.is ∙ ap (λ (w : Inner D). record w { attached = Some end.after }) is)) (
            quiet_stores told images old s here a stands.own works.kept works.knows reserved (none_mapped (λ frame. frame.items) reserved unreserved) end.after none tables _
                (ap (λ rows. option_map (λ bytes. record { kept = rows; deltas = [] }) (told old.log.disk).bytes) (sym same) ∙ turned),
            omega arith,
            quiet_only told images old s here a stands.own works.kept works.knows reserved (none_mapped (λ frame. frame.items) reserved unreserved) end.after none tables (reading t_was) (reads ∙ ap (λ rows. Sound rows None) same),
            quiet_stands told images old s here a stands.own works.kept works.knows reserved (none_mapped (λ frame. frame.items) reserved unreserved) end.after none tables,
          ))
        where
          end : EndsBranch (ends a) written new a
          end = subst (λ o. MatchOption o (new ≡ written) (λ b. EndsBranch (ends b) written new b)) (ap (λ (w : Inner D). w.attached) is ∙ at) branch

          tables : HasTables state.Idle (left_of old.log) (option_map (λ frame. frame.items) reserved) a.shelf.defs works.kept [] end.after
          tables = record {
            defs_are = end.ended.defs;
            deltas_are = end.ended.deltas;
            apart = attached.apart;
            has = subst (λ rows. AttachedHas rows end.after) same (end.ended.has works.kept works.has);
            kept_take = works.kept_take;
            seen_take = works.kept_take;
            branch = (unreserved, end.ended.deltas, end.ended.written);
          }
