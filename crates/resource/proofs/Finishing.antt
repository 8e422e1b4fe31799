-- Calls that prepare or end a branch.
use Rattle.std.proofs.Common.{◌≡◌, ◌∙◌, true, false, [], Option, Some, Result, Ok, Err, inl, inr, refl, sym, ap, subst}
use Rattle.std.specs.Prelude.{is_err, OnOk}
use Rattle.vdb_model.specs.declared.source.Xid.{Xid}
use Rattle.resource.specs.declared.mode.Mode.{Mode}
use Rattle.resource.specs.declared.mode.Mode.TheVariants as mode
use Rattle.resource.specs.declared.mode.Side.{Side}
use Rattle.resource.specs.declared.mode.Side.TheVariants.{Plain, Branched, Done}
use Rattle.resource.specs.declared.resource.ResFault.{ResFault}
use Rattle.resource.specs.declared.resource.ResFault.TheVariants as fault
use Rattle.resource.specs.declared.resource.ResState.TheVariants as state
use Rattle.resource.specs.declared.resource.Vote.{Vote}
use Rattle.resource.specs.declared.resource.Vote.TheVariants as vote
use Rattle.resource.specs.Failing.{res_failed}
use Rattle.resource.specs.Holding.{Holding, defs_held, contents_held, told_held, images_held, first_image, other_image, image_of, first_of, other_of, state_of, called, losing, taking, is_plain_side}
use Rattle.resource.specs.Images.{Same, Fewer, Only, Or, plain, branched, done}
use Rattle.resource.specs.Leaves.{Stores, Prepares, PrepareStops, Finishes, CommitStops, RollbackStops, DropFails, Reopens, Reopened, Recovers, committed, reverted}
use Rattle.resource.specs.MemResource.{CallsByList}
use Rattle.resource.specs.Needs.{HasBranch}
use Rattle.resource.specs.Reading.{Reading}
use Rattle.resource.specs.Steps.{Steps, PreparesTo, ReopensTo, RecoversTo, unreserved}
use Rattle.resource.specs.Stored.{numbered}
use Rattle.resource.specs.Told.{Told, Contents, is_lost, is_settled, prepared_in}
use Rattle.resource.proofs.KeptWell.{Good, worked_well, writing, taking_good, losing_good, unreserved_good, plain_side}
use Rattle.resource.proofs.Moving.{IsPlain, called_good, steps_by_list, steps_good}
use Rattle.resource.proofs.ReadsAs.{plain_image, branched_image, done_image, only_held, taken_image, taken_alone, taken_reads}
use Rattle.resource.proofs.Tells.{by_list, same_images, fewer_images, or_images, faulted, fails}

-- what a store with this side reads as
abbrev pub ends_reading : Side → Holding → Contents → Reading
ends_reading Plain h c = plain c
ends_reading (Branched x) h c = branched x c
ends_reading Done h c = done (defs_held h) c

side_reads : (side : Side) (h : Holding) → Good h → image_of side h.kept h.deltas (defs_held h) ≡ ends_reading side h (contents_held h)
side_reads Plain h g = plain_image h g
side_reads (Branched x) h g = branched_image x h g
side_reads Done h g = done_image h g

taken_only : (side : Side) (h new : Holding) → Good h → new ≡ taking side h → Only (defs_held h) (ends_reading side h (contents_held h)) (images_held new)
taken_only side h new g e =
    subst (λ (n : Holding). Only (defs_held h) (ends_reading side h (contents_held h)) (images_held n)) (sym e)
    (only_held (taking side h) (defs_held h) (ends_reading side h (contents_held h)) (taken_alone side h) (ap (λ i. i (defs_held h)) (taken_image side h) ∙ side_reads side h g))

lost_or : (side : Side) (h new : Holding) → Good h → new ≡ losing side (called true h) → Or (defs_held h) (ends_reading side h (contents_held h)) (images_held h) (images_held new)
lost_or side h new g e =
    or_images h new (defs_held h) (ends_reading side h (contents_held h)) (ap first_image e) (ap (λ (n : Holding). other_image n (defs_held h)) e ∙ side_reads side h g)

module _ (x : Xid) (old new : Holding) (r : Result Vote ResFault) (g : Good old) (from : IsPlain old.mode) (h : PreparesTo x (unreserved old) new r) where
  pub prepared : Prepares x (told_held old) (told_held new) (images_held new) r
  prepared = here r h
    where
      none : old.deltas ≡ [] → told_held (taking Plain (called false (unreserved old))) ≡ record (told_held old) { state = state.Idle; reserved = false }
      none e =
          ap (λ ds. record (told_held old) { state = state.Idle; reserved = false; reads = Some (image_of Plain old.kept old.deltas); contents = Some (record (contents_held old) { deltas = numbered (defs_held old) ds }) }) (sym e)
          ∙ ap (λ side. record (told_held old) { state = state.Idle; reserved = false; reads = Some (image_of side old.kept old.deltas) }) (sym from.first)

      here : (r : Result Vote ResFault) → PreparesTo x (unreserved old) new r → Prepares x (told_held old) (told_held new) (images_held new) r
      here (Ok vote.Ready) h =
          subst (λ (n : Holding). Prepares x (told_held old) (told_held n) (images_held n) (Ok vote.Ready)) (sym h.1) (record { same = refl; tells = refl; reads = inl refl })
      here (Ok vote.ReadOnly) h = (ap told_held h.1 ∙ none h.2, ap (numbered (defs_held old)) h.2)
      here (Err fault.Failed) h = fails (Branched x) (unreserved old) new h
      here (Err fault.Memory) h = absurd h

  pub prepare_stops : PrepareStops x (told_held old) (images_held old) (images_held new) r
  prepare_stops = here r h
    where
      u : Good (unreserved old)
      u = unreserved_good old g

      here : (r : Result Vote ResFault) → PreparesTo x (unreserved old) new r → PrepareStops x (told_held old) (images_held old) (images_held new) r
      here (Ok vote.Ready) h = taken_only (Branched x) (called false (unreserved old)) new (called_good false (unreserved old) u) h.1
      here (Ok vote.ReadOnly) h = taken_only Plain (called false (unreserved old)) new (called_good false (unreserved old) u) h.1
      here (Err fault.Failed) h = lost_or (Branched x) (unreserved old) new u h.next_is
      here (Err fault.Memory) h = absurd h

  pub prepare_by_list : CallsByList old.calls new.calls (res_failed r)
  prepare_by_list = here r h
    where
      here : (r : Result Vote ResFault) → PreparesTo x (unreserved old) new r → CallsByList old.calls new.calls (res_failed r)
      here (Ok vote.Ready) h = by_list old.calls new.calls false h.0 (ap (λ (n : Holding). n.calls) h.1)
      here (Ok vote.ReadOnly) h = by_list old.calls new.calls false h.0 (ap (λ (n : Holding). n.calls) h.1)
      here (Err fault.Failed) h = by_list old.calls new.calls true h.listed (ap (λ (n : Holding). n.calls) h.next_is)
      here (Err fault.Memory) h = absurd h

  pub prepare_good : old.caps.writes ≡ true → Good new
  prepare_good w = here r h
    where
      u : Good (unreserved old)
      u = unreserved_good old g

      here : (r : Result Vote ResFault) → PreparesTo x (unreserved old) new r → Good new
      here (Ok vote.Ready) h = subst Good (sym h.1) (taking_good (Branched x) (called false (unreserved old)) (called_good false (unreserved old) u) (writing old.caps.writes false w))
      here (Ok vote.ReadOnly) h = subst Good (sym h.1) (taking_good Plain (called false (unreserved old)) (called_good false (unreserved old) u) (writing old.caps.writes true w))
      here (Err fault.Failed) h = subst Good (sym h.next_is) (losing_good (Branched x) (called true (unreserved old)) (called_good true (unreserved old) u) (writing old.caps.writes false w))
      here (Err fault.Memory) h = absurd h

-- a resource with a branch isn't lost
has_branch_here : (x : Xid) (t : Told) → HasBranch x t → is_lost t.state ≡ false
has_branch_here x t (inl may) = ap is_lost may.state_is
has_branch_here x t (inr (inl may)) = ap is_lost may.state_is
has_branch_here x t (inr (inr may)) = ap is_lost may.state_is

pub taking_calls : (side : Side) (h : Holding) → (taking side h).calls ≡ h.calls
taking_calls Plain h = refl
taking_calls (Branched x) h = refl
taking_calls Done h = refl

module _ {T F : Type 0} (old new : Holding) (r : Result T F) (g : Good old) where
  u : Good (unreserved old)
  u = unreserved_good old g

  pub committed_to : Steps (taking Done) Done (unreserved old) new r → Finishes (committed (defs_held old)) (told_held old) (told_held new) (images_held new) r
  committed_to h = here r h
    where
      here : (r : Result T F) → Steps (taking Done) Done (unreserved old) new r → Finishes (committed (defs_held old)) (told_held old) (told_held new) (images_held new) r
      here (Ok done) h =
          subst (λ (n : Holding). Stores (record (told_held old) { state = state.Idle; reserved = false; contents = Some (committed (defs_held old) (contents_held old)) }) (told_held n) (images_held n)) (sym h.1)
          (record {
            same = ap (λ tables. record (told_held (taking Done (called false (unreserved old)))) { contents = Some (record { kept = tables; deltas = [] }) }) (worked_well old g);
            tells = refl;
            reads = inl refl;
          })
      here (Err failed) h = fails Done (unreserved old) new h

  pub commit_stops : Steps (taking Done) Done (unreserved old) new r → CommitStops (told_held old) (images_held old) (images_held new) r
  commit_stops h = here r h
    where
      here : (r : Result T F) → Steps (taking Done) Done (unreserved old) new r → CommitStops (told_held old) (images_held old) (images_held new) r
      here (Ok done) h = taken_only Done (called false (unreserved old)) new (called_good false (unreserved old) u) h.1
      here (Err failed) h = lost_or Done (unreserved old) new u h.next_is

  pub reverted_to : Steps (taking Plain) Plain (unreserved old) new r → Finishes reverted (told_held old) (told_held new) (images_held new) r
  reverted_to h = here r h
    where
      here : (r : Result T F) → Steps (taking Plain) Plain (unreserved old) new r → Finishes reverted (told_held old) (told_held new) (images_held new) r
      here (Ok done) h =
          subst (λ (n : Holding). Stores (record (told_held old) { state = state.Idle; reserved = false; contents = Some (reverted (contents_held old)) }) (told_held n) (images_held n)) (sym h.1) (record { same = refl; tells = refl; reads = inl refl })
      here (Err failed) h = fails Plain (unreserved old) new h

  -- a failed rollback leaves the images of a store that has no prepared branch
  lost_same : IsPlain old.mode → new ≡ losing Plain (called true (unreserved old)) → Same (images_held old) (images_held new)
  lost_same from e = same_images old new (ap first_image e) (ap other_image e ∙ ap (λ side. image_of side old.kept old.deltas) (sym from.other))

  drop_fails : (m : Mode) → old.mode ≡ m → is_lost (state_of m) ≡ false → new ≡ losing Plain (called true (unreserved old)) → DropFails (prepared_in (state_of m)) (told_held old) (images_held old) (images_held new)
  drop_fails mode.Idle is here e = lost_same (subst IsPlain (sym is) (record { first = refl; other = refl })) e
  drop_fails (mode.Active x) is here e = lost_same (subst IsPlain (sym is) (record { first = refl; other = refl })) e
  drop_fails (mode.Ended x) is here e = lost_same (subst IsPlain (sym is) (record { first = refl; other = refl })) e
  drop_fails (mode.Prepared x) is here e = lost_or Plain (unreserved old) new u e
  drop_fails (mode.Lost first other) is here e = cc

  pub rollback_stops : (x : Xid) → HasBranch x (told_held old) → Steps (taking Plain) Plain (unreserved old) new r → RollbackStops (told_held old) (images_held old) (images_held new) r
  rollback_stops x may h = here r h
    where
      here : (r : Result T F) → Steps (taking Plain) Plain (unreserved old) new r → RollbackStops (told_held old) (images_held old) (images_held new) r
      here (Ok done) h = taken_only Plain (called false (unreserved old)) new (called_good false (unreserved old) u) h.1
      here (Err failed) h = drop_fails old.mode refl (has_branch_here x (told_held old) may) h.next_is

  pub finish_by_list : (side : Side) → Steps (taking side) side (unreserved old) new r → CallsByList old.calls new.calls (is_err r)
  finish_by_list side h = steps_by_list (taking side) side (unreserved old) new r (taking_calls side (called false (unreserved old))) h

  pub finish_good : (side : Side) → old.caps.writes ≡ true → Steps (taking side) side (unreserved old) new r → Good new
  finish_good side w h =
      steps_good (taking side) side (unreserved old) new r
      (taking_good side (called false (unreserved old)) (called_good false (unreserved old) u) (writing old.caps.writes (is_plain_side side) w))
      (losing_good side (called true (unreserved old)) (called_good true (unreserved old) u) (writing old.caps.writes (is_plain_side side) w)) h

module _ {F : Type 0} (old new : Holding) where
  pub recovered : (r : Result (Option Xid) F) → RecoversTo old new r → Recovers (told_held old) (told_held new) r
  recovered (Ok found) h = (h.2, ap told_held h.1)
  recovered (Err failed) h = faulted old new h

  pub recover_images : (r : Result (Option Xid) F) → RecoversTo old new r → Same (images_held old) (images_held new)
  recover_images (Ok found) h = same_images old new (ap first_image h.1) (ap other_image h.1)
  recover_images (Err failed) h = same_images old new (ap first_image h.next_is) (ap other_image h.next_is)

  pub recover_by_list : (r : Result (Option Xid) F) → RecoversTo old new r → CallsByList old.calls new.calls (is_err r)
  recover_by_list (Ok found) h = by_list old.calls new.calls false h.0 (ap (λ (n : Holding). n.calls) h.1)
  recover_by_list (Err failed) h = by_list old.calls new.calls true h.listed (ap (λ (n : Holding). n.calls) h.next_is)

  pub recover_good : (r : Result (Option Xid) F) → Good old → RecoversTo old new r → Good new
  recover_good (Ok found) g h = subst Good (sym h.1) (called_good false old g)
  recover_good (Err failed) g h = subst Good (sym h.next_is) (called_good true old g)

pub taken_settled : (side : Side) (h : Holding) → is_settled (state_of (taking side h).mode) ≡ true
taken_settled Plain h = refl
taken_settled (Branched x) h = refl
taken_settled Done h = refl

-- a side of the store is one of its images
module _ (old : Holding) (g : Good old) where
  ug : Good (called false (unreserved old))
  ug = called_good false (unreserved old) (unreserved_good old g)

  -- what a reopening leaves that has read a side
  read_again : (side : Side) → Good (taking side (called false (unreserved old))) → Reopened (told_held old) (told_held (taking side (called false (unreserved old)))) (images_held (taking side (called false (unreserved old))))
  read_again Plain k = (record { same = refl; tells = refl; reads = inl refl }, refl, (first_image (taking Plain (called false (unreserved old))) (defs_held old), taken_reads Plain (called false (unreserved old)) k))
  read_again (Branched x) k = (record { same = refl; tells = refl; reads = inl refl }, refl, (first_image (taking (Branched x) (called false (unreserved old))) (defs_held old), taken_reads (Branched x) (called false (unreserved old)) k))
  read_again Done k = (record { same = refl; tells = refl; reads = inl refl }, refl, (first_image (taking Done (called false (unreserved old))) (defs_held old), taken_reads Done (called false (unreserved old)) k))

module _ {T : Type 0} (old new : Holding) (g : Good old) where
  pub reopened : (r : Result T ResFault) → ReopensTo (unreserved old) new r → Reopens (told_held old) (told_held new) (images_held new) r
  reopened (Ok done) h =
      subst (λ (n : Holding). Reopened (told_held old) (told_held n) (images_held n)) (sym h.1) (read_again old g (first_of old.mode) (taking_good (first_of old.mode) (called false (unreserved old)) (ug old g) (plain_side 0 old g)))
  reopened (Err fault.Failed) h = fails (other_of old.mode) (unreserved old) new h
  reopened (Err fault.Memory) h = absurd h

  pub reopen_settled : (r : Result T ResFault) → ReopensTo (unreserved old) new r → OnOk r (is_settled (state_of new.mode) ≡ true)
  reopen_settled (Ok done) h = ap (λ (n : Holding). is_settled (state_of n.mode)) h.1 ∙ taken_settled (first_of old.mode) (called false (unreserved old))
  reopen_settled (Err f) h = tt

  pub reopen_images : (r : Result T ResFault) → ReopensTo (unreserved old) new r → Fewer (images_held old) (images_held new)
  reopen_images (Ok done) h =
      let side = first_of old.mode in
      let k = called false (unreserved old) in
      let first : first_image new ≡ first_image old = ap first_image h.1 ∙ taken_image side k in
      let other : other_image new ≡ first_image old = ap other_image h.1 ∙ taken_alone side k ∙ taken_image side k in
      fewer_images old new (inl first) (inl other)
  reopen_images (Err fault.Failed) h = fewer_images old new (inl (ap first_image h.next_is)) (inr (ap other_image h.next_is))
  reopen_images (Err fault.Memory) h = absurd h

  pub reopen_by_list : (r : Result T ResFault) → ReopensTo (unreserved old) new r → CallsByList old.calls new.calls (res_failed r)
  reopen_by_list (Ok done) h = by_list old.calls new.calls false h.0 (ap (λ (n : Holding). n.calls) h.1 ∙ taking_calls (first_of old.mode) (called false (unreserved old)))
  reopen_by_list (Err fault.Failed) h = by_list old.calls new.calls true h.listed (ap (λ (n : Holding). n.calls) h.next_is)
  reopen_by_list (Err fault.Memory) h = absurd h

  pub reopen_good : (r : Result T ResFault) → ReopensTo (unreserved old) new r → Good new
  reopen_good (Ok done) h = subst Good (sym h.1) (taking_good (first_of old.mode) (called false (unreserved old)) (ug old g) (plain_side 0 old g))
  reopen_good (Err fault.Failed) h = subst Good (sym h.next_is) (losing_good (other_of old.mode) (called true (unreserved old)) (called_good true (unreserved old) (unreserved_good old g)) (plain_side 1 old g))
  reopen_good (Err fault.Memory) h = absurd h
