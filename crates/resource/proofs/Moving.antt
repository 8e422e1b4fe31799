-- Calls that only move the state: start and end.
use Rattle.std.proofs.Common.{◌≡◌, ◌∙◌, Bool, true, false, Some, Result, Ok, Err, refl, sym, ap, subst}
use Rattle.std.specs.Prelude.{is_err}
use Rattle.vdb_model.specs.declared.source.Xid.{Xid}
use Rattle.resource.specs.declared.mode.Mode.{Mode}
use Rattle.resource.specs.declared.mode.Mode.TheVariants as mode
use Rattle.resource.specs.declared.mode.Side.{Side}
use Rattle.resource.specs.declared.mode.Side.TheVariants.{Plain}
use Rattle.resource.specs.declared.resource.ResState.TheVariants as state
use Rattle.resource.specs.Holding.{Holding, told_held, images_held, first_image, other_image, image_of, first_of, other_of, state_of, called, losing, is_unwritten}
use Rattle.resource.specs.Images.{Same}
use Rattle.resource.specs.Leaves.{Moves}
use Rattle.resource.specs.MemResource.{CallsByList}
use Rattle.resource.specs.Steps.{Steps, starting, ending}
use Rattle.resource.proofs.KeptWell.{Good, writing, starting_good, ending_good, losing_good}
use Rattle.resource.proofs.Tells.{by_list, same_images, fails}

-- a mode whose store has no branch
pub record IsPlain (m : Mode) : Type 0 where
  pub first : first_of m ≡ Plain
  pub other : other_of m ≡ Plain

pub plain_idle : (m : Mode) → state_of m ≡ state.Idle → IsPlain m
plain_idle mode.Idle e = record { first = refl; other = refl }
plain_idle (mode.Active x) e = cc
plain_idle (mode.Ended x) e = cc
plain_idle (mode.Prepared x) e = cc
plain_idle (mode.Lost first other) e = cc

pub plain_active : (m : Mode) (x : Xid) → state_of m ≡ state.Active x → IsPlain m × (is_unwritten m ≡ false)
plain_active mode.Idle x e = cc
plain_active (mode.Active y) x e = (record { first = refl; other = refl }, refl)
plain_active (mode.Ended y) x e = cc
plain_active (mode.Prepared y) x e = cc
plain_active (mode.Lost first other) x e = cc

pub plain_ended : (m : Mode) (x : Xid) → state_of m ≡ state.Ended x → IsPlain m × (is_unwritten m ≡ false)
plain_ended mode.Idle x e = cc
plain_ended (mode.Active y) x e = cc
plain_ended (mode.Ended y) x e = (record { first = refl; other = refl }, refl)
plain_ended (mode.Prepared y) x e = cc
plain_ended (mode.Lost first other) x e = cc

pub called_good : (b : Bool) (h : Holding) → Good h → Good (called b h)
called_good b h g = record { one = g.one; fit = g.fit; kept_fits = g.kept_fits; work_fits = g.work_fits; writes = g.writes }

pub steps_by_list : {T F : Type 0} (next : Holding → Holding) (other : Side) (old new : Holding) (r : Result T F) → (next (called false old)).calls ≡ (called false old).calls
    → Steps next other old new r → CallsByList old.calls new.calls (is_err r)
steps_by_list next other old new (Ok done) e h = by_list old.calls new.calls false h.0 (ap (λ (n : Holding). n.calls) h.1 ∙ e)
steps_by_list next other old new (Err failed) e h = by_list old.calls new.calls true h.listed (ap (λ (n : Holding). n.calls) h.next_is)

pub steps_good : {T F : Type 0} (next : Holding → Holding) (other : Side) (old new : Holding) (r : Result T F) → Good (next (called false old)) → Good (losing other (called true old))
    → Steps next other old new r → Good new
steps_good next other old new (Ok done) a b h = subst Good (sym h.1) a
steps_good next other old new (Err failed) a b h = subst Good (sym h.next_is) b

-- what a step leaves that moves a plain store's mode to this one
module _ {T F : Type 0} (m : Mode) (old new : Holding) (r : Result T F) (from : IsPlain old.mode) (to : IsPlain m) (h : Steps (λ k. record k { mode = m }) Plain old new r) where
  abbrev next : Holding
  next = record (called false old) { mode = m }

  first_stays : first_image next ≡ first_image old
  first_stays = ap (λ side. image_of side old.kept old.deltas) (to.first ∙ sym from.first)

  other_stays : other_image next ≡ other_image old
  other_stays = ap (λ side. image_of side old.kept old.deltas) (to.other ∙ sym from.other)

  pub moved : Moves (state_of m) (told_held old) (told_held new) (images_held new) r
  moved = here r h
    where
      here : (r : Result T F) → Steps (λ k. record k { mode = m }) Plain old new r → Moves (state_of m) (told_held old) (told_held new) (images_held new) r
      here (Ok done) h = ap told_held h.1 ∙ ap (λ i. record (told_held old) { state = state_of m; reads = Some i }) first_stays
      here (Err failed) h = fails Plain old new h

  pub moved_images : Same (images_held old) (images_held new)
  moved_images = here r h
    where
      lost_other : image_of Plain old.kept old.deltas ≡ other_image old
      lost_other = ap (λ side. image_of side old.kept old.deltas) (sym from.other)

      here : (r : Result T F) → Steps (λ k. record k { mode = m }) Plain old new r → Same (images_held old) (images_held new)
      here (Ok done) h = same_images old new (ap first_image h.1 ∙ first_stays) (ap other_image h.1 ∙ other_stays)
      here (Err failed) h = same_images old new (ap first_image h.next_is) (ap other_image h.next_is ∙ lost_other)

pub started_good : {T F : Type 0} (x : Xid) (old new : Holding) (r : Result T F) → Good old → old.caps.writes ≡ true → Steps (starting x) Plain old new r → Good new
started_good x old new r g w h =
    steps_good (starting x) Plain old new r (starting_good x (called false old) (called_good false old g) w) (losing_good Plain (called true old) (called_good true old g) (writing old.caps.writes true w)) h

pub ended_good : {T F : Type 0} (x : Xid) (old new : Holding) (r : Result T F) → Good old → old.caps.writes ≡ true → Steps (ending x) Plain old new r → Good new
ended_good x old new r g w h =
    steps_good (ending x) Plain old new r (ending_good x (called false old) (called_good false old g) w) (losing_good Plain (called true old) (called_good true old g) (writing old.caps.writes true w)) h
