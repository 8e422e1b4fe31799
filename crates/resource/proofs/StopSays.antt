-- A resource in memory as it is made, and as a stop leaves it.
use Rattle.std.proofs.Common.{◌≡◌, Bool, true, false, not, ◌||◌, ◌&&◌, ◌==◌, if◌then◌else◌, ℕ, List, [], Option, None, inl, inr, length, refl, sym, ap, subst}
use Rattle.vdb_model.specs.declared.source.Xid.{Xid}
use Rattle.vdb_model.specs.declared.table.TableDef.{TableDef}
use Rattle.vdb_model.specs.Deltas.{after_deltas}
use Rattle.vdb_model.specs.World.{is_world}
use Rattle.resource.specs.declared.mode.Mode.{Mode}
use Rattle.resource.specs.declared.mode.Mode.TheVariants as mode
use Rattle.resource.specs.declared.mode.Side.{Side}
use Rattle.resource.specs.declared.mode.Side.TheVariants.{Plain, Branched, Done}
use Rattle.resource.specs.Holding.{Holding, told_held, images_held, image_of, first_of, other_of, state_of, side_at, taking, stopping, is_unwritten}
use Rattle.resource.specs.MemResource.{IsStopped}
use Rattle.resource.specs.Needs.{MayCommit, HasBranch}
use Rattle.resource.specs.declared.resource.ResState.TheVariants as state
use Rattle.resource.specs.Single.{asks_one_table}
use Rattle.resource.proofs.ByName.{none_numbered}
use Rattle.resource.proofs.KeptWell.{Good, or_true, can_write, taking_good, plain_side}
use Rattle.resource.proofs.Moving.{plain_active, plain_ended}

-- without definitions, all that is kept well is what it can do
pub bare_good : (h : Holding) → h.defs ≡ None → asks_one_table h.caps ≡ true → (h.caps.writes || (is_unwritten h.mode && length h.deltas == 0)) ≡ true → Good h
bare_good h none one writes = subst (λ (o : Option (List TableDef)). Good (record h { defs = o })) (sym none) (record {
  one = one;
  fit = or_true (not h.caps.writes);
  kept_fits = refl;
  work_fits = ap (λ ds. is_world [] (after_deltas [] [] ds)) (none_numbered h.deltas);
  writes = writes;
})

-- the store's side, without what the calls had left
abbrev bare : Side → Holding → Holding
bare s h = record (taking s h) { defs = None; asked = []; reserved = false }

module _ (image : ℕ) (old : Holding) where
  stands : (b : Bool) (s : Side) → s ≡ (if b then first_of old.mode else other_of old.mode) → images_held old (image_of s old.kept old.deltas)
  stands true s e = inl (ap (λ s. image_of s old.kept old.deltas) e)
  stands false s e = inr (ap (λ s. image_of s old.kept old.deltas) e)

  with_side : (s : Side) → s ≡ side_at image old.mode → IsStopped image old (bare s old)
  with_side Plain e = record {
    caps = refl;
    calls = refl;
    unattached = (refl, refl, refl);
    settled = refl;
    first = ap (λ s. image_of s old.kept old.deltas) e;
    alone = refl;
    stood = stands (image == 0) Plain e;
  }
  with_side (Branched x) e = record {
    caps = refl;
    calls = refl;
    unattached = (refl, refl, refl);
    settled = refl;
    first = ap (λ s. image_of s old.kept old.deltas) e;
    alone = refl;
    stood = stands (image == 0) (Branched x) e;
  }
  with_side Done e = record {
    caps = refl;
    calls = refl;
    unattached = (refl, refl, refl);
    settled = refl;
    first = ap (λ s. image_of s old.kept old.deltas) e;
    alone = refl;
    stood = stands (image == 0) Done e;
  }

  pub stopped_is : (new : Holding) → new ≡ stopping image old → IsStopped image old new
  stopped_is new e = subst (IsStopped image old) (sym e) (with_side (side_at image old.mode) refl)

  pub stopped_good : (new : Holding) → Good old → new ≡ stopping image old → Good new
  stopped_good new g e =
      let t = taking_good (side_at image old.mode) old g (plain_side image old g) in
      subst Good (sym e) (bare_good (stopping image old) refl (caps_one (side_at image old.mode)) (writes_so (side_at image old.mode) t.writes))
    where
      caps_one : (s : Side) → asks_one_table (bare s old).caps ≡ true
      caps_one Plain = g.one
      caps_one (Branched x) = g.one
      caps_one Done = g.one

      writes_so : (s : Side) → ((taking s old).caps.writes || (is_unwritten (taking s old).mode && length (taking s old).deltas == 0)) ≡ true
          → ((bare s old).caps.writes || (is_unwritten (bare s old).mode && length (bare s old).deltas == 0)) ≡ true
      writes_so s h = h

-- a branch that may be committed or rolled back is there only with the capability of writes
prepared_written : (m : Mode) (x : Xid) → state_of m ≡ state.Prepared x → is_unwritten m ≡ false
prepared_written mode.Idle x e = cc
prepared_written (mode.Active y) x e = cc
prepared_written (mode.Ended y) x e = cc
prepared_written (mode.Prepared y) x e = refl
prepared_written (mode.Lost first other) x e = cc

pub commit_writes : (x : Xid) (one_phase : Bool) (h : Holding) → Good h → MayCommit x one_phase (told_held h) → h.caps.writes ≡ true
commit_writes x false h g may = can_write h g (prepared_written h.mode x may.state_is)
commit_writes x true h g may = can_write h g (plain_ended h.mode x may.0.state_is).1

pub branch_writes : (x : Xid) (h : Holding) → Good h → HasBranch x (told_held h) → h.caps.writes ≡ true
branch_writes x h g (inl may) = can_write h g (plain_active h.mode x may.state_is).1
branch_writes x h g (inr (inl may)) = can_write h g (plain_ended h.mode x may.state_is).1
branch_writes x h g (inr (inr may)) = can_write h g (prepared_written h.mode x may.state_is)
