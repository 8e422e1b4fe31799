-- What steps leave of what a resource in memory tells, and of its images.
use Rattle.std.proofs.Common.{◌≡◌, ◌∙◌, ◌≤◌, Bool, true, List, inl, inr, ℕ, refl, sym, ap, subst, arith}
use Rattle.vdb_base.specs.declared.calls.Calls.{Calls}
use Rattle.vdb_base.specs.Calls.{is_listed, after_call}
use Rattle.vdb_base.specs.Counts.{Rose, raised}
use Rattle.vdb_model.specs.declared.table.TableDef.{TableDef}
use Rattle.resource.specs.declared.mode.Side.{Side}
use Rattle.resource.specs.declared.resource.ResState.TheVariants as state
use Rattle.resource.specs.Holding.{Holding, told_held, images_held, first_image, other_image, called, losing}
use Rattle.resource.specs.Images.{Image, Same, Fewer, Or}
use Rattle.resource.specs.Leaves.{Fails, Faulted}
use Rattle.resource.specs.MemResource.{CallsByList}
use Rattle.resource.specs.Steps.{Breaks}
use Rattle.resource.specs.Reading.{Reading}

pub by_list : (old new : Calls) (failed : Bool) → is_listed old ≡ failed → new ≡ after_call old failed → CallsByList old new failed
by_list old new failed listed e = record { fails = sym listed; calls = e }

-- both images stay
pub same_images : (old new : Holding) → first_image new ≡ first_image old → other_image new ≡ other_image old → Same (images_held old) (images_held new)
same_images old new f o = record { within = within; keeps = keeps }
  where
    within : (i : Image) → images_held new i → images_held old i
    within i (inl e) = inl (e ∙ f)
    within i (inr e) = inr (e ∙ o)

    keeps : (i : Image) → images_held old i → images_held new i
    keeps i (inl e) = inl (e ∙ sym f)
    keeps i (inr e) = inr (e ∙ sym o)

-- the images are among those of before
pub fewer_images : (old new : Holding) → images_held old (first_image new) → images_held old (other_image new) → Fewer (images_held old) (images_held new)
fewer_images old new f o = record { within = within; some = λ i h. (first_image new, inl refl) }
  where
    within : (i : Image) → images_held new i → images_held old i
    within i (inl e) = subst (images_held old) (sym e) f
    within i (inr e) = subst (images_held old) (sym e) o

-- the first image stays, and beside it one may stand that reads so
pub or_images : (old new : Holding) (defs : List TableDef) (reading : Reading) → first_image new ≡ first_image old → other_image new defs ≡ reading → Or defs reading (images_held old) (images_held new)
or_images old new defs reading f o i (inl e) = inl (inl (e ∙ f))
or_images old new defs reading f o i (inr e) = inr (ap (λ (g : Image). g defs) e ∙ o)

pub rose : (n : ℕ) → n ≤ raised n → Rose n (raised n)
rose n h = record { later = h; risen = omega arith }

-- a counted failure
pub faulted : (old new : Holding) → Breaks old (called true old) new → Faulted (told_held old) (told_held new)
faulted old new b = subst (λ (n : Holding). Faulted (told_held old) (told_held n)) (sym b.next_is) (record { rose = rose old.calls.faults later; same = refl })
  where
    later : old.calls.faults ≤ raised old.calls.faults
    later = subst (λ (n : Holding). old.calls.faults ≤ n.calls.faults) b.next_is b.later

-- a lost resource
pub fails : (other : Side) (old new : Holding) → Breaks old (losing other (called true old)) new → Fails (record (told_held old) { state = state.Lost }) (told_held new) (images_held new)
fails other old new b =
    subst (λ (n : Holding). Fails (record (told_held old) { state = state.Lost }) (told_held n) (images_held n)) (sym b.next_is)
    (record { rose = rose old.calls.faults later; stores = record { same = refl; tells = refl; reads = inl refl } })
  where
    later : old.calls.faults ≤ raised old.calls.faults
    later = subst (λ (n : Holding). old.calls.faults ≤ n.calls.faults) b.next_is b.later
