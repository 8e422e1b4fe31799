-- An attach of a resource in memory.
use Rattle.std.proofs.Common.{◌≡◌, ◌∙◌, ◌≤◌, true, false, ◌&&◌, ◌||◌, ◌==◌, List, [], ◌∷◌, Option, Some, None, Result, Ok, Err, inl, inr, length, refl, sym, ap, subst}
use Rattle.std.specs.Prelude.{OnOk}
use Rattle.vdb_model.specs.declared.table.TableDef.{TableDef}
use Rattle.vdb_model.specs.Deltas.{after_deltas}
use Rattle.vdb_model.specs.World.{is_world}
use Rattle.resource.specs.declared.mode.Mode.{Mode}
use Rattle.resource.specs.declared.mode.Mode.TheVariants as mode
use Rattle.resource.specs.declared.mode.Side.{Side}
use Rattle.resource.specs.declared.mode.Side.TheVariants.{Plain, Branched, Done}
use Rattle.resource.specs.declared.resource.AttachFault.{AttachFault}
use Rattle.resource.specs.declared.resource.AttachFault.TheVariants as attach
use Rattle.resource.specs.declared.stored.StoredDelta.{StoredDelta}
use Rattle.resource.specs.declared.stored.StoredTable.{StoredTable}
use Rattle.resource.specs.Checked.{stored_fault}
use Rattle.resource.specs.Failing.{attach_failed}
use Rattle.resource.specs.Fields.{left_in}
use Rattle.resource.specs.Holding.{Holding, contents_held, told_held, images_held, first_image, other_image, image_of, first_of, state_of, called, taking, detaching, is_unwritten}
use Rattle.resource.specs.Images.{Fewer}
use Rattle.resource.specs.Leaves.{Attaches, HasRead, Fails, detached}
use Rattle.resource.specs.MemResource.{CallsByList}
use Rattle.resource.specs.Needs.{MayAttach}
use Rattle.resource.specs.Reading.{Reading, IsAttachAnswer}
use Rattle.resource.specs.Steps.{AttachesTo}
use Rattle.resource.specs.Stored.{tables_in, after_stored, numbered, sound_unless}
use Rattle.resource.specs.Told.{Told, contents_of, is_lost, is_settled}
use Rattle.resource.proofs.ByName.{none_numbered}
use Rattle.resource.proofs.Faultless.{are_as_many, worlds}
use Rattle.resource.proofs.Finishing.{taken_settled, taking_calls}
use Rattle.resource.proofs.KeptWell.{Good, worked, or_true, detaching_good}
use Rattle.resource.proofs.Moving.{called_good}
use Rattle.resource.proofs.ReadsAs.{branch_in, reads_by_check, same_faults, taken_image, taken_alone, taken_reads}
use Rattle.resource.proofs.Tells.{by_list, fewer_images, rose}

tables_as_many : (stored : List StoredTable) (defs : List TableDef) → are_as_many defs (tables_in stored defs) ≡ true
tables_as_many stored [] = refl
tables_as_many stored (d ∷ ds) = tables_as_many stored ds

-- the tables that the check passes are a world, as kept and as left
checked_world : (m : Mode) (kept : List StoredTable) (deltas : List StoredDelta) (defs : List TableDef) → stored_fault defs kept (left_in m kept deltas) ≡ None
    → (is_world defs (tables_in kept defs) ≡ true) × (is_world defs (tables_in (left_in m kept deltas) defs) ≡ true)
checked_world m kept deltas defs h =
    worlds defs (tables_in kept defs) (tables_in (left_in m kept deltas) defs) (tables_as_many kept defs) (tables_as_many (left_in m kept deltas) defs) (sym (same_faults defs kept (left_in m kept deltas)) ∙ h)

-- what is told once the definitions are gone
detached_told : (h : Holding) → told_held (detaching h) ≡ detached (told_held h)
detached_told h = ap (λ ds. record (detached (told_held h)) { contents = Some (record { kept = []; deltas = ds }) }) (none_numbered h.deltas)

with_defs : (side : Side) (h : Holding) (o : Option (List TableDef)) → record (taking side h) { defs = o } ≡ taking side (record h { defs = o })
with_defs Plain h o = refl
with_defs (Branched x) h o = refl
with_defs Done h o = refl

module _ (defs : List TableDef) (old new : Holding) (g : Good old) (may : MayAttach defs (told_held old)) where
  -- as before, with the definitions
  abbrev on : Holding
  on = record (called false (detaching old)) { defs = Some defs }

  abbrev side : Side
  side = first_of old.mode

  law : tables_in (after_stored old.kept old.deltas) defs ≡ after_deltas defs (tables_in old.kept defs) (numbered defs old.deltas)
  law = worked old.caps (is_unwritten old.mode) old.kept old.deltas defs may.fit g.writes

  abbrev fault : Option Reading
  fault = stored_fault defs old.kept (left_in old.mode old.kept old.deltas)

  reads : first_image old defs ≡ sound_unless fault (tables_in old.kept defs) (branch_in old.mode defs old.deltas)
  reads = reads_by_check old.mode old.kept old.deltas defs may.here law

  -- with a side that isn't done
  on_good : fault ≡ None → Good (taking side on)
  on_good e = here old.mode refl may.here
    where
      kept_fits : is_world defs (tables_in old.kept defs) ≡ true
      kept_fits = (checked_world old.mode old.kept old.deltas defs e).0

      plain : Good (taking Plain on)
      plain = record { one = g.one; fit = may.fit; kept_fits = kept_fits; work_fits = kept_fits; writes = or_true old.caps.writes }

      branched : (x : _) → old.mode ≡ mode.Prepared x → Good (taking (Branched x) on)
      branched x is =
          let left : is_world defs (tables_in (left_in old.mode old.kept old.deltas) defs) ≡ true = (checked_world old.mode old.kept old.deltas defs e).1 in
          let after : is_world defs (tables_in (after_stored old.kept old.deltas) defs) ≡ true = ap (λ m. is_world defs (tables_in (left_in m old.kept old.deltas) defs)) (sym is) ∙ left in
          record {
            one = g.one;
            fit = may.fit;
            kept_fits = kept_fits;
            work_fits = ap (is_world defs) (sym law) ∙ after;
            writes = ap (λ m. old.caps.writes || (is_unwritten m && length old.deltas == 0)) (sym is) ∙ g.writes;
          }

      here : (m : Mode) → old.mode ≡ m → is_lost (state_of m) ≡ false → Good (taking (first_of m) on)
      here mode.Idle is lost = plain
      here (mode.Active x) is lost = plain
      here (mode.Ended x) is lost = plain
      here (mode.Prepared x) is lost = branched x is
      here (mode.Lost first other) is lost = cc

  told_on : told_held (taking side on) ≡ record (told_held old) { state = state_of (taking side on).mode; reserved = false; defs = Some defs; contents = Some (contents_held (taking side on)) }
  told_on = here side refl
    where
      here : (s : Side) → s ≡ side → told_held (taking s on) ≡ record (told_held old) { state = state_of (taking s on).mode; reserved = false; defs = Some defs; contents = Some (contents_held (taking s on)) }
      here Plain e = ap (λ s. record (told_held (taking Plain on)) { reads = Some (image_of s old.kept old.deltas) }) e
      here (Branched x) e = ap (λ s. record (told_held (taking (Branched x) on)) { reads = Some (image_of s old.kept old.deltas) }) e
      here Done e = ap (λ s. record (told_held (taking Done on)) { reads = Some (image_of s old.kept old.deltas) }) e

  first_on : first_image (taking side on) ≡ first_image old
  first_on = taken_image side on

  attached : (new ≡ record (taking side (called false (detaching old))) { defs = Some defs }) → fault ≡ None → Attaches defs (told_held old) (told_held new) (images_held new) (Ok tt)
  attached e none =
      subst (λ (n : Holding). Attaches defs (told_held old) (told_held n) (images_held n) (Ok tt)) (sym (e ∙ with_defs side (called false (detaching old)) (Some defs))) (
        told_on ∙ ap (λ c. record (told_held old) { state = state_of (taking side on).mode; reserved = false; defs = Some defs; contents = c }) contents,
        (inl (sym first_on), read),
      )
    where
      taken : HasRead (first_image (taking side on) defs) (told_held (taking side on)) (images_held (taking side on))
      taken = taken_reads side on (on_good none)

      read : HasRead (first_image old defs) (told_held (taking side on)) (images_held (taking side on))
      read = subst (λ i. HasRead (i defs) (told_held (taking side on)) (images_held (taking side on))) first_on taken

      contents : Some (contents_held (taking side on)) ≡ Some (contents_of (first_image old defs))
      contents = read.contents_are

  detached_now : new ≡ called false (detaching old) → told_held new ≡ detached (told_held old)
  detached_now e = ap told_held e ∙ detached_told old

  pub attach_answers : (r : Result (Unit {0}) AttachFault) → AttachesTo defs (detaching old) new r → IsAttachAnswer (first_image old defs) r
  attach_answers (Ok done) h = (tables_in old.kept defs, branch_in old.mode defs old.deltas, reads ∙ ap (λ f. sound_unless f (tables_in old.kept defs) (branch_in old.mode defs old.deltas)) h.2)
  attach_answers (Err (attach.BadCell table row col)) h = reads ∙ ap (λ f. sound_unless f (tables_in old.kept defs) (branch_in old.mode defs old.deltas)) h.2
  attach_answers (Err (attach.BadStore table)) h = reads ∙ ap (λ f. sound_unless f (tables_in old.kept defs) (branch_in old.mode defs old.deltas)) h.2
  attach_answers (Err attach.Failed) h = tt
  attach_answers (Err attach.Memory) h = tt

  pub attach_leaves : (r : Result (Unit {0}) AttachFault) → AttachesTo defs (detaching old) new r → Attaches defs (told_held old) (told_held new) (images_held new) r
  attach_leaves (Ok done) h = attached h.1 h.2
  attach_leaves (Err (attach.BadCell table row col)) h = detached_now h.1
  attach_leaves (Err (attach.BadStore table)) h = detached_now h.1
  attach_leaves (Err attach.Memory) h = detached_now h.1
  attach_leaves (Err attach.Failed) h =
      subst (λ (t : Told). Fails t (told_held new) (images_held new)) (detached_told old)
      (subst (λ (n : Holding). Fails (told_held (detaching old)) (told_held n) (images_held n)) (sym h.next_is)
      (record { rose = rose old.calls.faults (subst (λ (n : Holding). old.calls.faults ≤ n.calls.faults) h.next_is h.later); stores = record { same = refl; tells = refl; reads = inl refl } }))

  pub attach_settled : (r : Result (Unit {0}) AttachFault) → AttachesTo defs (detaching old) new r → OnOk r (is_settled (state_of new.mode) ≡ true)
  attach_settled (Ok done) h = ap (λ (n : Holding). is_settled (state_of n.mode)) h.1 ∙ taken_settled side (called false (detaching old))
  attach_settled (Err f) h = tt

  pub attach_images : (r : Result (Unit {0}) AttachFault) → AttachesTo defs (detaching old) new r → Fewer (images_held old) (images_held new)
  attach_images (Ok done) h =
      let e = h.1 ∙ with_defs side (called false (detaching old)) (Some defs) in
      let first : first_image new ≡ first_image old = ap first_image e ∙ first_on in
      fewer_images old new (inl first) (inl (ap other_image e ∙ taken_alone side on ∙ first_on))
  attach_images (Err (attach.BadCell table row col)) h = fewer_images old new (inl (ap first_image h.1)) (inr (ap other_image h.1))
  attach_images (Err (attach.BadStore table)) h = fewer_images old new (inl (ap first_image h.1)) (inr (ap other_image h.1))
  attach_images (Err attach.Memory) h = fewer_images old new (inl (ap first_image h.1)) (inr (ap other_image h.1))
  attach_images (Err attach.Failed) h = fewer_images old new (inl (ap first_image h.next_is)) (inr (ap other_image h.next_is))

  pub attach_by_list : (r : Result (Unit {0}) AttachFault) → AttachesTo defs (detaching old) new r → CallsByList old.calls new.calls (attach_failed r)
  attach_by_list (Ok done) h = by_list old.calls new.calls false h.0 (ap (λ (n : Holding). n.calls) h.1 ∙ taking_calls side (called false (detaching old)))
  attach_by_list (Err (attach.BadCell table row col)) h = by_list old.calls new.calls false h.0 (ap (λ (n : Holding). n.calls) h.1)
  attach_by_list (Err (attach.BadStore table)) h = by_list old.calls new.calls false h.0 (ap (λ (n : Holding). n.calls) h.1)
  attach_by_list (Err attach.Memory) h = by_list old.calls new.calls false h.0 (ap (λ (n : Holding). n.calls) h.1)
  attach_by_list (Err attach.Failed) h = by_list old.calls new.calls true h.listed (ap (λ (n : Holding). n.calls) h.next_is)

  pub attach_good : (r : Result (Unit {0}) AttachFault) → AttachesTo defs (detaching old) new r → Good new
  attach_good (Ok done) h = subst Good (sym (h.1 ∙ with_defs side (called false (detaching old)) (Some defs))) (on_good h.2)
  attach_good (Err (attach.BadCell table row col)) h = subst Good (sym h.1) (called_good false (detaching old) (detaching_good old g))
  attach_good (Err (attach.BadStore table)) h = subst Good (sym h.1) (called_good false (detaching old) (detaching_good old g))
  attach_good (Err attach.Memory) h = subst Good (sym h.1) (called_good false (detaching old) (detaching_good old g))
  attach_good (Err attach.Failed) h = subst Good (sym h.next_is) (called_good true (detaching old) (detaching_good old g))
