-- A change of a table of a resource in memory.
use Rattle.std.proofs.Common.{◌≡◌, ◌∙◌, Bool, true, false, not, ◌&&◌, ◌||◌, ◌==◌, if◌then◌else◌, ℕ, List, [], ◌∷◌, ◌++◌, Some, Result, Ok, Err, refl, sym, ap, subst}
use Rattle.std.specs.Prelude.{OnOk}
use Rattle.std.specs.Option.{unwrap_or}
use Rattle.std.proofs.lemmas.Bool.{and_parts}
use Rattle.vdb_model.specs.declared.source.Delta.{Delta}
use Rattle.vdb_model.specs.declared.table.TableDef.{TableDef}
use Rattle.vdb_model.specs.Defs.{all_fit, def_of, is_defined, are_numbered_apart, are_named_apart}
use Rattle.vdb_model.specs.Deltas.{changed, after_deltas, repeats_key}
use Rattle.vdb_model.specs.Rows.{Cells}
use Rattle.vdb_model.specs.World.{takes_rows, keeps_key, is_world, table_rows}
use Rattle.resource.specs.declared.mode.Mode.{Mode}
use Rattle.resource.specs.declared.mode.Mode.TheVariants as mode
use Rattle.resource.specs.declared.mode.Side.TheVariants.{Plain}
use Rattle.resource.specs.declared.resource.ChangeFault.{ChangeFault}
use Rattle.resource.specs.declared.resource.ChangeFault.TheVariants as change
use Rattle.resource.specs.declared.stored.StoredTable.{StoredTable}
use Rattle.resource.specs.Changing.{MayChange, IsChangeAnswer}
use Rattle.resource.specs.Failing.{change_failed}
use Rattle.resource.specs.Fields.{stored_delta, keeps_key_with}
use Rattle.resource.specs.Holding.{Holding, defs_held, contents_held, told_held, images_held, first_image, other_image, image_of, state_of, called, is_unwritten}
use Rattle.resource.specs.Images.{Same}
use Rattle.resource.specs.Leaves.{Changes, adding}
use Rattle.resource.specs.MemResource.{CallsByList}
use Rattle.resource.specs.Steps.{ChangesTo}
use Rattle.resource.specs.Stored.{rows_named, tables_in, after_stored, with_number, numbered}
use Rattle.resource.specs.Told.{IsWorld, seen, is_active}
use Rattle.resource.proofs.ByName.{after_append, numbered_append, number_found}
use Rattle.resource.proofs.Changed.{world_changed}
use Rattle.resource.proofs.KeptWell.{Good, worked_well, can_write, writing, losing_good}
use Rattle.resource.proofs.Moving.{IsPlain, called_good}
use Rattle.resource.proofs.Tells.{by_list, same_images, fails}

pub plain_when_active : (m : Mode) → is_active (state_of m) ≡ true → IsPlain m × (is_unwritten m ≡ false)
plain_when_active mode.Idle e = cc
plain_when_active (mode.Active y) e = (record { first = refl; other = refl }, refl)
plain_when_active (mode.Ended y) e = cc
plain_when_active (mode.Prepared y) e = cc
plain_when_active (mode.Lost first other) e = cc

-- the rows of a defined table are those under its name
rows_at : (n : ℕ) (stored : List StoredTable) (defs : List TableDef) → is_defined defs n ≡ true → rows_named (def_of defs n).source stored ≡ table_rows defs (tables_in stored defs) n
rows_at n stored [] h = cc
rows_at n stored (d ∷ ds) h = here (d.number == n) h (rows_at n stored ds)
  where
    here : (b : Bool) → (b || is_defined ds n) ≡ true → (is_defined ds n ≡ true → rows_named (def_of ds n).source stored ≡ table_rows ds (tables_in stored ds) n)
        → rows_named (if b then d else def_of ds n).source stored ≡ (if b then rows_named d.source stored else table_rows ds (tables_in stored ds) n)
    here true p rest = refl
    here false p rest = rest p

-- without the capability of writes no two names are one, and with it none are either
named_apart_in : (h : Holding) → Good h → h.caps.writes ≡ true → are_named_apart (defs_held h) ≡ true
named_apart_in h g w =
    let parts = and_parts (all_fit (defs_held h) && are_numbered_apart (defs_held h)) (not h.caps.writes || are_named_apart (defs_held h)) g.fit in
    sym (ap (λ b. not b || are_named_apart (defs_held h)) w) ∙ parts.1

module _ (delta : Delta) (old new : Holding) (g : Good old) (may : MayChange (told_held old) delta) where
  defs_are : defs_held old ≡ may.defs
  defs_are = ap (λ o. unwrap_or o []) may.attached

  there : is_defined (defs_held old) delta.table ≡ true
  there = ap (λ ds. is_defined ds delta.table) defs_are ∙ may.table

  takes : takes_rows (def_of (defs_held old) delta.table).columns delta.added ≡ true
  takes = ap (λ ds. takes_rows (def_of ds delta.table).columns delta.added) defs_are ∙ may.added

  from : IsPlain old.mode × (is_unwritten old.mode ≡ false)
  from = plain_when_active old.mode may.active

  writes : old.caps.writes ≡ true
  writes = can_write old g from.1

  abbrev now : List (List Cells)
  now = seen (defs_held old) (contents_held old)

  -- the key that was tested is that of the table as seen
  same_key : repeats_key (defs_held old) now delta ≡ not (keeps_key_with old delta)
  same_key =
      let d = def_of (defs_held old) delta.table in
      ap (λ rows. not (keeps_key d.key (changed delta rows)))
      (ap (λ tables. table_rows (defs_held old) tables delta.table) (sym (worked_well old g)) ∙ sym (rows_at delta.table (after_stored old.kept old.deltas) (defs_held old) there))

  -- the branch's deltas are seen with one more
  more_deltas : numbered (defs_held old) (old.deltas ++ stored_delta old delta ∷ []) ≡ numbered (defs_held old) old.deltas ++ delta ∷ []
  more_deltas =
      let sd = stored_delta old delta in
      numbered_append (defs_held old) old.deltas sd
      ∙ ap (λ o. numbered (defs_held old) old.deltas ++ with_number o sd []) (number_found (defs_held old) delta.table (named_apart_in old g writes) there)

  abbrev next : Holding
  next = record (called false old) { deltas = old.deltas ++ stored_delta old delta ∷ [] }

  world_next : keeps_key_with old delta ≡ true → is_world (defs_held old) (after_deltas (defs_held old) (tables_in old.kept (defs_held old)) (numbered (defs_held old) (old.deltas ++ stored_delta old delta ∷ []))) ≡ true
  world_next key =
      let kept = tables_in old.kept (defs_held old) in
      ap (λ ds. is_world (defs_held old) (after_deltas (defs_held old) kept ds)) more_deltas
      ∙ ap (is_world (defs_held old)) (after_append (defs_held old) kept (numbered (defs_held old) old.deltas) (delta ∷ []))
      ∙ world_changed (defs_held old) now delta g.work_fits takes (same_key ∙ ap not key)

  next_good : keeps_key_with old delta ≡ true → Good next
  next_good key = record { one = g.one; fit = g.fit; kept_fits = g.kept_fits; work_fits = world_next key; writes = writing old.caps.writes _ writes }

  module _ {T : Type 0} where
    pub change_answers : (r : Result T ChangeFault) → ChangesTo delta old new r → IsChangeAnswer (λ defs deltas. 0) (told_held old) delta r
    change_answers (Ok done) h = (same_key ∙ ap not h.2, tt)
    change_answers (Err (change.DuplicateKey table)) h = (h.3, same_key ∙ ap not h.2)
    change_answers (Err (change.LogFull needed left)) h = absurd h
    change_answers (Err change.Failed) h = tt
    change_answers (Err change.Memory) h = tt

    pub change_leaves : (r : Result T ChangeFault) → ChangesTo delta old new r → Changes delta (told_held old) (told_held new) (images_held new) r
    change_leaves (Ok done) h =
        ap told_held h.1
        ∙ ap (λ side. record (told_held next) { reads = Some (image_of side old.kept next.deltas) }) from.0.first
        ∙ ap (λ ds. record (told_held old) { reads = Some (image_of Plain old.kept old.deltas); contents = Some (record (contents_held old) { deltas = ds }) }) more_deltas
        ∙ ap (λ side. record (told_held old) { reads = Some (image_of side old.kept old.deltas); contents = Some (adding delta (contents_held old)) }) (sym from.0.first)
    change_leaves (Err (change.DuplicateKey table)) h = ap told_held h.1
    change_leaves (Err (change.LogFull needed left)) h = absurd h
    change_leaves (Err change.Failed) h = fails Plain old new h
    change_leaves (Err change.Memory) h = ap told_held h.1

    pub change_images : (r : Result T ChangeFault) → ChangesTo delta old new r → Same (images_held old) (images_held new)
    change_images (Ok done) h =
        let first : first_image next ≡ first_image old = ap (λ side. image_of side old.kept next.deltas) from.0.first ∙ ap (λ side. image_of side old.kept old.deltas) (sym from.0.first) in
        let other : other_image next ≡ other_image old = ap (λ side. image_of side old.kept next.deltas) from.0.other ∙ ap (λ side. image_of side old.kept old.deltas) (sym from.0.other) in
        same_images old new (ap first_image h.1 ∙ first) (ap other_image h.1 ∙ other)
    change_images (Err (change.DuplicateKey table)) h = same_images old new (ap first_image h.1) (ap other_image h.1)
    change_images (Err (change.LogFull needed left)) h = absurd h
    change_images (Err change.Failed) h =
        same_images old new (ap first_image h.next_is) (ap other_image h.next_is ∙ ap (λ side. image_of side old.kept old.deltas) (sym from.0.other))
    change_images (Err change.Memory) h = same_images old new (ap first_image h.1) (ap other_image h.1)

    pub change_world : (r : Result T ChangeFault) → ChangesTo delta old new r → OnOk r (IsWorld (told_held new))
    change_world (Ok done) h = subst (λ (n : Holding). IsWorld (told_held n)) (sym h.1) (world_next h.2)
    change_world (Err f) h = tt

    pub change_by_list : (r : Result T ChangeFault) → ChangesTo delta old new r → CallsByList old.calls new.calls (change_failed r)
    change_by_list (Ok done) h = by_list old.calls new.calls false h.0 (ap (λ (n : Holding). n.calls) h.1)
    change_by_list (Err (change.DuplicateKey table)) h = by_list old.calls new.calls false h.0 (ap (λ (n : Holding). n.calls) h.1)
    change_by_list (Err (change.LogFull needed left)) h = absurd h
    change_by_list (Err change.Failed) h = by_list old.calls new.calls true h.listed (ap (λ (n : Holding). n.calls) h.next_is)
    change_by_list (Err change.Memory) h = by_list old.calls new.calls false h.0 (ap (λ (n : Holding). n.calls) h.1)

    pub change_good : (r : Result T ChangeFault) → ChangesTo delta old new r → Good new
    change_good (Ok done) h = subst Good (sym h.1) (next_good h.2)
    change_good (Err (change.DuplicateKey table)) h = subst Good (sym h.1) (called_good false old g)
    change_good (Err (change.LogFull needed left)) h = absurd h
    change_good (Err change.Failed) h = subst Good (sym h.next_is) (losing_good Plain (called true old) (called_good true old g) (writing old.caps.writes true writes))
    change_good (Err change.Memory) h = subst Good (sym h.1) (called_good false old g)
