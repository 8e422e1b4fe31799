-- What the images of a resource in memory read as.
use Rattle.std.proofs.Common.{◌≡◌, ◌∙◌, true, false, List, [], ◌∷◌, Option, Some, None, inl, inr, refl, sym, ap}
use Rattle.vdb_model.specs.declared.source.Xid.{Xid}
use Rattle.vdb_model.specs.declared.table.TableDef.{TableDef}
use Rattle.vdb_model.specs.Deltas.{after_deltas}
use Rattle.vdb_model.specs.World.{is_world}
use Rattle.resource.specs.declared.mode.Mode.{Mode}
use Rattle.resource.specs.declared.mode.Mode.TheVariants as mode
use Rattle.resource.specs.declared.mode.Side.{Side}
use Rattle.resource.specs.declared.mode.Side.TheVariants.{Plain, Branched, Done}
use Rattle.resource.specs.declared.stored.StoredDelta.{StoredDelta}
use Rattle.resource.specs.declared.stored.StoredTable.{StoredTable}
use Rattle.resource.specs.Checked.{both_fault, stored_fault}
use Rattle.resource.specs.Fields.{left_in}
use Rattle.resource.specs.Holding.{Holding, defs_held, contents_held, told_held, images_held, first_image, other_image, image_of, first_of, state_of, taking}
use Rattle.resource.specs.Images.{Image, Only, plain, branched, done}
use Rattle.resource.specs.Leaves.{HasRead}
use Rattle.resource.specs.Reading.{Branch, Reading, Sound}
use Rattle.resource.specs.Stored.{tables_in, after_stored, numbered, tables_fault, first_fault, sound_unless}
use Rattle.resource.specs.Told.{seen, contents_of, is_lost}
use Rattle.resource.proofs.Faultless.{no_faults}
use Rattle.resource.proofs.KeptWell.{Good, worked_well}

plain_reads : (kept : List StoredTable) (deltas : List StoredDelta) (defs : List TableDef) → is_world defs (tables_in kept defs) ≡ true → image_of Plain kept deltas defs ≡ Sound (tables_in kept defs) None
plain_reads kept deltas defs h = ap (λ fault. sound_unless fault (tables_in kept defs) None) (no_faults defs (tables_in kept defs) (tables_in kept defs) h h)

-- by the side, what a resource's store reads as
pub plain_image : (h : Holding) → Good h → image_of Plain h.kept h.deltas (defs_held h) ≡ plain (contents_held h)
plain_image h g = plain_reads h.kept h.deltas (defs_held h) g.kept_fits

pub branched_image : (x : Xid) (h : Holding) → Good h → image_of (Branched x) h.kept h.deltas (defs_held h) ≡ branched x (contents_held h)
branched_image x h g =
    let kept = tables_in h.kept (defs_held h) in
    ap (λ fault. sound_unless fault kept (Some (record { xid = x; deltas = numbered (defs_held h) h.deltas })))
    (no_faults (defs_held h) kept (seen (defs_held h) (contents_held h)) g.kept_fits g.work_fits)

pub done_image : (h : Holding) → Good h → image_of Done h.kept h.deltas (defs_held h) ≡ done (defs_held h) (contents_held h)
done_image h g =
    let fits : is_world (defs_held h) (tables_in (after_stored h.kept h.deltas) (defs_held h)) ≡ true = ap (is_world (defs_held h)) (worked_well h g) ∙ g.work_fits in
    plain_reads (after_stored h.kept h.deltas) h.deltas (defs_held h) fits ∙ ap (λ tables. Sound tables None) (worked_well h g)

-- where there is one image alone
pub only_held : (h : Holding) (defs : List TableDef) (reading : Reading) → other_image h ≡ first_image h → first_image h defs ≡ reading → Only defs reading (images_held h)
only_held h defs reading same reads = record { some = (first_image h, inl refl); each = each }
  where
    each : (i : Image) → images_held h i → i defs ≡ reading
    each i (inl e) = ap (λ (f : Image). f defs) e ∙ reads
    each i (inr e) = ap (λ (f : Image). f defs) (e ∙ same) ∙ reads

-- a store that has taken a side has its image alone
pub taken_image : (side : Side) (h : Holding) → first_image (taking side h) ≡ image_of side h.kept h.deltas
taken_image Plain h = refl
taken_image (Branched x) h = refl
taken_image Done h = refl

pub taken_alone : (side : Side) (h : Holding) → other_image (taking side h) ≡ first_image (taking side h)
taken_alone Plain h = refl
taken_alone (Branched x) h = refl
taken_alone Done h = refl

-- it reads so
pub taken_reads : (side : Side) (h : Holding) → Good (taking side h) → HasRead (first_image (taking side h) (defs_held h)) (told_held (taking side h)) (images_held (taking side h))
taken_reads Plain h g =
    let reads = plain_image (taking Plain h) g in
    record {
      kept = tables_in h.kept (defs_held h);
      branch = None;
      is = reads;
      state_is = refl;
      contents_are = sym (ap (λ reading. Some (contents_of reading)) reads);
      kept_fits = g.kept_fits;
      work_fits = g.work_fits;
      sound = (only_held (taking Plain h) (defs_held h) (plain (contents_held (taking Plain h))) refl reads, refl);
    }
taken_reads (Branched x) h g =
    let reads = branched_image x (taking (Branched x) h) g in
    record {
      kept = tables_in h.kept (defs_held h);
      branch = Some (record { xid = x; deltas = numbered (defs_held h) h.deltas });
      is = reads;
      state_is = refl;
      contents_are = sym (ap (λ reading. Some (contents_of reading)) reads);
      kept_fits = g.kept_fits;
      work_fits = g.work_fits;
      sound = only_held (taking (Branched x) h) (defs_held h) (branched x (contents_held (taking (Branched x) h))) refl reads;
    }
taken_reads Done h g =
    let reads = plain_image (taking Done h) g in
    record {
      kept = tables_in (after_stored h.kept h.deltas) (defs_held h);
      branch = None;
      is = reads;
      state_is = refl;
      contents_are = sym (ap (λ reading. Some (contents_of reading)) reads);
      kept_fits = g.kept_fits;
      work_fits = g.work_fits;
      sound = (only_held (taking Done h) (defs_held h) (plain (contents_held (taking Done h))) refl reads, refl);
    }

-- the faults of stored tables are those of their rows
pub same_faults : (defs : List TableDef) (kept left : List StoredTable) → stored_fault defs kept left ≡ tables_fault defs (tables_in kept defs) (tables_in left defs)
same_faults [] kept left = refl
same_faults (d ∷ ds) kept left = ap (first_fault (both_fault d kept left)) (same_faults ds kept left)

-- the branch that a store in this mode reads with
abbrev pub branch_in : Mode → List TableDef → List StoredDelta → Option Branch
branch_in mode.Idle defs deltas = None
branch_in (mode.Active x) defs deltas = None
branch_in (mode.Ended x) defs deltas = None
branch_in (mode.Prepared x) defs deltas = Some (record { xid = x; deltas = numbered defs deltas })
branch_in (mode.Lost first other) defs deltas = None

-- what a store that isn't lost reads as, by what its check finds
pub reads_by_check : (m : Mode) (kept : List StoredTable) (deltas : List StoredDelta) (defs : List TableDef) → is_lost (state_of m) ≡ false
    → tables_in (after_stored kept deltas) defs ≡ after_deltas defs (tables_in kept defs) (numbered defs deltas)
    → image_of (first_of m) kept deltas defs ≡ sound_unless (stored_fault defs kept (left_in m kept deltas)) (tables_in kept defs) (branch_in m defs deltas)
reads_by_check mode.Idle kept deltas defs here law = ap (λ f. sound_unless f (tables_in kept defs) None) (sym (same_faults defs kept kept))
reads_by_check (mode.Active x) kept deltas defs here law = ap (λ f. sound_unless f (tables_in kept defs) None) (sym (same_faults defs kept kept))
reads_by_check (mode.Ended x) kept deltas defs here law = ap (λ f. sound_unless f (tables_in kept defs) None) (sym (same_faults defs kept kept))
reads_by_check (mode.Prepared x) kept deltas defs here law =
    let branch = Some (record { xid = x; deltas = numbered defs deltas }) in
    ap (λ f. sound_unless f (tables_in kept defs) branch) (sym (same_faults defs kept (after_stored kept deltas) ∙ ap (tables_fault defs (tables_in kept defs)) law))
reads_by_check (mode.Lost first other) kept deltas defs here law = cc
