-- A lane that was attached, and whose prepared branch was rolled back.
use Rattle.std.proofs.Common.{◌≡◌, ◌⊎◌, inl, inr, true, List, [], Option, Some, None, Result, Ok, Err, IfSome, refl, sym, ap, ◌∙◌, subst}
use Rattle.std.specs.Prelude.{ℕ, is_some}
use Rattle.std.specs.Option.{option_map, unwrap_or}
use Rattle.vdb_base.specs.Counts.{Rose}
use Rattle.vdb_model.specs.declared.source.Xid.{Xid}
use Rattle.vdb_model.specs.declared.table.TableDef.{TableDef}
use Rattle.vdb_model.specs.Defined.{Defined}
use Rattle.resource.specs.declared.lane.Lane.{Lane}
use Rattle.resource.specs.declared.resource.ResState.{ResState}
use Rattle.resource.specs.declared.resource.ResState.TheVariants as state
use Rattle.resource.specs.Images.{Image, Fewer, Only, Or, plain}
use Rattle.resource.specs.Leaves.{Attaches, DropFails, Finishes, HasRead, RollbackStops, reverted}
use Rattle.resource.specs.Reading.{Branch, Reading, Sound, IsAttachAnswer, tables_of}
use Rattle.resource.specs.Told.{Told, Contents, defs_in, seen, work, contents_of, is_settled, prepared_in, state_with, under}
use Rattle.vdb_session.specs.declared.parts.StartFault.{StartFault}
use Rattle.vdb_session.specs.declared.parts.StartFault.TheVariants as fault
use Rattle.vdb_session.specs.Attaching.{AttachedTo, AttachesOne, RollsBack}
use Rattle.vdb_session.specs.Lanes.{DropsBranch, FailedStore}
use Rattle.vdb_session.specs.Shown.{tables_for}
use Rattle.vdb_session.specs.Starting.{cell_fault}

-- what a state says of a branch

some_same : {A : Type 0} (x y : A) → Some x ≡ Some y → x ≡ y
some_same x y e = cc e

pub is_prepared : (s : ResState) (x : Xid) → prepared_in s ≡ Some x → s ≡ state.Prepared x
is_prepared state.Idle x e = cc
is_prepared (state.Active y) x e = cc
is_prepared (state.Ended y) x e = cc
is_prepared (state.Prepared y) x e = ap state.Prepared (some_same y x e)
is_prepared state.Lost x e = cc

without_branch : (s : ResState) → is_settled s ≡ true → prepared_in s ≡ None → s ≡ state.Idle
without_branch state.Idle h e = refl
without_branch (state.Active x) h e = cc
without_branch (state.Ended x) h e = cc
without_branch (state.Prepared x) h e = cc
without_branch state.Lost h e = cc

idle_read : (b : Option Branch) (s : ResState) → s ≡ state_with b → s ≡ state.Idle → b ≡ None
idle_read None s e i = refl
idle_read (Some b) s e i = let wrong : state_with (Some b) ≡ state.Idle = sym e ∙ i in cc

prepared_read : (b : Option Branch) (s : ResState) (x : Xid) → s ≡ state_with b → prepared_in s ≡ Some x → (branch : Branch) × (b ≡ Some branch)
prepared_read None s x e p = let wrong : None ≡ Some x = ap prepared_in (sym e) ∙ p in cc
prepared_read (Some b) s x e p = (b, refl)

-- what its store read as, where that is told

sound_reads : (server : List ℕ) (defs : List TableDef) (reads : Option Image) → IfSome reads (λ reads. IsAttachAnswer (reads defs) (Ok tt)) → IfSome reads (λ reads. cell_fault server defs (reads defs) ≡ None)
sound_reads server defs None h = tt
sound_reads server defs (Some reads) h = ap (cell_fault server defs) h.2

abbrev HasReadOf : List TableDef → Option Image → Told → (Image → Type 0) → Type 0
HasReadOf defs reads mid now = IfSome reads (λ reads. now reads × HasRead (reads defs) mid now)

abbrev read_contents : List TableDef → Option Image → Option Contents
read_contents defs reads = option_map (λ (reads : Image). contents_of (reads defs)) reads

-- without a branch it shows the committed rows
shows_kept : (defs : List TableDef) (reads : Option Image) (mid : Told) (now : Image → Type 0) → mid.contents ≡ read_contents defs reads → HasReadOf defs reads mid now → mid.state ≡ state.Idle → work mid ≡ under reads defs
shows_kept defs None mid now c h i = ap (option_map (seen (defs_in mid))) c
shows_kept defs (Some reads) mid now c h i =
    let read : reads defs ≡ Sound h.1.kept None = h.1.is ∙ ap (Sound h.1.kept) (idle_read h.1.branch mid.state h.1.state_is i) in
    ap (option_map (seen (defs_in mid))) c ∙ ap (λ (r : Reading). Some (seen (defs_in mid) (contents_of r))) read ∙ ap tables_of (sym read)

-- and so it does once its branch is gone
shows_reverted : (defs : List TableDef) (reads : Option Image) (mid new : Told) (now : Image → Type 0) → new.contents ≡ option_map reverted mid.contents → mid.contents ≡ read_contents defs reads → HasReadOf defs reads mid now
    → work new ≡ under reads defs
shows_reverted defs None mid new now c m h = ap (option_map (seen (defs_in new))) (c ∙ ap (option_map reverted) m)
shows_reverted defs (Some reads) mid new now c m h =
    ap (option_map (seen (defs_in new))) (c ∙ ap (option_map reverted) m)
    ∙ ap (λ (r : Reading). Some (seen (defs_in new) (reverted (contents_of r)))) h.1.is
    ∙ ap tables_of (sym h.1.is)

-- an image that reads as the committed rows has dropped the branch
drops : (defs : List TableDef) (was now : Image) (mid : Told) (images : Image → Type 0) (x : Xid) → mid.defs ≡ Some defs → HasRead (was defs) mid images → prepared_in mid.state ≡ Some x
    → now (defs_in mid) ≡ plain (contents_of (was defs)) → DropsBranch (was defs) (now defs)
drops defs was now mid images x d h p e =
    let b = prepared_read h.branch mid.state x h.state_is p in
    let read : was defs ≡ Sound h.kept (Some b.0) = h.is ∙ ap (Sound h.kept) b.1 in
    let there : now defs ≡ Sound h.kept None = ap (λ (o : Option (List TableDef)). now (unwrap_or o [])) (sym d) ∙ e ∙ ap (λ (r : Reading). plain (contents_of r)) read in
    subst (λ (r : Reading). DropsBranch r (now defs)) (sym read) there

only_drops : (defs : List TableDef) (ro rn : Option Image) (mid : Told) (before now : Image → Type 0) (x : Xid) → mid.defs ≡ Some defs → mid.contents ≡ read_contents defs ro → HasReadOf defs ro mid before
    → prepared_in mid.state ≡ Some x → IfSome rn now → IfSome mid.contents (λ c. Only (defs_in mid) (plain c) now) → IfSome ro (λ was. IfSome rn (λ reads. DropsBranch (was defs) (reads defs)))
only_drops defs None rn mid before now x d c h p i o = tt
only_drops defs (Some was) None mid before now x d c h p i o = tt
only_drops defs (Some was) (Some reads) mid before now x d c h p i o =
    let only : Only (defs_in mid) (plain (contents_of (was defs))) now = subst (λ (cs : Option Contents). IfSome cs (λ c. Only (defs_in mid) (plain c) now)) c o in
    drops defs was reads mid before x d h.1 p (only.each reads i)

-- a failed rollback leaves an image of before, or has dropped the branch
or_drops : (defs : List TableDef) (ro rn : Option Image) (new mid : Told) (first before now : Image → Type 0) (x : Xid) → new.defs ≡ Some defs → new.reads ≡ rn → mid.defs ≡ Some defs → mid.contents ≡ read_contents defs ro
    → HasReadOf defs ro mid before → prepared_in mid.state ≡ Some x → ((i : Image) → before i → first i) → is_some rn ≡ is_some ro → IfSome rn now → IfSome mid.contents (λ c. Or (defs_in mid) (plain c) before now)
    → IfSome rn first ⊎ IfSome ro (λ was. IfSome rn (λ reads. DropsBranch (was defs) (reads defs)))
or_drops defs ro None new mid first before now x nd nr d c h p within tells i o = inl tt
or_drops defs None (Some reads) new mid first before now x nd nr d c h p within tells i o = cc
or_drops defs (Some was) (Some reads) new mid first before now x nd nr d c h p within tells i o =
    let either = (subst (λ (cs : Option Contents). IfSome cs (λ c. Or (defs_in mid) (plain c) before now)) c o) reads i in
    elim either [
      | inl old ↦ inl (within reads old)
      | inr gone ↦ inr (drops defs was reads mid before x d h.1 p gone)
    ]

-- ---- the lane, as its attach and the rollback leave it

module _ {S : Type 0} (told : S → Told) (images : S → Image → Type 0) (cat : Defined) (at : ℕ) (old : Lane S) (mid new : Told) (before now : Image → Type 0) where
  abbrev tables : List TableDef
  tables = tables_for cat old.name

  abbrev reading : Option Image
  reading = (told old.res).reads

  abbrev Answers : Type 0
  Answers = IfSome reading (λ reads. IsAttachAnswer (reads tables) (Ok tt))

  abbrev Attached : Type 0
  Attached = Attaches tables (told old.res) mid before (Ok tt)

  idle_lane : Answers → Attached → mid.state ≡ state.Idle → AttachedTo told cat old mid
  idle_lane a l i = record {
    keeps = record { caps = ap (λ (t : Told). t.caps) l.0; tells = ap (λ (t : Told). is_some t.reads) l.0; reads = inl (ap (λ (t : Told). t.reads) l.0) };
    count = ap (λ (t : Told). t.faults) l.0;
    defs = ap (λ (t : Told). t.defs) l.0;
    idle = i;
    reads = sound_reads old.name tables reading a;
    shown = shows_kept tables reading mid before (ap (λ (t : Told). t.contents) l.0) l.1 i;
  }

  rolled_lane : Answers → Attached → (x : Xid) → prepared_in mid.state ≡ Some x → Finishes {T = Unit {0}} {F = Unit {0}} reverted mid new now (Ok tt) → RollbackStops {T = Unit {0}} {F = Unit {0}} mid before now (Ok tt)
      → AttachedTo told cat old new
  rolled_lane a l x p f o =
      let d : new.defs ≡ Some tables = ap (λ (t : Told). t.defs) f.same ∙ ap (λ (t : Told). t.defs) l.0 in
      record {
        keeps = record {
          caps = ap (λ (t : Told). t.caps) f.same ∙ ap (λ (t : Told). t.caps) l.0;
          tells = f.tells ∙ ap (λ (t : Told). is_some t.reads) l.0;
          reads = inr (record {
            defs = tables;
            attached = d;
            reads = only_drops tables reading new.reads mid before now x (ap (λ (t : Told). t.defs) l.0) (ap (λ (t : Told). t.contents) l.0) l.1 p f.reads o;
          });
        };
        count = ap (λ (t : Told). t.faults) f.same ∙ ap (λ (t : Told). t.faults) l.0;
        defs = d;
        idle = ap (λ (t : Told). t.state) f.same;
        reads = sound_reads old.name tables reading a;
        shown = shows_reverted tables reading mid new before (ap (λ (t : Told). t.contents) f.same) (ap (λ (t : Told). t.contents) l.0) l.1;
      }

  failed_lane : Fewer (images old.res) before → Attached → (x : Xid) → prepared_in mid.state ≡ Some x → Finishes {T = Unit {0}} {F = Unit {0}} reverted mid new now (Err tt)
      → RollbackStops {T = Unit {0}} {F = Unit {0}} mid before now (Err tt) → FailedStore (images old.res) (told old.res) new
  failed_lane fewer l x p f o =
      let d : new.defs ≡ Some tables = ap (λ (t : Told). t.defs) f.stores.same ∙ ap (λ (t : Told). t.defs) l.0 in
      let tells : is_some new.reads ≡ is_some reading = f.stores.tells ∙ ap (λ (t : Told). is_some t.reads) l.0 in
      let or : IfSome mid.contents (λ c. Or (defs_in mid) (plain c) before now) = subst (λ (q : Option Xid). DropFails q mid before now) p o in
      record {
        caps = ap (λ (t : Told). t.caps) f.stores.same ∙ ap (λ (t : Told). t.caps) l.0;
        tells = tells;
        rose = subst (λ (n : ℕ). Rose n new.faults) (ap (λ (t : Told). t.faults) l.0) f.rose;
        reads = elim (or_drops tables reading new.reads new mid (images old.res) before now x d refl (ap (λ (t : Told). t.defs) l.0) (ap (λ (t : Told). t.contents) l.0) l.1 p fewer.within tells f.stores.reads or) [
          | inl image ↦ inl image
          | inr gone ↦ inr (record { defs = tables; attached = d; reads = gone })
        ];
      }

  settles : Fewer (images old.res) before → Answers → Attached → is_settled mid.state ≡ true → (b : Option Xid) → prepared_in mid.state ≡ b → (r : Result (Unit {0}) StartFault) → RollsBack b at r mid new before now
      → AttachesOne told images cat at r old new
  settles fewer a l s None p (Ok done) h = subst (AttachedTo told cat old) (sym h) (idle_lane a l (without_branch mid.state s p))
  settles fewer a l s None p (Err f) h = absurd h
  settles fewer a l s (Some x) p (Ok done) h = rolled_lane a l x p h.0 h.1
  settles fewer a l s (Some x) p (Err (fault.Refused f)) h = absurd h
  settles fewer a l s (Some x) p (Err (fault.Failed lane)) h = (h.0, failed_lane fewer l x p h.1 h.2)
  settles fewer a l s (Some x) p (Err fault.Memory) h = absurd h

-- an attach that is Ok, and what the rollback after it answers
pub attached_one : {S : Type 0} (told : S → Told) (images : S → Image → Type 0) (cat : Defined) (at : ℕ) (old : Lane S) (mid new : Told) (before now : Image → Type 0) (ts : List TableDef) → ts ≡ tables_for cat old.name
    → Fewer (images old.res) before → IfSome (told old.res).reads (λ reads. IsAttachAnswer (reads ts) (Ok tt)) → Attaches ts (told old.res) mid before (Ok tt) → is_settled mid.state ≡ true
    → (r : Result (Unit {0}) StartFault) → RollsBack (prepared_in mid.state) at r mid new before now → AttachesOne told images cat at r old new
attached_one told images cat at old mid new before now ts e fewer a l s r h =
    settles told images cat at old mid new before now fewer (subst (λ (ts : List TableDef). IfSome (told old.res).reads (λ reads. IsAttachAnswer (reads ts) (Ok tt))) e a)
    (subst (λ (ts : List TableDef). Attaches ts (told old.res) mid before (Ok tt)) e l) s (prepared_in mid.state) refl r h
