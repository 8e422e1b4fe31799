-- What a start answers and leaves.
use Rattle.std.proofs.Common.{◌≡◌, ℕ, Bool, false, List, Option, Some, None, Err, inl, inr, refl, ap, ◌∙◌, subst}
use Rattle.std.specs.Prelude.{IfSome}
use Rattle.vdb_model.specs.declared.reply.DeployFault.{DeployFault}
use Rattle.vdb_model.specs.Defined.{Defined}
use Rattle.resource.specs.declared.lane.Lane.{Lane}
use Rattle.resource.specs.declared.resource.AttachFault.{AttachFault}
use Rattle.resource.specs.declared.resource.AttachFault.TheVariants as attach
use Rattle.resource.specs.Images.{Image, Fewer}
use Rattle.resource.specs.Leaves.{Attaches, Fails, detached}
use Rattle.resource.specs.Reading.{Reading, IsAttachAnswer}
use Rattle.resource.specs.Told.{Told}
use Rattle.vdb_model.specs.declared.table.TableDef.{TableDef}
use Rattle.vdb_session.specs.declared.parts.StartFault.{StartFault}
use Rattle.vdb_session.specs.declared.parts.StartFault.TheVariants as fault
use Rattle.vdb_session.specs.Answer.{IsReady}
use Rattle.vdb_session.specs.Attaching.{AttachesOne, BreaksFirst, StaysStored, StayStored}
use Rattle.vdb_session.specs.Deploying.{DeploysText, StartedOver}
use Rattle.vdb_session.specs.Lanes.{FailedStore, store}
use Rattle.vdb_session.specs.Shown.{tables_for, sees, holds}
use Rattle.vdb_session.specs.Starting.{cell_fault, failed_lane, refusal_of, Deploys, HasReason, IsStartFault, Started, NotStarted}
use Rattle.vdb_session.proofs.SameWorlds.{world_same}

-- where a lane's attach was refused

told_fault : (server : List ℕ) (defs : List TableDef) (reads : Option (List TableDef → Reading)) (a : AttachFault) (r : DeployFault)
    → IfSome reads (λ reads. IsAttachAnswer (reads defs) (Err a)) → refusal_of server defs a ≡ Some r → IfSome reads (λ reads. cell_fault server defs (reads defs) ≡ Some r)
told_fault server defs None a r h e = tt
told_fault server defs (Some reads) (attach.BadCell table row col) r h e = ap (cell_fault server defs) h ∙ e
told_fault server defs (Some reads) (attach.BadStore table) r h e = ap (cell_fault server defs) h ∙ e
told_fault server defs (Some reads) attach.Failed r h e = cc
told_fault server defs (Some reads) attach.Memory r h e = cc

stays_so : (old new : Told) → new ≡ record (detached old) { spare = new.spare } → StaysStored old new
stays_so old new l = record { kept = ap store l; count = ap (λ (t : Told). t.faults) l }

of_before : (before now : Image → Type 0) (reads : Option Image) → ((i : Image) → now i → before i) → IfSome reads now → IfSome reads before
of_before before now None within h = tt
of_before before now (Some i) within h = within i h

fails_so : (old new : Told) (before now : Image → Type 0) → Fewer before now → Fails (record (detached old) { spare = new.spare }) new now → FailedStore before old new
fails_so old new before now fewer l = record {
  caps = ap (λ (t : Told). t.caps) l.stores.same;
  tells = l.stores.tells;
  rose = l.rose;
  reads = inl (of_before before now new.reads fewer.within l.stores.reads);
}

refused_at : {S : Type 0} (told : S → Told) (images : S → Image → Type 0) (cat : Defined) (at : ℕ) (old : Lane S) (new : Told) (now : Image → Type 0) → Fewer (images old.res) now → (a : AttachFault) (f : StartFault)
    → IfSome (told old.res).reads (λ reads. IsAttachAnswer (reads (tables_for cat old.name)) (Err a)) → Attaches (tables_for cat old.name) (told old.res) new now (Err a)
    → IsStartFault old.name (tables_for cat old.name) at a f → AttachesOne told images cat at (Err f) old new
refused_at told images cat at old new now fewer (attach.BadCell table row col) (fault.Refused r) h l e =
    (stays_so (told old.res) new l, told_fault old.name (tables_for cat old.name) (told old.res).reads (attach.BadCell table row col) r h e)
refused_at told images cat at old new now fewer (attach.BadStore table) (fault.Refused r) h l e =
    (stays_so (told old.res) new l, told_fault old.name (tables_for cat old.name) (told old.res).reads (attach.BadStore table) r h e)
refused_at told images cat at old new now fewer attach.Memory (fault.Refused r) h l e = cc
refused_at told images cat at old new now fewer attach.Failed (fault.Refused r) h l e = cc
refused_at told images cat at old new now fewer (attach.BadCell table row col) (fault.Failed lane) h l e = let wrong = e.0 in cc
refused_at told images cat at old new now fewer (attach.BadStore table) (fault.Failed lane) h l e = let wrong = e.0 in cc
refused_at told images cat at old new now fewer attach.Memory (fault.Failed lane) h l e = let wrong = e.0 in cc
refused_at told images cat at old new now fewer attach.Failed (fault.Failed lane) h l e = (e.1, fails_so (told old.res) new (images old.res) now fewer l)
refused_at told images cat at old new now fewer (attach.BadCell table row col) fault.Memory h l e = stays_so (told old.res) new l
refused_at told images cat at old new now fewer (attach.BadStore table) fault.Memory h l e = stays_so (told old.res) new l
refused_at told images cat at old new now fewer attach.Memory fault.Memory h l e = stays_so (told old.res) new l
refused_at told images cat at old new now fewer attach.Failed fault.Memory h l e = absurd (e refl)

pub refused_one : {S : Type 0} (told : S → Told) (images : S → Image → Type 0) (cat : Defined) (at : ℕ) (old : Lane S) (new : Told) (now : Image → Type 0) → Fewer (images old.res) now → (tables : List TableDef) (a : AttachFault) (f : StartFault) → tables ≡ tables_for cat old.name
    → IfSome (told old.res).reads (λ reads. IsAttachAnswer (reads tables) (Err a)) → Attaches tables (told old.res) new now (Err a) → IsStartFault old.name tables at a f
    → AttachesOne told images cat at (Err f) old new
refused_one told images cat at old new now fewer tables a f e h l s =
    refused_at told images cat at old new now fewer a f (subst (λ (ts : List TableDef). IfSome (told old.res).reads (λ reads. IsAttachAnswer (reads ts) (Err a))) e h)
    (subst (λ (ts : List TableDef). Attaches ts (told old.res) new now (Err a)) e l) (subst (λ (ts : List TableDef). IsStartFault old.name ts at a f) e s)

-- why a start is refused: by the text or the deployment, or by a lane
pub undeployed : {S : Type 0} (told : S → Told) (ddl : List ℕ) (lanes : List (Lane S)) (f : StartFault) → DeploysText told ddl lanes (Err f) → HasReason told ddl lanes f
undeployed told ddl lanes (fault.Refused r) (inl h) = inl h
undeployed told ddl lanes (fault.Refused r) (inr h) = inr (inl h)
undeployed told ddl lanes (fault.Failed lane) h = tt
undeployed told ddl lanes fault.Memory h = tt

pub none_failed : {S : Type 0} (told : S → Told) (ddl : List ℕ) (lanes : List (Lane S)) (f : StartFault) → DeploysText told ddl lanes (Err f) → failed_lane f ≡ None
none_failed told ddl lanes (fault.Refused r) h = refl
none_failed told ddl lanes (fault.Failed lane) h = absurd h
none_failed told ddl lanes fault.Memory h = refl

pub unattached : {S : Type 0} (told : S → Told) (ddl : List ℕ) (lanes : List (Lane S)) (cat : Defined) (f : StartFault) → Deploys told ddl lanes cat → BreaksFirst told cat lanes f → HasReason told ddl lanes f
unattached told ddl lanes cat (fault.Refused r) d h = inr (inr (record { cat = cat; deploys = d; first = h }))
unattached told ddl lanes cat (fault.Failed lane) d h = tt
unattached told ddl lanes cat fault.Memory d h = tt

-- the engine of a start, and what it keeps
pub started : {S : Type 0} (told : S → Told) (images : S → Image → Type 0) (ddl : List ℕ) (cat : Defined) (old new : List (Lane S)) → StayStored told images None old new → StartedOver told ddl old cat new
    → Started told (record { ddl = ddl; lanes = old }) (record { parts = record { ddl = ddl; lanes = new }; catalog = cat; broken = false })
started told images ddl cat old new s h = record {
  stays = record { ddl = refl; labels = s.labels; stores = h.attached.stores };
  counts_stay = s.counts;
  deploys = h.deploys;
  reads = h.attached.reads;
  world = world_same (sees told) (holds told cat) cat old new s.labels h.attached.shown;
  whole = refl;
}

pub not_started : {S : Type 0} (told : S → Told) (images : S → Image → Type 0) (ddl : List ℕ) (old new : List (Lane S)) (f : StartFault) → StayStored told images (failed_lane f) old new → HasReason told ddl old f
    → NotStarted told images (record { ddl = ddl; lanes = old }) (record { parts = record { ddl = ddl; lanes = new }; fault = f })
not_started told images ddl old new f s h = record {
  back = record { ddl = refl; labels = s.labels; stores = s.keep };
  lanes = s.counts;
  why = h;
}

pub ready : {S : Type 0} (told : S → Told) (ddl : List ℕ) (cat : Defined) (broken : Bool) (old new : List (Lane S)) → StartedOver told ddl old cat new
    → IsReady told (record { parts = record { ddl = ddl; lanes = new }; catalog = cat; broken = broken })
ready told ddl cat broken old new h = record {
  few = h.few;
  patterns = h.patterns;
  are_attached = h.attached.attached;
}
