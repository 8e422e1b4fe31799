-- Attaching each lane to the tables of its server.
use Rattle.std.specs.Prelude.{◌≡◌, ℕ, List, [], ◌∷◌, All, map, Option, Some, None, Result, Ok, Err, ⊤}
use Rattle.vdb_model.specs.declared.source.Xid.{Xid}
use Rattle.vdb_model.specs.Defined.{Defined}
use Rattle.resource.specs.declared.lane.Lane.{Lane}
use Rattle.resource.specs.declared.resource.ResState.TheVariants as state
use Rattle.resource.specs.Images.{Image}
use Rattle.resource.specs.Lanes.{told_of, labels_of, counts_of}
use Rattle.resource.specs.Needs.{MayAttach}
use Rattle.resource.specs.Leaves.{Finishes, RollbackStops, reverted}
use Rattle.resource.specs.Told.{Told, work}
use Rattle.vdb_session.specs.declared.parts.StartFault.{StartFault}
use Rattle.vdb_session.specs.declared.parts.StartFault.TheVariants as fault
use Rattle.vdb_session.specs.Fetching.{AreAttached}
use Rattle.vdb_session.specs.Lanes.{LaneCounts, AllKeep, KeepStores, KeepsStore, FailedStore, store}
use Rattle.vdb_session.specs.Shown.{tables_for, sees, holds}
use Rattle.vdb_session.specs.Starting.{failed_lane, IsFirst, ReadsAs}

-- the lane may be attached to the tables of its server
abbrev pub TakesTables : {S : Type 0} → (S → Told) → Defined → Lane S → Type 0
TakesTables told cat lane = MayAttach (tables_for cat lane.name) (told lane.res)

-- its store is as it was, and its count stays
pub record StaysStored (old new : Told) : Type 0 where
  pub kept : store new ≡ store old
  pub count : new.faults ≡ old.faults

-- what rolling back the prepared branch of an attached lane answers and leaves, where it has one
abbrev pub RollsBack : Option Xid → ℕ → Result (Unit {0}) StartFault → Told → Told → (Image → Type 0) → (Image → Type 0) → Type 0
RollsBack None at (Ok done) old new before now = new ≡ old
RollsBack None at (Err f) old new before now = ⊥
RollsBack (Some x) at (Ok done) old new before now = Finishes {F = Unit {0}} reverted old new now (Ok done) × RollbackStops {F = Unit {0}} old before now (Ok done)
RollsBack (Some x) at (Err (fault.Refused f)) old new before now = ⊥
RollsBack (Some x) at (Err (fault.Failed lane)) old new before now =
    (lane ≡ at) × Finishes {T = Unit {0}} {F = Unit {0}} reverted old new now (Err tt) × RollbackStops {T = Unit {0}} {F = Unit {0}} old before now (Err tt)
RollsBack (Some x) at (Err fault.Memory) old new before now = ⊥

-- A lane that was attached: its store read without a fault, and it has no branch now and shows the committed rows that its
-- store held.
pub record AttachedTo {S : Type 0} (told : S → Told) (cat : Defined) (old : Lane S) (new : Told) : Type 0 where
  pub keeps : KeepsStore (told old.res) new
  pub count : new.faults ≡ (told old.res).faults
  pub defs : new.defs ≡ Some (tables_for cat old.name)
  pub idle : new.state ≡ state.Idle
  pub reads : ReadsAs told cat None old
  pub shown : work new ≡ holds told cat old

-- the lane at a place is attached, or has this fault
abbrev pub AttachesOne : {S : Type 0} → (S → Told) → (S → Image → Type 0) → Defined → ℕ → Result (Unit {0}) StartFault → Lane S → Told → Type 0
AttachesOne told images cat at (Ok done) old new = AttachedTo told cat old new
AttachesOne told images cat at (Err (fault.Refused f)) old new = StaysStored (told old.res) new × ReadsAs told cat (Some f) old
AttachesOne told images cat at (Err (fault.Failed lane)) old new = (lane ≡ at) × FailedStore (images old.res) (told old.res) new
AttachesOne told images cat at (Err fault.Memory) old new = StaysStored (told old.res) new

-- a lane of the name and kind that was attached
pub record WasAttached {S : Type 0} (told : S → Told) (cat : Defined) (old new : Lane S) : Type 0 where
  pub name : new.name ≡ old.name
  pub attached : AttachedTo told cat old (told new.res)

-- each of the lanes in turn was attached
abbrev pub WereAttached : {S : Type 0} → (S → Told) → Defined → List (Lane S) → List (Lane S) → Type 0
WereAttached told cat [] [] = ⊤
WereAttached told cat [] (new ∷ news) = ⊥
WereAttached told cat (old ∷ olds) [] = ⊥
WereAttached told cat (old ∷ olds) (new ∷ news) = WasAttached told cat old new × WereAttached told cat olds news

-- the first lane whose store breaks a rule
abbrev pub BreaksFirst : {S : Type 0} → (S → Told) → Defined → List (Lane S) → StartFault → Type 0
BreaksFirst told cat lanes (fault.Refused f) = IsFirst (ReadsAs told cat) lanes f
BreaksFirst told cat lanes (fault.Failed lane) = ⊤
BreaksFirst told cat lanes fault.Memory = ⊤

-- all are attached, and they see the committed rows that their stores held
pub record AreAttachedNow {S : Type 0} (told : S → Told) (cat : Defined) (old new : List (Lane S)) : Type 0 where
  pub stores : AllKeep told old new
  pub attached : AreAttached told cat new
  pub reads : All (ReadsAs told cat None) old
  pub shown : map (sees told) new ≡ map (holds told cat) old

abbrev pub AttachesEach : {S : Type 0} → (S → Told) → Defined → Result (Unit {0}) StartFault → List (Lane S) → List (Lane S) → Type 0
AttachesEach told cat (Ok done) old new = AreAttachedNow told cat old new
AttachesEach told cat (Err f) old new = BreaksFirst told cat old f

abbrev pub failed_start : Result (Unit {0}) StartFault → Option ℕ
failed_start (Ok done) = None
failed_start (Err f) = failed_lane f

-- whatever an attach of all leaves: names and kinds, what stores keep, and no count moved but that of the lane that failed
pub record StayStored {S : Type 0} (told : S → Told) (images : S → Image → Type 0) (failed : Option ℕ) (old new : List (Lane S)) : Type 0 where
  pub labels : labels_of new ≡ labels_of old
  pub keep : KeepStores told images old new
  pub counts : LaneCounts failed (counts_of (told_of told old)) (counts_of (told_of told new))
