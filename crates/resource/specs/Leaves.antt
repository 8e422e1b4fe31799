-- What calls leave of what a resource tells, and which images they leave.
use Rattle.std.specs.Prelude.{◌≡◌, true, false, List, [], ◌∷◌, ◌++◌, Option, Some, None, is_some, IfSome, Result, Ok, Err}
use Rattle.std.specs.Option.{option_map}
use Rattle.vdb_base.specs.Counts.{Rose}
use Rattle.vdb_model.specs.Rows.{Cells}
use Rattle.vdb_model.specs.World.{is_world}
use Rattle.vdb_model.specs.declared.source.Delta.{Delta}
use Rattle.vdb_model.specs.declared.source.SourceQuery.{SourceQuery}
use Rattle.vdb_model.specs.declared.source.Xid.{Xid}
use Rattle.vdb_model.specs.declared.table.TableDef.{TableDef}
use Rattle.resource.specs.declared.resource.AttachFault.{AttachFault}
use Rattle.resource.specs.declared.resource.AttachFault.TheVariants as attach
use Rattle.resource.specs.declared.resource.ChangeFault.{ChangeFault}
use Rattle.resource.specs.declared.resource.ChangeFault.TheVariants as change
use Rattle.resource.specs.declared.resource.ResFault.{ResFault}
use Rattle.resource.specs.declared.resource.ResFault.TheVariants as fault
use Rattle.resource.specs.declared.resource.ResState.{ResState}
use Rattle.resource.specs.declared.resource.ResState.TheVariants as state
use Rattle.resource.specs.declared.resource.Vote.{Vote}
use Rattle.resource.specs.declared.resource.Vote.TheVariants as vote
use Rattle.resource.specs.Reading.{Branch, Reading, Sound}
use Rattle.resource.specs.Told.{Told, Contents, IsWorld, defs_in, seen, contents_of, no_contents, prepared_in, state_with}
use Rattle.resource.specs.Images.{Image, IsSound, Only, Same, Or, plain, branched, done}

-- all is told as here, but for what the store reads as, which is one of the images
pub record Stores (here new : Told) (now : Image → Type 0) : Type 0 where
  pub same : new ≡ record here { reads = new.reads }
  pub tells : is_some new.reads ≡ is_some here.reads
  pub reads : IfSome new.reads now

-- the count rose, and all else is told so
pub record Fails (here new : Told) (now : Image → Type 0) : Type 0 where
  pub rose : Rose here.faults new.faults
  pub stores : Stores (record here { faults = new.faults }) new now

-- the count alone rose
pub record Faulted (old new : Told) : Type 0 where
  pub rose : Rose old.faults new.faults
  pub same : new ≡ record old { faults = new.faults }

-- A store was read so without a fault: the state and the contents are those of the reading, each table as it is kept and as
-- it is seen has rows that its definition takes, and every image reads so.
pub record HasRead (reading : Reading) (new : Told) (now : Image → Type 0) : Type 0 where
  pub kept : List (List Cells)
  pub branch : Option Branch
  pub is : reading ≡ Sound kept branch
  pub state_is : new.state ≡ state_with branch
  pub contents_are : new.contents ≡ Some (contents_of reading)
  pub kept_fits : is_world (defs_in new) kept ≡ true
  pub work_fits : IsWorld new
  pub sound : IsSound new now

-- after an attach that was refused
abbrev pub detached : Told → Told
detached old = record old { defs = None; reserved = false; contents = option_map (λ reads. no_contents) old.reads }

-- what an attach leaves
abbrev pub Attaches : List TableDef → Told → Told → (Image → Type 0) → Result (Unit {0}) AttachFault → Type 0
Attaches defs old new now (Ok done) =
    (new ≡ record old { state = new.state; reserved = false; defs = Some defs; spare = new.spare; contents = option_map (λ reads. contents_of (reads defs)) old.reads })
    × IfSome old.reads (λ reads. now reads × HasRead (reads defs) new now)
Attaches defs old new now (Err (attach.BadCell table row col)) = new ≡ record (detached old) { spare = new.spare }
Attaches defs old new now (Err (attach.BadStore table)) = new ≡ record (detached old) { spare = new.spare }
Attaches defs old new now (Err attach.Memory) = new ≡ record (detached old) { spare = new.spare }
Attaches defs old new now (Err attach.Failed) = Fails (record (detached old) { spare = new.spare }) new now

-- what a reopening leaves that is Ok
abbrev pub Reopened : Told → Told → (Image → Type 0) → Type 0
Reopened old new now =
    Stores (record old { state = new.state; reserved = false; spare = new.spare; contents = new.contents }) new now
    × (is_some new.contents ≡ is_some old.contents)
    × IfSome old.contents (λ c. (reading : Reading) × HasRead reading new now)

-- what a reopening leaves
abbrev pub Reopens : {T : Type 0} → Told → Told → (Image → Type 0) → Result T ResFault → Type 0
Reopens old new now (Ok done) = Reopened old new now
Reopens old new now (Err fault.Memory) = new ≡ record old { reserved = false; spare = new.spare }
Reopens old new now (Err fault.Failed) = Fails (record old { state = state.Lost; reserved = false; spare = new.spare }) new now

-- one more query was asked
abbrev pub asking : SourceQuery → Told → Told
asking q old = record old { asked = option_map (λ qs. qs ++ q ∷ []) old.asked }

-- what a query leaves
abbrev pub Queries : {T : Type 0} → SourceQuery → Told → Told → Result T ResFault → Type 0
Queries q old new (Ok rows) = new ≡ asking q old
Queries q old new (Err fault.Memory) = new ≡ old
Queries q old new (Err fault.Failed) = Faulted old new

-- no query was asked
abbrev pub unasked : Told → Told
unasked old = record old { asked = option_map (λ qs. []) old.asked }

-- what a call leaves that only moves the state
abbrev pub Moves : {T F : Type 0} → ResState → Told → Told → (Image → Type 0) → Result T F → Type 0
Moves s old new now (Ok done) = new ≡ record old { state = s }
Moves s old new now (Err failed) = Fails (record old { state = state.Lost }) new now

-- the branch took one more delta
abbrev pub adding : Delta → Contents → Contents
adding delta c = record c { deltas = c.deltas ++ delta ∷ [] }

-- what a change leaves
abbrev pub Changes : {T : Type 0} → Delta → Told → Told → (Image → Type 0) → Result T ChangeFault → Type 0
Changes delta old new now (Ok done) = new ≡ record old { contents = option_map (adding delta) old.contents }
Changes delta old new now (Err (change.DuplicateKey table)) = new ≡ old
Changes delta old new now (Err (change.LogFull needed left)) = new ≡ old
Changes delta old new now (Err change.Memory) = new ≡ old
Changes delta old new now (Err change.Failed) = Fails (record old { state = state.Lost }) new now

-- what a prepare leaves; only a branch without a delta votes that it was read alone
abbrev pub Prepares : Xid → Told → Told → (Image → Type 0) → Result Vote ResFault → Type 0
Prepares x old new now (Ok vote.Ready) = Stores (record old { state = state.Prepared x; reserved = false; spare = new.spare }) new now
Prepares x old new now (Ok vote.ReadOnly) = (new ≡ record old { state = state.Idle; reserved = false }) × IfSome old.contents (λ c. c.deltas ≡ [])
Prepares x old new now (Err fault.Memory) = new ≡ record old { reserved = false }
Prepares x old new now (Err fault.Failed) = Fails (record old { state = state.Lost; reserved = false; spare = new.spare }) new now

-- the images after a prepare
abbrev pub PrepareStops : Xid → Told → (Image → Type 0) → (Image → Type 0) → Result Vote ResFault → Type 0
PrepareStops x old before now (Ok vote.Ready) = IfSome old.contents (λ c. Only (defs_in old) (branched x c) now)
PrepareStops x old before now (Ok vote.ReadOnly) = IfSome old.contents (λ c. Only (defs_in old) (plain c) now)
PrepareStops x old before now (Err fault.Memory) = Same before now
PrepareStops x old before now (Err fault.Failed) = IfSome old.contents (λ c. Or (defs_in old) (branched x c) before now)

-- what the reservation of room for a commit in one phase leaves
abbrev pub Reserves : {T F : Type 0} → Told → Told → Result T F → Type 0
Reserves old new (Ok done) = new ≡ record old { reserved = true }
Reserves old new (Err wanting) = new ≡ old

-- the tables as seen are committed
abbrev pub committed : List TableDef → Contents → Contents
committed defs c = record { kept = seen defs c; deltas = [] }

-- the deltas are gone
abbrev pub reverted : Contents → Contents
reverted c = record { kept = c.kept; deltas = [] }

-- what a call leaves that ends the branch, with these contents
abbrev pub Finishes : {T F : Type 0} → (Contents → Contents) → Told → Told → (Image → Type 0) → Result T F → Type 0
Finishes ends old new now (Ok done) = Stores (record old { state = state.Idle; reserved = false; spare = new.spare; contents = option_map ends old.contents }) new now
Finishes ends old new now (Err failed) = Fails (record old { state = state.Lost; reserved = false; spare = new.spare }) new now

-- the images after a commit
abbrev pub CommitStops : {T F : Type 0} → Told → (Image → Type 0) → (Image → Type 0) → Result T F → Type 0
CommitStops old before now (Ok committed) = IfSome old.contents (λ c. Only (defs_in old) (done (defs_in old) c) now)
CommitStops old before now (Err failed) = IfSome old.contents (λ c. Or (defs_in old) (done (defs_in old) c) before now)

-- the images after a rollback that failed: they may have lost a prepared branch, and else are those of before
abbrev pub DropFails : Option Xid → Told → (Image → Type 0) → (Image → Type 0) → Type 0
DropFails None old before now = Same before now
DropFails (Some x) old before now = IfSome old.contents (λ c. Or (defs_in old) (plain c) before now)

-- the images after a rollback
abbrev pub RollbackStops : {T F : Type 0} → Told → (Image → Type 0) → (Image → Type 0) → Result T F → Type 0
RollbackStops old before now (Ok done) = IfSome old.contents (λ c. Only (defs_in old) (plain c) now)
RollbackStops old before now (Err failed) = DropFails (prepared_in old.state) old before now

-- the transaction of the prepared branch, or none; a refusal moves the count alone
abbrev pub Recovers : {F : Type 0} → Told → Told → Result (Option Xid) F → Type 0
Recovers old new (Ok found) = (found ≡ prepared_in old.state) × (new ≡ old)
Recovers old new (Err failed) = Faulted old new
