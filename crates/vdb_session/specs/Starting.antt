-- Starting an engine over parts.
use Rattle.std.specs.Prelude.{◌≡◌, ◌≢◌, ◌⊎◌, ℕ, ◌-◌, ◌==◌, if◌then◌else◌, List, ◌∷◌, ◌++◌, All, map, Option, Some, None, Result, Ok, Err, IfSome, ⊤, false}
use Rattle.vdb_model.specs.declared.reply.DeployFault.{DeployFault}
use Rattle.vdb_model.specs.declared.reply.DeployFault.TheVariants as deploy
use Rattle.vdb_model.specs.declared.table.TableDef.{TableDef}
use Rattle.vdb_model.specs.Defined.{Defined}
use Rattle.vdb_model.specs.Defs.{def_of}
use Rattle.vdb_model.specs.NameText.{name_text, dotted}
use Rattle.resource.specs.declared.lane.Lane.{Lane}
use Rattle.resource.specs.declared.resource.AttachFault.{AttachFault}
use Rattle.resource.specs.declared.resource.AttachFault.TheVariants as attach
use Rattle.resource.specs.Images.{Image}
use Rattle.resource.specs.Reading.{Reading, Sound, CellFault, StoreFault}
use Rattle.resource.specs.Told.{Told}
use Rattle.resolver.specs.Queries.{query_walk}
use Rattle.metadata.specs.declared.connection.ConnInfo.{ConnInfo}
use Rattle.metadata.specs.Deployed.{deployed}
use Rattle.vdb_ddl.specs.declared.tree.Item.{Item}
use Rattle.vdb_ddl.specs.Items.{IsDdl, IsRefused}
use Rattle.vdb_session.specs.declared.parts.Opened.{Opened}
use Rattle.vdb_session.specs.declared.parts.Parts.{Parts}
use Rattle.vdb_session.specs.declared.parts.StartFault.{StartFault}
use Rattle.vdb_session.specs.declared.parts.StartFault.TheVariants as fault
use Rattle.vdb_session.specs.declared.parts.StartRefused.{StartRefused}
use Rattle.vdb_session.specs.Lanes.{LaneCounts, Stays, HandedBack, counts}
use Rattle.vdb_session.specs.Shown.{tables_for, world_by, sees, holds}

-- the table with the number, which is told as one more
abbrev pub table_text : List TableDef → ℕ → List ℕ
table_text tables n = let d = def_of tables (n - 1) in dotted d.schema d.name

abbrev pub store_table : List TableDef → ℕ → Option (List ℕ)
store_table tables n = if n == 0 then None else Some (table_text tables n)

-- the fault of a deployment that the fault of the store of the lane of this name is
abbrev pub cell_fault : List ℕ → List TableDef → Reading → Option DeployFault
cell_fault server tables (Sound rows branch) = None
cell_fault server tables (CellFault table row col) = Some (deploy.BadCell (name_text server) (table_text tables table) row col)
cell_fault server tables (StoreFault table) = Some (deploy.BadStore (name_text server) (store_table tables table))

-- the fault of a deployment, where the attach was refused for what is stored
abbrev pub refusal_of : List ℕ → List TableDef → AttachFault → Option DeployFault
refusal_of server tables (attach.BadCell table row col) = Some (deploy.BadCell (name_text server) (table_text tables table) row col)
refusal_of server tables (attach.BadStore table) = Some (deploy.BadStore (name_text server) (store_table tables table))
refusal_of server tables attach.Failed = None
refusal_of server tables attach.Memory = None

-- what the start's fault says of that of the lane at the place; memory may be wanting for its texts
abbrev pub IsStartFault : List ℕ → List TableDef → ℕ → AttachFault → StartFault → Type 0
IsStartFault server tables at a (fault.Refused f) = refusal_of server tables a ≡ Some f
IsStartFault server tables at a (fault.Failed lane) = (a ≡ attach.Failed) × (lane ≡ at)
IsStartFault server tables at a fault.Memory = a ≢ attach.Failed

-- the connections that the lanes are
abbrev pub connection : {S : Type 0} → (S → Told) → Lane S → ConnInfo
connection told lane = record { name = lane.name; kind = lane.kind; caps = (told lane.res).caps }

-- the DDL's items deploy over the lanes, and define this
pub record Deploys {S : Type 0} (told : S → Told) (ddl : List ℕ) (lanes : List (Lane S)) (cat : Defined) : Type 0 where
  pub items : List Item
  pub reads : IsDdl ddl items
  pub deploys : deployed query_walk (map (connection told) lanes) items ≡ Ok cat

-- where the lane's store tells its contents, it reads so under the lane's tables
abbrev pub ReadsAs : {S : Type 0} → (S → Told) → Defined → Option DeployFault → Lane S → Type 0
ReadsAs told cat fault lane = IfSome (told lane.res).reads (λ reads. cell_fault lane.name (tables_for cat lane.name) (reads (tables_for cat lane.name)) ≡ fault)

-- the DDL is no list of items
pub record NoItems (ddl : List ℕ) (f : DeployFault) : Type 0 where
  pub at : ℕ
  pub refused : IsRefused ddl at
  pub fault : f ≡ deploy.Syntax at

-- they don't deploy
pub record NoDeployment {S : Type 0} (told : S → Told) (ddl : List ℕ) (lanes : List (Lane S)) (f : DeployFault) : Type 0 where
  pub items : List Item
  pub reads : IsDdl ddl items
  pub refused : deployed query_walk (map (connection told) lanes) items ≡ Err f

-- of the lanes in turn this is the first that has a fault
pub record IsFirst {S : Type 0} (Has : Option DeployFault → Lane S → Type 0) (lanes : List (Lane S)) (f : DeployFault) : Type 0 where
  pub before : List (Lane S)
  pub lane : Lane S
  pub after : List (Lane S)
  pub split : lanes ≡ before ++ lane ∷ after
  pub sound : All (Has None) before
  pub has : Has (Some f) lane

-- they deploy, and a stored cell or the form of a stored table breaks its rule: it is the first of the lanes' that does
pub record BadContents {S : Type 0} (told : S → Told) (ddl : List ℕ) (lanes : List (Lane S)) (f : DeployFault) : Type 0 where
  pub cat : Defined
  pub deploys : Deploys told ddl lanes cat
  pub first : IsFirst (ReadsAs told cat) lanes f

abbrev pub IsStartRefusal : {S : Type 0} → (S → Told) → List ℕ → List (Lane S) → DeployFault → Type 0
IsStartRefusal told ddl lanes f = NoItems ddl f ⊎ (NoDeployment told ddl lanes f ⊎ BadContents told ddl lanes f)

abbrev pub failed_lane : StartFault → Option ℕ
failed_lane (fault.Refused f) = None
failed_lane (fault.Failed lane) = Some lane
failed_lane fault.Memory = None

-- why a start was refused
abbrev pub HasReason : {S : Type 0} → (S → Told) → List ℕ → List (Lane S) → StartFault → Type 0
HasReason told ddl lanes (fault.Refused f) = IsStartRefusal told ddl lanes f
HasReason told ddl lanes (fault.Failed lane) = ⊤
HasReason told ddl lanes fault.Memory = ⊤

-- the parts deploy, their contents keep the rules, and the engine works on them: its lanes see the committed rows that their
-- stores held
pub record Started {S : Type 0} (told : S → Told) (parts : Parts S) (engine : Opened S) : Type 0 where
  pub stays : Stays told parts engine.parts
  pub counts_stay : counts told engine.parts ≡ counts told parts
  pub deploys : Deploys told parts.ddl parts.lanes engine.catalog
  pub reads : All (ReadsAs told engine.catalog None) parts.lanes
  pub world : world_by (sees told) engine.catalog engine.parts.lanes ≡ world_by (holds told engine.catalog) engine.catalog parts.lanes
  pub whole : engine.broken ≡ false

-- the parts are handed back with the fault
pub record NotStarted {S : Type 0} (told : S → Told) (images : S → Image → Type 0) (parts : Parts S) (refused : StartRefused S) : Type 0 where
  pub back : HandedBack told images parts refused.parts
  pub lanes : LaneCounts (failed_lane refused.fault) (counts told parts) (counts told refused.parts)
  pub why : HasReason told parts.ddl parts.lanes refused.fault

abbrev pub Starts : {S : Type 0} → (S → Told) → (S → Image → Type 0) → Parts S → Result (Opened S) (StartRefused S) → Type 0
Starts told images parts (Ok engine) = Started told parts engine
Starts told images parts (Err refused) = NotStarted told images parts refused
