-- From a DDL over lanes to a catalog whose lanes are attached.
use Rattle.std.specs.Prelude.{◌⊎◌, ℕ, ◌≤◌, List, length, Option, None, Result, Ok, Err, ⊤}
use Rattle.vdb_model.specs.Defined.{Defined}
use Rattle.catalog_laws.specs.Over.{HasNoPatterns}
use Rattle.resource.specs.declared.lane.Lane.{Lane}
use Rattle.resource.specs.Told.{Told}
use Rattle.vdb_session.specs.declared.parts.StartFault.{StartFault}
use Rattle.vdb_session.specs.declared.parts.StartFault.TheVariants as fault
use Rattle.vdb_session.specs.Attaching.{AreAttachedNow}
use Rattle.vdb_session.specs.Starting.{failed_lane, Deploys, NoItems, NoDeployment, HasReason}

-- what a DDL defines over lanes, or why it defines nothing
abbrev pub DeploysText : {S : Type 0} → (S → Told) → List ℕ → List (Lane S) → Result Defined StartFault → Type 0
DeploysText told ddl lanes (Ok cat) = Deploys told ddl lanes cat
DeploysText told ddl lanes (Err (fault.Refused f)) = NoItems ddl f ⊎ NoDeployment told ddl lanes f
DeploysText told ddl lanes (Err (fault.Failed lane)) = ⊥
DeploysText told ddl lanes (Err fault.Memory) = ⊤

-- it deploys without access patterns, and the lanes are attached
pub record StartedOver {S : Type 0} (told : S → Told) (ddl : List ℕ) (old : List (Lane S)) (cat : Defined) (new : List (Lane S)) : Type 0 where
  pub few : length new ≤ 4294967295
  pub deploys : Deploys told ddl old cat
  pub patterns : HasNoPatterns cat
  pub attached : AreAttachedNow told cat old new

abbrev pub StartsOver : {S : Type 0} → (S → Told) → List ℕ → List (Lane S) → Result Defined StartFault → List (Lane S) → Type 0
StartsOver told ddl old (Ok cat) new = StartedOver told ddl old cat new
StartsOver told ddl old (Err f) new = HasReason told ddl old f

abbrev pub failed_deploy : Result Defined StartFault → Option ℕ
failed_deploy (Ok cat) = None
failed_deploy (Err f) = failed_lane f
