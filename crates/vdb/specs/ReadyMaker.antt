-- A maker of parts that are ready: what it tells, and when it fails.
use Rattle.std.specs.Prelude.{◌≡◌, true, false, Option, Some, None, Result, is_err}
use Rattle.vdb_base.specs.declared.calls.Calls.{Calls}
use Rattle.vdb_base.specs.Calls.{is_listed, after_call}
use Rattle.resource.specs.Told.{Told}
use Rattle.vdb.specs.declared.maker.MakeFault.{MakeFault}
use Rattle.vdb.specs.declared.maker.ReadyMaker.{ReadyMaker}
use Rattle.vdb_session.specs.declared.parts.Parts.{Parts}
use Rattle.vdb_session.specs.Lanes.{are_here}
use Rattle.vdb.specs.declared.words.Setup.{Setup}
use Rattle.vdb.specs.Making.{MakerTold, AreFor}

abbrev pub held_of : {S : Type 0} → ReadyMaker S → Option (Parts S)
held_of maker = maker.parts

abbrev pub calls_of : {S : Type 0} → ReadyMaker S → Calls
calls_of maker = maker.calls

abbrev pub ready_told : {S : Type 0} → ReadyMaker S → MakerTold S
ready_told maker = record { held = Some maker.parts; faults = maker.calls.faults }

-- parts are held that are for the setup, and none of their lanes is lost
abbrev pub Serves : {S : Type 0} → (S → Told) → Setup → Option (Parts S) → Type 0
Serves told setup None = ⊥
Serves told setup (Some parts) = AreFor setup parts × (are_here told parts.lanes ≡ true)

-- It fails exactly where the call is listed or the held parts don't serve the setup.
pub record MakesByList {S : Type 0} (told : S → Told) (setup : Setup) (old new : ReadyMaker S) (result : Result (Parts S) MakeFault) : Type 0 where
  pub listed : is_listed (calls_of old) ≡ true → is_err result ≡ true
  pub else_serves : is_listed (calls_of old) ≡ false → is_err result ≡ true → Serves told setup (held_of old) → ⊥
  pub calls : calls_of new ≡ after_call (calls_of old) (is_err result)
