-- The answers of calls that failed.
use Rattle.std.specs.Prelude.{Bool, true, false, Result, Ok, Err}
use Rattle.resource.specs.declared.resource.AttachFault.{AttachFault}
use Rattle.resource.specs.declared.resource.AttachFault.TheVariants as attach
use Rattle.resource.specs.declared.resource.ChangeFault.{ChangeFault}
use Rattle.resource.specs.declared.resource.ChangeFault.TheVariants as change
use Rattle.resource.specs.declared.resource.ResFault.{ResFault}
use Rattle.resource.specs.declared.resource.ResFault.TheVariants as fault

abbrev pub attach_failed : Result (Unit {0}) AttachFault → Bool
attach_failed (Ok done) = false
attach_failed (Err (attach.BadCell table row col)) = false
attach_failed (Err (attach.BadStore table)) = false
attach_failed (Err attach.Failed) = true
attach_failed (Err attach.Memory) = false

abbrev pub change_failed : {T : Type 0} → Result T ChangeFault → Bool
change_failed (Ok done) = false
change_failed (Err (change.DuplicateKey table)) = false
change_failed (Err (change.LogFull needed left)) = false
change_failed (Err change.Failed) = true
change_failed (Err change.Memory) = false

-- a query, a prepare or a reopening
abbrev pub res_failed : {T : Type 0} → Result T ResFault → Bool
res_failed (Ok done) = false
res_failed (Err fault.Failed) = true
res_failed (Err fault.Memory) = false
