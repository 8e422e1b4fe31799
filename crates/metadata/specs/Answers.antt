-- What a step of a deployment answers: what is defined, or that memory was wanting.
use Rattle.std.specs.Prelude.{◌≡◌, Bool, true, false, Some, None, Result, Ok, Err}
use Rattle.vdb_model.specs.declared.reply.DeployFault.{DeployFault}
use Rattle.vdb_model.specs.declared.reply.DeployFault.TheVariants.{JournalFull}
use Rattle.metadata.specs.declared.fault.DeployRefusal.{DeployRefusal}
use Rattle.metadata.specs.declared.fault.DeployRefusal.TheVariants.{Refused, Memory}
use Rattle.metadata.specs.Tests.{Test}

abbrev pub is_memory : DeployRefusal → Bool
is_memory (Refused fault) = false
is_memory Memory = true

-- the fault of a refusal that isn't want of memory
abbrev pub fault_of : DeployRefusal → DeployFault
fault_of (Refused fault) = fault
fault_of Memory = JournalFull

-- A test that passed, or its fault where memory wasn't wanting.
abbrev pub Passes : Test → Result (Unit {0}) DeployRefusal → Type 0
Passes test (Ok done) = test ≡ None
Passes test (Err refusal) = is_memory refusal ≡ false → test ≡ Some (fault_of refusal)

-- What is made, or the fault where memory wasn't wanting.
abbrev pub Makes : {A : Type 0} → Result A DeployFault → Result A DeployRefusal → Type 0
Makes made (Ok x) = made ≡ Ok x
Makes made (Err refusal) = is_memory refusal ≡ false → made ≡ Err (fault_of refusal)

-- What stands there in the end is what is made, or there is the fault where memory wasn't wanting.
abbrev pub Becomes : {A : Type 0} → Result A DeployFault → Result (Unit {0}) DeployRefusal → A → Type 0
Becomes made (Ok done) x = made ≡ Ok x
Becomes made (Err refusal) x = is_memory refusal ≡ false → made ≡ Err (fault_of refusal)
