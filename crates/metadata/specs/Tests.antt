-- The order of faults: tests stand in the order in which they are tried, and the first that fails gives the fault.
use Rattle.std.specs.Prelude.{Bool, if◌then◌else◌, List, [], ◌∷◌, Option, Some, None, Result, Ok, Err}
use Rattle.vdb_model.specs.declared.reply.DeployFault.{DeployFault}

-- a test: the fault, where it fails
abbrev pub Test : Type 0
Test = Option DeployFault

-- fails where it holds
abbrev pub fails_if : Bool → DeployFault → Test
fails_if holds fault = if holds then Some fault else None

abbrev pub first : List Test → Test
first [] = None
first (None ∷ tests) = first tests
first (Some fault ∷ tests) = Some fault

abbrev pub unless_fault : {A : Type 0} → Test → A → Result A DeployFault
unless_fault None x = Ok x
unless_fault (Some fault) x = Err fault

-- what is made, unless a test fails
abbrev pub unless : {A : Type 0} → List Test → A → Result A DeployFault
unless tests x = unless_fault (first tests) x

-- a result, and then what is made of it
abbrev pub next : {A B : Type 0} → Result A DeployFault → (A → Result B DeployFault) → Result B DeployFault
next (Ok x) f = f x
next (Err fault) f = Err fault
