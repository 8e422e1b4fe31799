-- What is made unless a test fails, by what the tests give.
use Rattle.std.proofs.Common.{◌≡◌, List, None, Ok, Err, ap}
use Rattle.metadata.specs.declared.fault.DeployRefusal.{DeployRefusal}
use Rattle.metadata.specs.Answers.{Passes, Becomes}
use Rattle.metadata.specs.Tests.{Test, first, unless_fault, unless}

pub made : {A : Type 0} (tests : List Test) (x : A) → first tests ≡ None → unless tests x ≡ Ok x
made tests x h = ap (λ (t : Test). unless_fault t x) h

pub refused : {A : Type 0} (tests : List Test) (x y : A) (refusal : DeployRefusal) → Passes (first tests) (Err refusal) → Becomes (unless tests x) (Err refusal) y
refused tests x y refusal h known = ap (λ (t : Test). unless_fault t x) (h known)
