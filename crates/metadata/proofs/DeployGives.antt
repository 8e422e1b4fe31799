-- What holds of all that a step of a deployment gives, and what passed tests say.
use Rattle.std.proofs.Common.{◌≡◌, ℕ, ◌≤◌, Bool, true, false, List, [], ◌∷◌, Some, None, Result, Ok, Err, refl, subst, arith}
use Rattle.std.specs.Prelude.{nat_lt, OnOk}
use Rattle.std.specs.List.{AllByRecursion}
use Rattle.std.proofs.lemmas.Bool.Decides.{nat_tests}
use Rattle.vdb_model.specs.declared.reply.DeployFault.{DeployFault}
use Rattle.metadata.specs.declared.fault.DeployRefusal.{DeployRefusal}
use Rattle.metadata.specs.Answers.{Becomes}
use Rattle.metadata.specs.SoFar.{too_many}
use Rattle.metadata.specs.Tests.{Test, fails_if, first, unless_fault, unless, next}

-- it holds of the result, where there is one
pub record Gives {A : Type 0} (r : Result A DeployFault) (P : A → Type 0) : Type 0 where
  pub each : (x : A) → r ≡ Ok x → P x

pub gives : {A : Type 0} (P : A → Type 0) (x : A) → P x → Gives (Ok x) P
gives P x h = record { each = λ y e. subst P (cc e) h }

pub refuses : {A : Type 0} (P : A → Type 0) (fault : DeployFault) → Gives (Err fault) P
refuses P fault = record { each = λ y e. absurd (cc e) }

-- nothing is asked
abbrev pub Any : {A : Type 0} → A → Type 0
Any x = Unit {0}

pub gives_any : {A : Type 0} (r : Result A DeployFault) → Gives r Any
gives_any r = record { each = λ x e. tt }

pub gives_next : {A B : Type 0} {P : A → Type 0} {Q : B → Type 0} {r : Result A DeployFault} {f : A → Result B DeployFault} → Gives r P → ((x : A) → P x → Gives (f x) Q) → Gives (next r f) Q
gives_next {r = Ok x} h after = after x (h.each x refl)
gives_next {Q = Q} {r = Err fault} h after = refuses Q fault

-- the test passes
abbrev pub Passes : Test → Type 0
Passes test = test ≡ None

pub all_pass : (tests : List Test) → first tests ≡ None → AllByRecursion Passes tests
all_pass [] h = tt
all_pass (None ∷ tests) h = (refl, all_pass tests h)
all_pass (Some fault ∷ tests) h = absurd (cc h)

unless_one : {A : Type 0} (P : A → Type 0) (test : Test) (x : A) → (test ≡ None → P x) → Gives (unless_fault test x) P
unless_one P None x h = gives P x (h refl)
unless_one P (Some fault) x h = refuses P fault

-- where all tests pass
pub gives_unless : {A : Type 0} (P : A → Type 0) (tests : List Test) (x : A) → (AllByRecursion Passes tests → P x) → Gives (unless tests x) P
gives_unless P tests x h = unless_one P (first tests) x (λ none. h (all_pass tests none))

pub fails_not : (b : Bool) (fault : DeployFault) → fails_if b fault ≡ None → b ≡ false
fails_not false fault h = refl
fails_not true fault h = absurd (cc h)

pub few : (limit count : ℕ) (name : List ℕ) → too_many limit count name ≡ None → count ≤ limit
few limit count name h = let not_past : nat_lt limit count ≡ false = fails_not (nat_lt limit count) _ h in grind (arith, nat_tests)

-- so it holds of what stands there in the end
pub becomes_holds : {A : Type 0} {P : A → Type 0} {made : Result A DeployFault} → Gives made P → (result : Result (Unit {0}) DeployRefusal) (x : A) → Becomes made result x → OnOk result (P x)
becomes_holds h (Ok done) x is = h.each x is
becomes_holds h (Err refusal) x is = tt
