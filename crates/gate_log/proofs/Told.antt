-- What is told, where it is told.
use Rattle.std.proofs.Common.{◌≡◌, ℕ, List, Option, Some, None, IfSome, refl, subst}
use Rattle.gate_log.specs.Disk.{DiskTold}

-- what holds at each told value holds where it is told
pub if_told : {A : Type 0} (o : Option A) (P : A → Type 0) → ((x : A) → o ≡ Some x → P x) → IfSome o P
if_told None P f = tt
if_told (Some x) P f = f x refl

-- what holds where it is told holds at the told value
pub at_told : {A : Type 0} (o : Option A) (x : A) (P : A → Type 0) → o ≡ Some x → IfSome o P → P x
at_told None x P e h = cc
at_told (Some y) x P e h = let same : y ≡ x = cc in subst P same h

-- the same of a disk that tells the same
pub told_as : (s t : DiskTold) (P : List ℕ → Type 0) → s ≡ t → IfSome s.bytes P → IfSome t.bytes P
told_as s t P e h = subst (λ (d : DiskTold). IfSome d.bytes P) e h

-- one fact from another, where it is told
pub told_map : {A : Type 0} (o : Option A) (P Q : A → Type 0) → ((x : A) → P x → Q x) → IfSome o P → IfSome o Q
told_map None P Q f h = tt
told_map (Some x) P Q f h = f x h
