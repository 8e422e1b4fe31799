-- What holds of a result that a walk gives.
use Rattle.std.proofs.Common.{◌≡◌, ℕ, Bool, true, false, if◌then◌else◌, List, [], ◌∷◌, ◌++◌, Result, Ok, Err, refl, subst}
use Rattle.std.specs.List.{AllByRecursion}
use Rattle.vdb_model.specs.declared.reply.Refusal.{Refusal}
use Rattle.vdb_model.specs.declared.reply.Refusal.TheVariants.{Unknown, Ambiguous}
use Rattle.expr_resolver.specs.Scope.{only}
use Rattle.expr_resolver.specs.Walking.{next}

-- it holds of the result, where there is one
pub record Gives {A : Type 0} (r : Result A Refusal) (P : A → Type 0) : Type 0 where
  pub each : (x : A) → r ≡ Ok x → P x

pub gives : {A : Type 0} (P : A → Type 0) (x : A) → P x → Gives (Ok x) P
gives P x h = record { each = λ y e. subst P (cc e) h }

pub refuses : {A : Type 0} (P : A → Type 0) (refusal : Refusal) → Gives (Err refusal) P
refuses P refusal = record { each = λ y e. absurd (cc e) }

-- nothing is asked
abbrev pub Any : {A : Type 0} → A → Type 0
Any x = Unit {0}

pub gives_any : {A : Type 0} (r : Result A Refusal) → Gives r Any
gives_any r = record { each = λ x e. tt }

-- and so what follows from it
pub gives_become : {A : Type 0} {P Q : A → Type 0} {r : Result A Refusal} → Gives r P → ((x : A) → P x → Q x) → Gives r Q
gives_become h becomes = record { each = λ x e. becomes x (h.each x e) }

pub gives_unless : {A : Type 0} (P : A → Type 0) (b : Bool) (refusal : Refusal) (r : Result A Refusal) → Gives r P → Gives (if b then Err refusal else r) P
gives_unless P true refusal r h = refuses P refusal
gives_unless P false refusal r h = h

pub gives_if_else : {A : Type 0} (P : A → Type 0) (b : Bool) (r : Result A Refusal) (refusal : Refusal) → Gives r P → Gives (if b then r else Err refusal) P
gives_if_else P true r refusal h = h
gives_if_else P false r refusal h = refuses P refusal

pub gives_ok_where : {A : Type 0} (P : A → Type 0) (b : Bool) (x : A) (refusal : Refusal) → (b ≡ true → P x) → Gives (if b then Ok x else Err refusal) P
gives_ok_where P true x refusal h = gives P x (h refl)
gives_ok_where P false x refusal h = refuses P refusal

-- where the test holds
pub gives_where : {A : Type 0} (P : A → Type 0) (b : Bool) (r : Result A Refusal) (refusal : Refusal) → (b ≡ true → Gives r P) → Gives (if b then r else Err refusal) P
gives_where P true r refusal h = h refl
gives_where P false r refusal h = refuses P refusal

pub gives_next : {A B : Type 0} {P : A → Type 0} {Q : B → Type 0} {r : Result A Refusal} {f : A → Result B Refusal} → Gives r P → ((x : A) → P x → Gives (f x) Q) → Gives (next r f) Q
gives_next {r = Ok x} h after = after x (h.each x refl)
gives_next {Q = Q} {r = Err refusal} h after = refuses Q refusal

pub gives_only : {A : Type 0} (P : A → Type 0) (name : List ℕ) (xs : List A) → AllByRecursion P xs → Gives (only name xs) P
gives_only P name [] all = refuses P (Unknown name)
gives_only P name (x ∷ []) all = gives P x all.0
gives_only P name (x ∷ y ∷ more) all = refuses P (Ambiguous name)

pub all_append : {A : Type 0} (P : A → Type 0) (xs ys : List A) → AllByRecursion P xs → AllByRecursion P ys → AllByRecursion P (xs ++ ys)
all_append P [] ys all more = more
all_append P (x ∷ xs) ys all more = (all.0, all_append P xs ys all.1 more)

pub all_become : {A : Type 0} (P Q : A → Type 0) (xs : List A) → ((x : A) → P x → Q x) → AllByRecursion P xs → AllByRecursion Q xs
all_become P Q [] becomes all = tt
all_become P Q (x ∷ xs) becomes all = (becomes x all.0, all_become P Q xs becomes all.1)
