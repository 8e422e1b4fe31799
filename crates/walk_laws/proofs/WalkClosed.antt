-- What holds of all that a walk gives, where the aggregates that it meets read no variable.
use Rattle.std.proofs.Common.{◌≡◌, true, List, [], ◌∷◌, ◌++◌, Result, Ok, Err, refl, sym, subst}
use Rattle.std.specs.List.{AllByRecursion}
use Rattle.vdb_model.specs.declared.rel.Agg.{Agg}
use Rattle.vdb_model.specs.declared.reply.Refusal.{Refusal}
use Rattle.vdb_model.specs.Closed.{are_closed_aggs}
use Rattle.expr_resolver.specs.Walking.{Walk, given, from_there, in_turn, one, two, three, all}
use Rattle.walk_laws.proofs.Gives.{Gives, gives, refuses, all_append}

-- it holds of what the part gives, and its aggregates read no variable where those before it don't
abbrev pub AndClosed : {A : Type 0} → (A → Type 0) → A × List Agg → Type 0
AndClosed P met = P met.0 × (are_closed_aggs met.1 ≡ true)

pub record Walks {A : Type 0} (part : Walk A) (P : A → Type 0) : Type 0 where
  pub each : (aggs : List Agg) → are_closed_aggs aggs ≡ true → Gives (part aggs) (AndClosed P)

pub walks_same : {A : Type 0} {P : A → Type 0} {part same : Walk A} → ((aggs : List Agg) → part aggs ≡ same aggs) → Walks same P → Walks part P
walks_same {P = P} e h = record { each = λ aggs closed. subst (λ r. Gives r (AndClosed P)) (sym (e aggs)) (h.each aggs closed) }

given_each : {A : Type 0} {P : A → Type 0} (r : Result A Refusal) (aggs : List Agg) → Gives r P → are_closed_aggs aggs ≡ true → Gives (given r aggs) (AndClosed P)
given_each {P = P} (Ok x) aggs h closed = gives (AndClosed P) (x, aggs) (h.each x refl, closed)
given_each {P = P} (Err refusal) aggs h closed = refuses (AndClosed P) refusal

pub walks_given : {A : Type 0} {P : A → Type 0} (r : Result A Refusal) → Gives r P → Walks (given r) P
walks_given r h = record { each = λ aggs closed. given_each r aggs h closed }

from_there_each : {A B : Type 0} {P : A → Type 0} {Q : B → Type 0} (r : Result (A × List Agg) Refusal) (f : A → Walk B) → Gives r (AndClosed P) → ((x : A) → P x → Walks (f x) Q) → Gives (from_there r f) (AndClosed Q)
from_there_each (Ok met) f h after = let m = h.each met refl in (after met.0 m.0).each met.1 m.1
from_there_each {Q = Q} (Err refusal) f h after = refuses (AndClosed Q) refusal

pub walks_in_turn : {A B : Type 0} {P : A → Type 0} {Q : B → Type 0} {part : Walk A} {f : A → Walk B} → Walks part P → ((x : A) → P x → Walks (f x) Q) → Walks (in_turn part f) Q
walks_in_turn {part = part} {f = f} h after = record { each = λ aggs closed. from_there_each (part aggs) f (h.each aggs closed) after }

pub walks_one : {A B : Type 0} {P : A → Type 0} {Q : B → Type 0} {part : Walk A} {f : A → Result B Refusal} → Walks part P → ((x : A) → P x → Gives (f x) Q) → Walks (one part f) Q
walks_one {f = f} h after = walks_in_turn {f = λ x. given (f x)} h (λ x p. walks_given (f x) (after x p))

pub walks_two : {A B C : Type 0} {P : A → Type 0} {Q : B → Type 0} {R : C → Type 0} {left : Walk A} {right : Walk B} {f : A → B → Result C Refusal}
    → Walks left P → Walks right Q → ((x : A) (y : B) → P x → Q y → Gives (f x y) R) → Walks (two left right f) R
walks_two {right = right} {f = f} h k after = walks_in_turn {f = λ x. one right (f x)} h (λ x p. walks_one {f = f x} k (λ y q. after x y p q))

pub walks_three : {A B C D : Type 0} {P : A → Type 0} {Q : B → Type 0} {R : C → Type 0} {S : D → Type 0} {left : Walk A} {middle : Walk B} {right : Walk C} {f : A → B → C → Result D Refusal}
    → Walks left P → Walks middle Q → Walks right R → ((x : A) (y : B) (z : C) → P x → Q y → R z → Gives (f x y z) S) → Walks (three left middle right f) S
walks_three {middle = middle} {right = right} {f = f} h k l after = walks_in_turn {f = λ x. two middle right (f x)} h (λ x p. walks_two {f = f x} k l (λ y z q r. after x y z p q r))

-- each part of a list
abbrev pub AllWalk : {A : Type 0} → (A → Type 0) → List (Walk A) → Type 0
AllWalk P [] = Unit {0}
AllWalk P (part ∷ parts) = Walks part P × AllWalk P parts

pub walks_all : {A : Type 0} (P : A → Type 0) (parts : List (Walk A)) (made : List A) → AllWalk P parts → AllByRecursion P made → Walks (all parts made) (AllByRecursion P)
walks_all P [] made hs is = walks_given (Ok made) (gives (AllByRecursion P) made is)
walks_all P (part ∷ parts) made hs is = walks_in_turn {f = λ x. all parts (made ++ x ∷ [])} hs.0 (λ x h. walks_all P parts (made ++ x ∷ []) hs.1 (all_append P made (x ∷ []) is (h, tt)))
