-- The order of a walk: parts go from left to right, and the first refusal that is met is the answer.
use Rattle.std.specs.Prelude.{List, [], ◌∷◌, ◌++◌, Result, Ok, Err}
use Rattle.vdb_model.specs.declared.rel.Agg.{Agg}
use Rattle.vdb_model.specs.declared.reply.Refusal.{Refusal}

-- a result, and then what is made of it
abbrev pub next : {A B : Type 0} → Result A Refusal → (A → Result B Refusal) → Result B Refusal
next (Ok x) f = f x
next (Err refusal) f = Err refusal

-- What a part of a text gives, with the aggregates that are met by its end; those that were met before it come in.
abbrev pub Walk : Type 0 → Type 0
Walk A = List Agg → Result (A × List Agg) Refusal

-- what meets no aggregate
abbrev pub given : {A : Type 0} → Result A Refusal → Walk A
given (Ok x) aggs = Ok (x, aggs)
given (Err refusal) aggs = Err refusal

abbrev pub from_there : {A B : Type 0} → Result (A × List Agg) Refusal → (A → Walk B) → Result (B × List Agg) Refusal
from_there (Ok met) f = f met.0 met.1
from_there (Err refusal) f = Err refusal

-- a part, and then what comes after it
abbrev pub in_turn : {A B : Type 0} → Walk A → (A → Walk B) → Walk B
in_turn part f aggs = from_there (part aggs) f

-- a part, and then the operator
abbrev pub one : {A B : Type 0} → Walk A → (A → Result B Refusal) → Walk B
one part f = in_turn part (λ x. given (f x))

-- two parts from left to right, and then the operator
abbrev pub two : {A B C : Type 0} → Walk A → Walk B → (A → B → Result C Refusal) → Walk C
two left right f = in_turn left (λ x. one right (f x))

-- three parts from left to right, and then the operator
abbrev pub three : {A B C D : Type 0} → Walk A → Walk B → Walk C → (A → B → C → Result D Refusal) → Walk D
three left middle right f = in_turn left (λ x. two middle right (f x))

-- parts from left to right, behind those that are made already
abbrev pub all : {A : Type 0} → List (Walk A) → List A → Walk (List A)
all [] made = given (Ok made)
all (part ∷ parts) made = in_turn part (λ x. all parts (made ++ x ∷ []))
