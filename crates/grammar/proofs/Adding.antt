-- Threads that are added to others, and what they derive.
use Rattle.std.proofs.Common.{ℕ, true, List, [], ◌∷◌, ◌++◌, ◌≡◌, ◌⊎◌, inl, inr, Option, Some, None}
use Rattle.grammar.specs.declared.machine.Symbol.{Symbol}
use Rattle.grammar.specs.declared.machine.Event.{Event}
use Rattle.grammar.specs.declared.machine.Thread.{Thread}
use Rattle.grammar.specs.Table.{Rules}
use Rattle.grammar.specs.Threads.{symbols, Goes, Alive, Adds, AllEnded, KeepsEnded}
use Rattle.grammar.specs.Taking.{takes}

-- A thread at the end.
pub alive_pushed : (g : Rules) (pos : ℕ) (ths : List Thread) (th : Thread) (log : List Event) (ts more : List ℕ)
    → Alive g pos (ths ++ th ∷ []) log ts more → Alive g pos ths log ts more ⊎ Goes g pos th.log.items (symbols th.stack.value) log ts more
alive_pushed g pos [] th log ts more (inl h) = inr h
alive_pushed g pos [] th log ts more (inr h) = inl h
alive_pushed g pos (x ∷ ths) th log ts more (inl h) = inl (inl h)
alive_pushed g pos (x ∷ ths) th log ts more (inr h) = elim (alive_pushed g pos ths th log ts more h) [ inl a ↦ inl (inr a) | inr b ↦ inr b ]

pub alive_push : (g : Rules) (pos : ℕ) (ths : List Thread) (th : Thread) (log : List Event) (ts more : List ℕ)
    → Alive g pos ths log ts more ⊎ Goes g pos th.log.items (symbols th.stack.value) log ts more → Alive g pos (ths ++ th ∷ []) log ts more
alive_push g pos [] th log ts more (inl h) = absurd h
alive_push g pos [] th log ts more (inr h) = inl h
alive_push g pos (x ∷ ths) th log ts more (inl (inl h)) = inl h
alive_push g pos (x ∷ ths) th log ts more (inl (inr h)) = inr (alive_push g pos ths th log ts more (inl h))
alive_push g pos (x ∷ ths) th log ts more (inr h) = inr (alive_push g pos ths th log ts more (inr h))

module _ (g : Rules) (pos : ℕ) where
  pub adds_none : (ths : List Thread) (P : List Event → List ℕ → List ℕ → Type 0) → ((log : List Event) (ts more : List ℕ) → P log ts more → ⊥) → Adds g pos ths ths P
  adds_none ths P h = record { sound = λ log ts more a. inl a; kept = λ log ts more a. a; complete = λ log ts more p. absurd (h log ts more p) }

  pub adds_as : (old new : List Thread) (P Q : List Event → List ℕ → List ℕ → Type 0)
      → ((log : List Event) (ts more : List ℕ) → P log ts more → Q log ts more)
      → ((log : List Event) (ts more : List ℕ) → Q log ts more → P log ts more) → Adds g pos old new P → Adds g pos old new Q
  adds_as old new P Q f b a = record {
    sound = λ log ts more h. elim (a.sound log ts more h) [ inl x ↦ inl x | inr y ↦ inr (f log ts more y) ];
    kept = a.kept;
    complete = λ log ts more q. a.complete log ts more (b log ts more q);
  }

  pub adds_then : (old mid new : List Thread) (P Q R : List Event → List ℕ → List ℕ → Type 0)
      → ((log : List Event) (ts more : List ℕ) → P log ts more → R log ts more)
      → ((log : List Event) (ts more : List ℕ) → Q log ts more → R log ts more)
      → ((log : List Event) (ts more : List ℕ) → R log ts more → P log ts more ⊎ Q log ts more)
      → Adds g pos old mid P → Adds g pos mid new Q → Adds g pos old new R
  adds_then old mid new P Q R p q r a b = record {
    sound = λ log ts more h. elim (b.sound log ts more h) [ inl x ↦ elim (a.sound log ts more x) [ inl y ↦ inl y | inr y ↦ inr (p log ts more y) ] | inr y ↦ inr (q log ts more y) ];
    kept = λ log ts more h. b.kept log ts more (a.kept log ts more h);
    complete = λ log ts more h. elim (r log ts more h) [ inl x ↦ b.kept log ts more (a.complete log ts more x) | inr y ↦ b.complete log ts more y ];
  }

  pub adds_pushed : (ths : List Thread) (th : Thread) → Adds g pos ths (ths ++ th ∷ []) (λ log ts more. Goes g pos th.log.items (symbols th.stack.value) log ts more)
  adds_pushed ths th = record {
    sound = λ log ts more h. alive_pushed g pos ths th log ts more h;
    kept = λ log ts more h. alive_push g pos ths th log ts more (inl h);
    complete = λ log ts more h. alive_push g pos ths th log ts more (inr h);
  }

ended_push : (ths : List Thread) (th : Thread) → symbols th.stack.value ≡ [] → AllEnded ths → AllEnded (ths ++ th ∷ [])
ended_push [] th e a = (e, tt)
ended_push (x ∷ ths) th e a = (a.0, ended_push ths th e a.1)

pub keeps_ended_push : (ths : List Thread) (th : Thread) → symbols th.stack.value ≡ [] → KeepsEnded None ths (ths ++ th ∷ [])
keeps_ended_push ths th e a = ended_push ths th e a

pub keeps_ended_taken : (kinds : List ℕ) (pos : ℕ) (s : Symbol) (t : Option ℕ) (old new : List Thread) → takes kinds pos s t ≡ true → KeepsEnded t old new
keeps_ended_taken kinds pos s (Some t) old new h = tt
keeps_ended_taken kinds pos s None old new h = absurd cc

pub keeps_ended_same : (t : Option ℕ) (ths : List Thread) → KeepsEnded t ths ths
keeps_ended_same (Some t) ths = tt
keeps_ended_same None ths = λ a. a

pub keeps_ended_then : (t : Option ℕ) (old mid new : List Thread) → KeepsEnded t old mid → KeepsEnded t mid new → KeepsEnded t old new
keeps_ended_then (Some t) old mid new a b = tt
keeps_ended_then None old mid new a b = λ x. b (a x)
