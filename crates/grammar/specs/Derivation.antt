-- What a table derives: the texts of a symbol, and the actions on the way.
use Rattle.std.specs.Prelude.{ℕ, Bool, true, false, List, [], ◌∷◌, ◌++◌, ◌+◌, ◌≡◌, ◌==◌}
use Rattle.std.specs.List.{list_any}
use Rattle.grammar.specs.declared.table.Item.{Item}
use Rattle.grammar.specs.declared.machine.Symbol.{Symbol}
use Rattle.grammar.specs.declared.machine.Event.{Event}
use Rattle.grammar.specs.Limits.{children, is_within}
use Rattle.grammar.specs.Table.{Rules, Token, Action, Unless, Choice, rule_of}

abbrev pub has : List ℕ → ℕ → Bool
has kinds t = list_any (λ k. k == t) kinds

-- an element of a list
pub data Among {A : Type 0} : A → List A → Type 0 where
  here : {x : A} {xs : List A} → Among x (x ∷ xs)
  there : {x y : A} {xs : List A} → Among x xs → Among x (y ∷ xs)

-- From the place `pos` on the symbols `ss` derive the tokens `ts`, which are seen and keep the limits, and then `more`,
-- which may follow whatever the limits and guards say of them. The log has the actions in turn, each with the number of
-- tokens before it.
pub data Derives (g : Rules) : ℕ → List Symbol → List Event → List ℕ → List ℕ → Type 0 where
  done : {pos : ℕ} → Derives g pos [] [] [] []
  read : {pos : ℕ} {s : Symbol} {ss : List Symbol} {log : List Event} {t : ℕ} {ts more : List ℕ}
      → (kinds : List ℕ) → rule_of g s.id ≡ Token kinds → has kinds t ≡ true → is_within pos s ≡ true
      → Derives g (pos + 1) ss log ts more → Derives g pos (s ∷ ss) log (t ∷ ts) more
  await : {pos : ℕ} {s : Symbol} {ss : List Symbol} {log : List Event} {t : ℕ} {more : List ℕ}
      → (kinds : List ℕ) → rule_of g s.id ≡ Token kinds → has kinds t ≡ true
      → Derives g (pos + 1) ss log [] more → Derives g pos (s ∷ ss) log [] (t ∷ more)
  act : {pos : ℕ} {s : Symbol} {ss : List Symbol} {log : List Event} {ts more : List ℕ}
      → rule_of g s.id ≡ Action
      → Derives g pos ss log ts more → Derives g pos (s ∷ ss) (record { action = s.id; at = pos } ∷ log) ts more
  pass : {pos : ℕ} {s : Symbol} {ss : List Symbol} {log : List Event} {t : ℕ} {ts more : List ℕ}
      → (kinds : List ℕ) → rule_of g s.id ≡ Unless kinds → has kinds t ≡ false
      → Derives g pos ss log (t ∷ ts) more → Derives g pos (s ∷ ss) log (t ∷ ts) more
  free : {pos : ℕ} {s : Symbol} {ss : List Symbol} {log : List Event} {more : List ℕ}
      → (kinds : List ℕ) → rule_of g s.id ≡ Unless kinds
      → Derives g pos ss log [] more → Derives g pos (s ∷ ss) log [] more
  choose : {pos : ℕ} {s : Symbol} {ss : List Symbol} {log : List Event} {ts more : List ℕ}
      → (weight : ℕ) (solid : Bool) (rank : ℕ) (ps : List (List Item)) (p : List Item)
      → rule_of g s.id ≡ Choice weight solid rank ps → Among p ps
      → Derives g pos (children s p ++ ss) log ts more → Derives g pos (s ∷ ss) log ts more
