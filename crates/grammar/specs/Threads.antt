-- The reader's threads: each has a stack of symbols that may derive what is left, and the actions so far.
use Rattle.std.specs.Prelude.{ℕ, List, [], ◌∷◌, ◌++◌, ◌≡◌, ◌⊎◌, Option, Some, None}
use Rattle.grammar.specs.declared.table.Item.{Item}
use Rattle.grammar.specs.declared.machine.Symbol.{Symbol}
use Rattle.grammar.specs.declared.machine.Event.{Event}
use Rattle.grammar.specs.declared.machine.Stack.{Stack}
use Rattle.grammar.specs.declared.machine.Stack.TheVariants.{Empty, On'}
use Rattle.grammar.specs.declared.machine.Thread.{Thread}
use Rattle.grammar.specs.Table.{Rules}
use Rattle.grammar.specs.Derivation.{Derives, Among}
use Rattle.grammar.specs.Limits.{children}

abbrev pub symbols : Stack → List Symbol
symbols Empty = []
symbols (On' s p rest) = s ∷ symbols rest

abbrev pub logs : List Thread → List (List Event)
logs [] = []
logs (th ∷ ths) = th.log.items ∷ logs ths

-- after the actions `trail`, the symbols derive the rest
abbrev pub Goes : Rules → ℕ → List Event → List Symbol → List Event → List ℕ → List ℕ → Type 0
Goes g pos trail ss log ts more = (rest : List Event) × (log ≡ trail ++ rest) × Derives g pos ss rest ts more

-- some thread derives it
abbrev pub Alive : Rules → ℕ → List Thread → List Event → List ℕ → List ℕ → Type 0
Alive g pos [] log ts more = ⊥
Alive g pos (th ∷ ths) log ts more = Goes g pos th.log.items (symbols th.stack.value) log ts more ⊎ Alive g pos ths log ts more

-- the new threads derive what the old ones do, and what P says, and nothing else
pub record Adds (g : Rules) (pos : ℕ) (old new : List Thread) (P : List Event → List ℕ → List ℕ → Type 0) : Type 0 where
  pub sound : (log : List Event) (ts more : List ℕ) → Alive g pos new log ts more → Alive g pos old log ts more ⊎ P log ts more
  pub kept : (log : List Event) (ts more : List ℕ) → Alive g pos old log ts more → Alive g pos new log ts more
  pub complete : (log : List Event) (ts more : List ℕ) → P log ts more → Alive g pos new log ts more

-- the text from a token on, or nothing at the end of the text
abbrev pub text_from : Option ℕ → List ℕ → List ℕ
text_from (Some t) ts = t ∷ ts
text_from None ts = []

-- at the end of the text nothing follows
abbrev pub Closes : Option ℕ → List ℕ → List ℕ → Type 0
Closes (Some t) ts more = Unit {0}
Closes None ts more = (ts ≡ []) × (more ≡ [])

-- after the actions `trail`, the symbols derive the token, or the end, and the rest
abbrev pub Reads : Rules → ℕ → List Event → List Symbol → Option ℕ → List Event → List ℕ → List ℕ → Type 0
Reads g pos trail ss t log ts more = Closes t ts more × Goes g pos trail ss log (text_from t ts) more

abbrev pub SomeReads : Rules → ℕ → List Thread → Option ℕ → List Event → List ℕ → List ℕ → Type 0
SomeReads g pos ths t log ts more = Closes t ts more × Alive g pos ths log (text_from t ts) more

-- one of the alternatives, where the symbol s stood, does
abbrev pub OpensTo : Rules → ℕ → List Event → Symbol → List (List Item) → List Symbol → Option ℕ → List Event → List ℕ → List ℕ → Type 0
OpensTo g pos trail s ps ss t log ts more = (p : List Item) × Among p ps × Reads g pos trail (children s p ++ ss) t log ts more

-- each thread has come to its end
abbrev pub AllEnded : List Thread → Type 0
AllEnded [] = Unit {0}
AllEnded (th ∷ ths) = (symbols th.stack.value ≡ []) × AllEnded ths

-- at the end of the text, only threads at their end are added
abbrev pub KeepsEnded : Option ℕ → List Thread → List Thread → Type 0
KeepsEnded (Some t) old new = Unit {0}
KeepsEnded None old new = AllEnded old → AllEnded new
