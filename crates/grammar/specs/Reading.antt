-- What reading a text gives.
use Rattle.std.specs.Prelude.{ℕ, true, List, [], ◌∷◌, ◌+◌, ◌≡◌, ◌≤◌, ◌<◌, length, take, Result, Ok, Err}
use Rattle.grammar.specs.declared.machine.Symbol.{Symbol}
use Rattle.grammar.specs.declared.machine.Event.{Event}
use Rattle.grammar.specs.declared.fault.ReadFault.{ReadFault}
use Rattle.grammar.specs.declared.fault.ReadFault.TheVariants.{Syntax, Memory}
use Rattle.grammar.specs.Table.{Rules}
use Rattle.grammar.specs.Derivation.{Derives}
use Rattle.grammar.specs.Order.{is_up_to}

abbrev pub start_of : ℕ → List Symbol
start_of n = record { id = n; depth = 0; count = 0 } ∷ []

-- the symbol n derives the text with these actions
abbrev pub IsSentence : Rules → ℕ → List ℕ → List Event → Type 0
IsSentence g n text log = Derives g 0 (start_of n) log text []

-- The text's log: the least of its derivations, of which mostly there is one.
pub record IsReading (g : Rules) (n : ℕ) (text : List ℕ) (log : List Event) : Type 0 where
  pub sentence : IsSentence g n text log
  pub least : (other : List Event) → IsSentence g n text other → is_up_to log other ≡ true

abbrev pub IsNone : Rules → ℕ → List ℕ → Type 0
IsNone g n text = (log : List Event) → IsSentence g n text log → ⊥

-- The tokens begin a sentence: the limits bind them, and not what may follow.
abbrev pub IsViable : Rules → ℕ → List ℕ → Type 0
IsViable g n text = (log : List Event) × (more : List ℕ) × Derives g 0 (start_of n) log text more

-- The longest front of the text that begins a sentence: it ends at the first token with which none begins.
pub record IsFront (g : Rules) (n : ℕ) (text : List ℕ) (at : ℕ) : Type 0 where
  pub within : at ≤ length text
  pub begins : IsViable g n (take at text)
  pub longest : at < length text → IsViable g n (take (at + 1) text) → ⊥

-- where a fault has a place
abbrev pub AtSyntax : ReadFault → (ℕ → Type 0) → Type 0
AtSyntax (Syntax at) P = P at
AtSyntax Memory P = Unit {0}

-- where a reader answers with a place
abbrev pub IfSyntax : {A : Type 0} → Result A ReadFault → (ℕ → Type 0) → Type 0
IfSyntax (Ok x) P = Unit {0}
IfSyntax (Err fault) P = AtSyntax fault P
