-- A run of the reader over a text.
use Rattle.std.specs.Prelude.{ℕ, true, List, ◌++◌, ◌+◌, ◌≡◌, ◌≤◌, ◌<◌, length, take}
use Rattle.grammar.specs.declared.machine.Symbol.{Symbol}
use Rattle.grammar.specs.declared.machine.Event.{Event}
use Rattle.grammar.specs.declared.machine.Thread.{Thread}
use Rattle.grammar.specs.declared.reader.Run.{Run}
use Rattle.grammar.specs.Table.{Rules}
use Rattle.grammar.specs.Derivation.{Derives, Among}
use Rattle.grammar.specs.Order.{is_up_to}
use Rattle.grammar.specs.Reading.{start_of, IsViable}
use Rattle.grammar.specs.Threads.{Alive}

-- some thread derives it after the actions `base`
abbrev pub AliveFrom : Rules → ℕ → List Event → List Thread → List Event → List ℕ → List ℕ → Type 0
AliveFrom g pos base ths log ts more = (rest : List Event) × (log ≡ base ++ rest) × Alive g pos ths rest ts more

-- The threads are those of a text: they derive what the first symbols derive after the text.
pub record Follows (g : Rules) (first : List Symbol) (seen : List ℕ) (pos : ℕ) (base : List Event) (threads : List Thread) : Type 0 where
  pub sound : (log : List Event) (ts more : List ℕ) → AliveFrom g pos base threads log ts more → Derives g 0 first log (seen ++ ts) more
  pub complete : (log : List Event) (ts more : List ℕ) → Derives g 0 first log (seen ++ ts) more → AliveFrom g pos base threads log ts more

-- the same threads, with actions moved between the base and their own
pub record Settles (base base' : List Event) (old new : List Thread) : Type 0 where
  pub sound : (g : Rules) (pos : ℕ) (log : List Event) (ts more : List ℕ) → AliveFrom g pos base' new log ts more → AliveFrom g pos base old log ts more
  pub complete : (g : Rules) (pos : ℕ) (log : List Event) (ts more : List ℕ) → AliveFrom g pos base old log ts more → AliveFrom g pos base' new log ts more

-- the run went over the longest front of the text, and its threads are those of that front
pub record IsRun (g : Rules) (n : ℕ) (text : List ℕ) (run : Run) : Type 0 where
  pub within : run.at ≤ length text
  pub some : 0 < length run.threads.items
  pub longest : run.at < length text → IsViable g n (take (run.at + 1) text) → ⊥
  pub follows : Follows g (start_of n) (take run.at text) run.at run.done.items run.threads.items

-- a log is the least of some
pub record IsLeast (log : List Event) (among : List (List Event)) : Type 0 where
  pub one : Among log among
  pub least : (other : List Event) → Among other among → is_up_to log other ≡ true
