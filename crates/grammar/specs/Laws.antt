-- What holds of readings: a text has at most one, its longest front is one, and nothing begins with more than that.
use Rattle.std.specs.Prelude.{ℕ, List, ◌≡◌, ◌+◌, ◌++◌, ◌<◌, length, take}
use Rattle.grammar.specs.declared.machine.Event.{Event}
use Rattle.grammar.specs.Table.{Rules}
use Rattle.grammar.specs.Reading.{IsReading, IsFront, IsNone}

abbrev pub OneReading : Type 0
OneReading = (g : Rules) (n : ℕ) (text : List ℕ) (log other : List Event) → IsReading g n text log → IsReading g n text other → log ≡ other

abbrev pub OneFront : Type 0
OneFront = (g : Rules) (n : ℕ) (text : List ℕ) (at other : ℕ) → IsFront g n text at → IsFront g n text other → at ≡ other

-- the tokens up to and with the one after the front begin no sentence
abbrev pub NoneBegins : Type 0
NoneBegins = (g : Rules) (n : ℕ) (text rest : List ℕ) (at : ℕ) → IsFront g n text at → at < length text → IsNone g n (take (at + 1) text ++ rest)
