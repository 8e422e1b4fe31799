-- Answers to words: what they ask for, or the word that is wrong or missing.
use Rattle.std.specs.Prelude.{◌≡◌, ℕ, ⊤, Result, Ok, Err}
use Rattle.vdb.specs.declared.words.Setup.{Setup}
use Rattle.vdb.specs.declared.words.WordsFault.{WordsFault}
use Rattle.vdb.specs.declared.words.WordsFault.TheVariants.{Usage, Memory}

-- a usage fault names the word that is wrong or missing
abbrev pub IsUsage : Result Setup ℕ → WordsFault → Type 0
IsUsage wanted (Usage word) = wanted ≡ Err word
IsUsage wanted Memory = ⊤

abbrev pub IsAnswer : Result Setup ℕ → Result Setup WordsFault → Type 0
IsAnswer wanted (Ok s) = wanted ≡ Ok s
IsAnswer wanted (Err fault) = IsUsage wanted fault
