-- Refusals: their numbers and texts.
use Rattle.std.specs.Prelude.{ℕ, Bool, true, false, List, [], ◌∷◌, ◌++◌, codes}
use Rattle.vdb_base.specs.Print.{quoted}
use Rattle.vdb_model.specs.declared.reply.Refusal.{Refusal}
use Rattle.vdb_model.specs.declared.reply.Refusal.TheVariants.{Syntax, Unknown, Ambiguous, Mismatch, Fractional, TooWide, Unbound, NotUpdatable, ReadOnly, NullInto, DuplicateKey, OutOfRange, TooLong, Raised, BudgetSpent, Transaction, Doomed, TooLarge, LogFull}
use Rattle.vdb_model.specs.Lines.{number_text, parts, numbered}

abbrev pub refusal_number : Refusal → ℕ
refusal_number (Syntax at) = 1
refusal_number (Unknown name) = 2
refusal_number (Ambiguous name) = 3
refusal_number (Mismatch at) = 4
refusal_number (Fractional at) = 5
refusal_number (TooWide at) = 6
refusal_number (Unbound table) = 7
refusal_number (NotUpdatable name) = 8
refusal_number (ReadOnly server) = 9
refusal_number (NullInto column) = 10
refusal_number (DuplicateKey table) = 11
refusal_number (OutOfRange column) = 12
refusal_number (TooLong column) = 13
refusal_number (Raised text) = 14
refusal_number BudgetSpent = 15
refusal_number (Transaction opened) = 16
refusal_number (Doomed number) = 17
refusal_number (TooLarge nodes depth) = 18
refusal_number (LogFull server needed left) = 19

-- a place in the script or the DDL
abbrev pub place_text : ℕ → List ℕ
place_text at = codes "at " ++ number_text at

abbrev pub opened_text : Bool → List ℕ
opened_text true = codes "open"
opened_text false = codes "none"

-- what stands after the number
abbrev pub refusal_text : Refusal → List ℕ
refusal_text (Syntax at) = place_text at
refusal_text (Unknown name) = name
refusal_text (Ambiguous name) = name
refusal_text (Mismatch at) = place_text at
refusal_text (Fractional at) = place_text at
refusal_text (TooWide at) = place_text at
refusal_text (Unbound table) = table
refusal_text (NotUpdatable name) = name
refusal_text (ReadOnly server) = server
refusal_text (NullInto column) = column
refusal_text (DuplicateKey table) = table
refusal_text (OutOfRange column) = column
refusal_text (TooLong column) = column
refusal_text (Raised text) = quoted 39 text
refusal_text BudgetSpent = []
refusal_text (Transaction opened) = opened_text opened
refusal_text (Doomed number) = number_text number
refusal_text (TooLarge nodes depth) = parts (number_text nodes) (number_text depth ∷ [])
refusal_text (LogFull server needed left) = parts server (number_text needed ∷ number_text left ∷ [])

abbrev pub refusal_line : Refusal → List ℕ
refusal_line refusal = numbered (codes "REFUSED") (refusal_number refusal) (refusal_text refusal)
