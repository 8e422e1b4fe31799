-- Faults: of a deployment, and of an object of the outside.
use Rattle.std.specs.Prelude.{ℕ, List, [], ◌∷◌, ◌++◌, codes, slice_index_or, Option, Some, None}
use Rattle.vdb_model.specs.declared.reply.DeployFault.{DeployFault}
use Rattle.vdb_model.specs.declared.reply.DeployFault.TheVariants.{Syntax, Duplicate, Unknown, FractionalType, BadOption, NoConnection, WrongKind, Columns, Limit, BadPattern, BadCell, BadStore, Astray, Body, JournalFull}
use Rattle.vdb_model.specs.declared.reply.Who.{Who}
use Rattle.vdb_model.specs.declared.reply.Who.TheVariants.{Maker, Feed, Keeper, Lane}
use Rattle.vdb_model.specs.declared.reply.Phase.{Phase}
use Rattle.vdb_model.specs.declared.reply.Phase.TheVariants.{Plain, Undecided, InDoubt, Decided}
use Rattle.vdb_model.specs.Lines.{line, number_text, parts, numbered}
use Rattle.vdb_model.specs.RefusalText.{place_text}

abbrev pub deploy_number : DeployFault → ℕ
deploy_number (Syntax at) = 31
deploy_number (Duplicate name) = 32
deploy_number (Unknown name) = 33
deploy_number (FractionalType at) = 34
deploy_number (BadOption at) = 35
deploy_number (NoConnection server) = 36
deploy_number (WrongKind name) = 37
deploy_number (Columns name) = 38
deploy_number (Limit name count) = 39
deploy_number (BadPattern table) = 40
deploy_number (BadCell server table row col) = 41
deploy_number (BadStore server table) = 42
deploy_number (Astray server epoch ours) = 43
deploy_number (Body name number) = 44
deploy_number JournalFull = 45

-- a table, or 0 for the whole store
abbrev pub store_text : Option (List ℕ) → List ℕ
store_text None = codes "0"
store_text (Some table) = table

-- what stands after the number
abbrev pub deploy_text : DeployFault → List ℕ
deploy_text (Syntax at) = place_text at
deploy_text (Duplicate name) = name
deploy_text (Unknown name) = name
deploy_text (FractionalType at) = place_text at
deploy_text (BadOption at) = place_text at
deploy_text (NoConnection server) = server
deploy_text (WrongKind name) = name
deploy_text (Columns name) = name
deploy_text (Limit name count) = parts name (number_text count ∷ [])
deploy_text (BadPattern table) = table
deploy_text (BadCell server table row col) = parts server (table ∷ number_text row ∷ number_text col ∷ [])
deploy_text (BadStore server table) = parts server (store_text table ∷ [])
deploy_text (Astray server epoch ours) = parts server (number_text epoch ∷ number_text ours ∷ [])
deploy_text (Body name number) = parts name (number_text number ∷ [])
deploy_text JournalFull = []

abbrev pub deploy_line : DeployFault → List ℕ
deploy_line fault = numbered (codes "DEPLOY") (deploy_number fault) (deploy_text fault)

-- whose fault it is, by the texts of the lanes' names
abbrev pub who_text : List (List ℕ) → Who → List ℕ
who_text lanes Maker = codes "maker"
who_text lanes Feed = codes "feed"
who_text lanes Keeper = codes "keeper"
who_text lanes (Lane at) = slice_index_or lanes at []

abbrev pub phase_text : Phase → List ℕ
phase_text Plain = []
phase_text Undecided = codes " undecided"
phase_text InDoubt = codes " in doubt"
phase_text Decided = codes " decided"

abbrev pub fault_line : List (List ℕ) → Who → Phase → List ℕ
fault_line lanes who phase = line (codes "FAULT " ++ who_text lanes who ++ phase_text phase)
