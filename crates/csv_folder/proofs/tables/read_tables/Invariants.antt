use Rattle.std.proofs.Common.{◌≡◌, drop}
use Rattle.csv_folder.specs.Folder as spec
use Rattle.csv_folder.proofs.TableByTable.{all_in_front}
use Rattle.csv_folder.proofs.tables.read_tables.Given as goal

-- the tables so far, and what those to come read as, are all
abbrev pub invariant-loop-def : goal.invariant-loop-def
invariant-loop-def l = all_in_front l.tables (spec.read_folder l.files (drop l.def-index l.defs)) ≡ spec.read_folder l.files l.defs
