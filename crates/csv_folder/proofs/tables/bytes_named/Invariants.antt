use Rattle.std.proofs.Common.{◌≡◌, drop}
use Rattle.csv_folder.specs.Folder as spec
use Rattle.csv_folder.proofs.tables.bytes_named.Given as goal

-- the file is among those that are left
abbrev pub invariant-loop-file : goal.invariant-loop-file
invariant-loop-file l = spec.bytes_named l.name (drop l.file-index l.files) ≡ spec.bytes_named l.name l.files
