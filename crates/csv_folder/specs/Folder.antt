-- What a folder of files reads as under definitions of tables.
use Rattle.std.specs.Prelude.{ℕ, ◌+◌, if◌then◌else◌, List, [], ◌∷◌, ◌++◌, codes, Option, Some, None}
use Rattle.vdb_model.specs.declared.table.TableDef.{TableDef}
use Rattle.vdb_model.specs.Defs.{same_name}
use Rattle.vdb_model.specs.Rows.{Cells}
use Rattle.resource.specs.Reading.{Reading, Sound, CellFault, StoreFault}
use Rattle.csv_folder.specs.declared.file.File.{File}
use Rattle.csv_folder.specs.declared.said.Said.{Said}
use Rattle.csv_folder.specs.declared.said.Said.TheVariants.{Rows, Broken, BadCell}
use Rattle.csv_folder.specs.Table.{file_says}

-- the bytes of the file with the name
abbrev pub bytes_named : List ℕ → List File → Option (List ℕ)
bytes_named name [] = None
bytes_named name (file ∷ files) = if same_name file.name name then Some file.bytes else bytes_named name files

-- the name of a table's file
abbrev pub file_name : TableDef → List ℕ
file_name d = d.source ++ codes ".csv"

abbrev pub table_says : List File → TableDef → Said
table_says files d = file_says d (bytes_named (file_name d) files)

-- one more table in front
abbrev pub in_front : List Cells → Reading → Reading
in_front rows (Sound tables branch) = Sound (rows ∷ tables) branch
in_front rows (CellFault table row col) = CellFault table row col
in_front rows (StoreFault table) = StoreFault table

-- the rows of a table before those after it, or its fault; a table is named by its number plus 1
abbrev pub with_table : TableDef → Said → Reading → Reading
with_table d (Rows rows) later = in_front rows later
with_table d Broken later = StoreFault (d.number + 1)
with_table d (BadCell row col) later = CellFault (d.number + 1) row col

-- the rows of the tables in turn, or the first fault; there is never a branch
abbrev pub read_folder : List File → List TableDef → Reading
read_folder files [] = Sound [] None
read_folder files (d ∷ ds) = with_table d (table_says files d) (read_folder files ds)
