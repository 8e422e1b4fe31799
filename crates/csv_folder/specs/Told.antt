-- What a folder of CSV files tells.
use Rattle.std.specs.Prelude.{◌≡◌, ℕ, Bool, true, false, List, [], ◌∷◌, Option, Some, None, Result, Ok, Err, ⊤}
use Rattle.vdb_model.specs.declared.source.Caps.{Caps}
use Rattle.vdb_model.specs.declared.source.SourceQuery.{SourceQuery}
use Rattle.vdb_model.specs.declared.table.TableDef.{TableDef}
use Rattle.vdb_model.specs.Rows.{Cells}
use Rattle.vdb_model.specs.World.{table_rows}
use Rattle.resource.specs.declared.resource.AttachFault.{AttachFault}
use Rattle.resource.specs.declared.resource.AttachFault.TheVariants.{BadCell, BadStore, Failed, Memory}
use Rattle.resource.specs.declared.resource.ResState.{ResState}
use Rattle.resource.specs.Images.{Image}
use Rattle.resource.specs.Reading.{Reading, Sound, CellFault, StoreFault}
use Rattle.resource.specs.Told.{Told}
use Rattle.csv_folder.specs.declared.file.File.{File}
use Rattle.csv_folder.specs.Folder.{read_folder}

-- equalities, IN of up to 1000 constants and IS NULL, over one table; numbers of any size; no writes
abbrev pub csv_caps : Caps
csv_caps = record {
  equals = true;
  ordered = false;
  in_max = 1000;
  is_null = true;
  like = false;
  or = false;
  not = false;
  joins = false;
  distinct = false;
  order = false;
  limit = false;
  count_star = false;
  wide = true;
  writes = false;
}

-- what is told over files, by what it says of writes, its state, the attached definitions, the rows of their tables in turn
-- and what was asked: it never fails, and no branch changes anything
abbrev pub told_with : List File → Bool → ResState → Option (List TableDef) → List (List Cells) → List SourceQuery → Told
told_with files writes state defs tables asked = record {
  caps = record csv_caps { writes = writes };
  state = state;
  reserved = false;
  defs = defs;
  faults = 0;
  spare = None;
  reads = Some (read_folder files);
  contents = Some (record { kept = tables; deltas = [] });
  asked = Some asked;
}

-- the files are all that a stop can leave
abbrev pub images_with : List File → Image → Type 0
images_with files image = image ≡ read_folder files

-- what reading the tables answers, by what the folder reads as
abbrev pub ReadsTables : Reading → Result (List (List Cells)) AttachFault → Type 0
ReadsTables reading (Ok tables) = reading ≡ Sound tables None
ReadsTables reading (Err (BadCell table row col)) = reading ≡ CellFault table row col
ReadsTables reading (Err (BadStore table)) = reading ≡ StoreFault table
ReadsTables reading (Err Failed) = ⊥
ReadsTables reading (Err Memory) = ⊤

-- the rows of the first of the tables
abbrev pub rows_asked : Option (List TableDef) → List (List Cells) → List ℕ → List Cells
rows_asked None tables numbers = []
rows_asked (Some defs) tables [] = []
rows_asked (Some defs) tables (n ∷ ns) = table_rows defs tables n
