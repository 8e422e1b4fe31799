-- What a folder reads as, table by table.
use Rattle.std.proofs.Common.{◌≡◌, ◌∙◌, ◌++◌, List, [], ◌∷◌, Err, refl, sym, ap, append_assoc}
use Rattle.vdb_model.specs.declared.table.TableDef.{TableDef}
use Rattle.vdb_model.specs.Rows.{Cells}
use Rattle.resource.specs.declared.resource.AttachFault.{AttachFault}
use Rattle.resource.specs.declared.resource.AttachFault.TheVariants as attach
use Rattle.resource.specs.Reading.{Reading, Sound, CellFault, StoreFault}
use Rattle.csv_folder.specs.declared.said.Said.{Said}
use Rattle.csv_folder.specs.Folder.{in_front, with_table}
use Rattle.csv_folder.specs.Saying.{IsTableAnswer}
use Rattle.csv_folder.specs.Told.{ReadsTables}

-- the rows of several tables in front
abbrev pub all_in_front : List (List Cells) → Reading → Reading
all_in_front before (Sound tables branch) = Sound (before ++ tables) branch
all_in_front before (CellFault table row col) = CellFault table row col
all_in_front before (StoreFault table) = StoreFault table

-- one table more
pub more_in_front : (before : List (List Cells)) (rows : List Cells) (later : Reading) → all_in_front (before ++ rows ∷ []) later ≡ all_in_front before (in_front rows later)
more_in_front before rows (Sound tables branch) = ap (λ ts. Sound ts branch) (append_assoc before (rows ∷ []) tables)
more_in_front before rows (CellFault table row col) = refl
more_in_front before rows (StoreFault table) = refl

pub none_in_front : (reading : Reading) → all_in_front [] reading ≡ reading
none_in_front (Sound tables branch) = refl
none_in_front (CellFault table row col) = refl
none_in_front (StoreFault table) = refl

-- the fault of a table is that of all
pub table_stops : (before : List (List Cells)) (d : TableDef) (said : Said) (later whole : Reading) (f : AttachFault) → all_in_front before (with_table d said later) ≡ whole
    → IsTableAnswer d said (Err f) → ReadsTables whole (Err f)
table_stops before d said later whole (attach.BadCell table row col) e (number, is) =
    sym e ∙ ap (λ s. all_in_front before (with_table d s later)) is ∙ ap (λ n. CellFault n row col) (sym number)
table_stops before d said later whole (attach.BadStore table) e (number, is) =
    sym e ∙ ap (λ s. all_in_front before (with_table d s later)) is ∙ ap StoreFault (sym number)
table_stops before d said later whole attach.Failed e h = h
table_stops before d said later whole attach.Memory e h = tt
