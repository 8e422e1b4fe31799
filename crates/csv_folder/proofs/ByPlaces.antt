-- The cells of records by the places of the columns, and what a file says under its header.
use Rattle.std.proofs.Common.{◌≡◌, ◌∙◌, ◌&&◌, if◌then◌else◌, ℕ, Bool, true, false, List, [], ◌∷◌, length, refl, sym, ap}
use Rattle.vdb_model.specs.declared.table.ColumnDef.{ColumnDef}
use Rattle.vdb_model.specs.declared.table.TableDef.{TableDef}
use Rattle.csv_folder.specs.declared.said.Said.{Said}
use Rattle.csv_folder.specs.declared.said.Said.TheVariants.{Broken}
use Rattle.csv_folder.specs.Cells.{same_folded, cell_of}
use Rattle.csv_folder.specs.Header.{are_apart, names_all, field_under, cells_of, cells_of_each, all_long}
use Rattle.csv_folder.specs.Keys.{keeps_key}
use Rattle.csv_folder.specs.Places.{places_in, cells_at, cells_at_each}
use Rattle.csv_folder.specs.Records.{Fields}
use Rattle.csv_folder.specs.SoFar.{left_say}
use Rattle.csv_folder.specs.Table.{cells_say, records_say}

same_cells : (cs : List ColumnDef) (header fields : Fields) → cells_at cs (places_in cs header) fields ≡ cells_of cs header fields
same_cells [] header fields = refl
same_cells (c ∷ cs) header fields = ap (λ cells. cell_of c (field_under c.source header fields) ∷ cells) (same_cells cs header fields)

same_cells_each : (cs : List ColumnDef) (header : Fields) (records : List Fields) → cells_at_each cs (places_in cs header) records ≡ cells_of_each cs header records
same_cells_each cs header [] = refl
same_cells_each cs header (fields ∷ records) =
    ap (λ cells. cells ∷ cells_at_each cs (places_in cs header) records) (same_cells cs header fields)
    ∙ ap (λ more. cells_of cs header fields ∷ more) (same_cells_each cs header records)

-- the form of a file is broken in its header, or it is for the records to say
abbrev says_if : TableDef → Fields → List Fields → Bool → Bool → Said
says_if d header records apart named =
    let cells = cells_of_each d.columns header records in
    if ((apart && named) && all_long (length header) records) && keeps_key d.key cells then cells_say cells else Broken

pub not_apart : (d : TableDef) (header : Fields) (records : List Fields) → are_apart same_folded header ≡ false → records_say d (header ∷ records) ≡ Broken
not_apart d header records e = ap (λ b. says_if d header records b (names_all d.columns header)) e

pub not_named : (d : TableDef) (header : Fields) (records : List Fields) → names_all d.columns header ≡ false → records_say d (header ∷ records) ≡ Broken
not_named d header records e = ap (says_if d header records (are_apart same_folded header)) e ∙ here (are_apart same_folded header)
  where
    here : (a : Bool) → says_if d header records a false ≡ Broken
    here true = refl
    here false = refl

pub under_header : (d : TableDef) (header : Fields) (records : List Fields) (places : List ℕ) → are_apart same_folded header ≡ true → names_all d.columns header ≡ true → places ≡ places_in d.columns header
    → records_say d (header ∷ records) ≡ left_say d places (length header) records
under_header d header records places apart named e =
    ap (λ b. says_if d header records b (names_all d.columns header)) apart
    ∙ ap (says_if d header records true) named
    ∙ sym (ap (λ cells. if all_long (length header) records && keeps_key d.key cells then cells_say cells else Broken) (same_cells_each d.columns header records))
    ∙ sym (ap (λ ps. left_say d ps (length header) records) e)
