-- Tables that read without a fault have rows that their definitions take.
use Rattle.std.proofs.Common.{◌≡◌, ◌∙◌, ◌+◌, ◌&&◌, ◌||◌, not, if◌then◌else◌, ℕ, zero, suc, Bool, true, false, List, [], ◌∷◌, Option, Some, None, length, refl, sym, ap}
use Rattle.std.specs.List.{list_any}
use Rattle.std.specs.Prelude.{nat_le, slice_index_or}
use Rattle.std.proofs.lemmas.Bool.{and_from}
use Rattle.std.specs.Option.{option_or}
use Rattle.vdb_base.specs.declared.value.Value.{Value}
use Rattle.vdb_base.specs.declared.value.Value.TheVariants.{Null}
use Rattle.vdb_model.specs.declared.table.ColumnDef.{ColumnDef}
use Rattle.vdb_model.specs.declared.table.TableDef.{TableDef}
use Rattle.vdb_model.specs.Meaning.{cell}
use Rattle.vdb_model.specs.Rows.{Cells, same_row, cut, cut_rows}
use Rattle.vdb_model.specs.World.{takes_cell, takes_row, takes_rows, are_keyed_apart, keeps_key as world_keeps_key, is_table, is_world}
use Rattle.resource.specs.Reading.{Branch, Reading, Sound, CellFault, StoreFault}
use Rattle.csv_folder.specs.declared.file.File.{File}
use Rattle.csv_folder.specs.declared.said.Place.{Place}
use Rattle.csv_folder.specs.declared.said.Said.{Said}
use Rattle.csv_folder.specs.declared.said.Said.TheVariants.{Rows, Broken, BadCell}
use Rattle.csv_folder.specs.Cells.{value_of, if_taken, cell_of}
use Rattle.csv_folder.specs.Header.{are_apart, field_under, cells_of, cells_of_each}
use Rattle.csv_folder.specs.Keys.{with_cell, key_of, with_key, keys_of, keeps_key}
use Rattle.csv_folder.specs.Folder.{bytes_named, file_name, table_says, with_table, read_folder}
use Rattle.csv_folder.specs.Records.{Fields, records_in}
use Rattle.csv_folder.specs.Table.{bad_column, place_at, first_bad, values_of, rows_of, is_formed, said_of, cells_say, records_say, file_limit, file_says}

-- no cell of the rows is bad
abbrev all_good : List (List (Option Value)) → Type 0
all_good [] = Unit {0}
all_good (cells ∷ more) = (bad_column 1 cells ≡ None) × all_good more

good_rows : (at : ℕ) (all : List (List (Option Value))) → first_bad at all ≡ None → all_good all
good_rows at [] h = tt
good_rows at (cells ∷ more) h = here (bad_column 1 cells) refl h (good_rows (at + 1) more)
  where
    here : (col : Option ℕ) → bad_column 1 cells ≡ col → option_or (place_at at col) (first_bad (at + 1) more) ≡ None → (first_bad (at + 1) more ≡ None → all_good more) → (bad_column 1 cells ≡ None) × all_good more
    here (Some col) e k rest = absurd (cc k)
    here None e k rest = (e, rest k)

-- what a column takes it takes
cell_taken : (c : ColumnDef) (o : Option Value) (v : Value) → if_taken c o ≡ Some v → takes_cell c v ≡ true
cell_taken c None v h = cc h
cell_taken c (Some w) v h = here (takes_cell c w) refl h
  where
    here : (b : Bool) → takes_cell c w ≡ b → (if b then Some w else None) ≡ Some v → takes_cell c v ≡ true
    here true e k = let same : w ≡ v = cc k in ap (takes_cell c) (sym same) ∙ e
    here false e k = cc k

row_taken : (cs : List ColumnDef) (header fields : Fields) (n : ℕ) → bad_column n (cells_of cs header fields) ≡ None → takes_row cs (values_of (cells_of cs header fields)) ≡ true
row_taken [] header fields n h = refl
row_taken (c ∷ cs) header fields n h = here (cell_of c (field_under c.source header fields)) refl h (row_taken cs header fields (n + 1))
  where
    cells : List (Option Value)
    cells = cells_of cs header fields

    here : (o : Option Value) → cell_of c (field_under c.source header fields) ≡ o → bad_column n (o ∷ cells) ≡ None → (bad_column (n + 1) cells ≡ None → takes_row cs (values_of cells) ≡ true)
        → takes_row (c ∷ cs) (values_of (o ∷ cells)) ≡ true
    here None e k rest = cc k
    here (Some v) e k rest = and_from (takes_cell c v) (takes_row cs (values_of cells)) (cell_taken c (value_of c.ty (field_under c.source header fields)) v e) (rest k)

rows_taken : (cs : List ColumnDef) (header : Fields) (records : List Fields) → all_good (cells_of_each cs header records) → takes_rows cs (rows_of (cells_of_each cs header records)) ≡ true
rows_taken cs header [] h = refl
rows_taken cs header (fields ∷ records) h =
    and_from (takes_row cs (values_of (cells_of cs header fields))) (takes_rows cs (rows_of (cells_of_each cs header records))) (row_taken cs header fields 1 h.0) (rows_taken cs header records h.1)

-- the key of a record without a bad cell is that of its row
cell_there : (cells : List (Option Value)) (at n : ℕ) → bad_column n cells ≡ None → slice_index_or cells at (Some Null) ≡ Some (cell (values_of cells) at)
cell_there [] at n h = refl
cell_there (None ∷ cells) at n h = cc h
cell_there (Some v ∷ cells) zero n h = refl
cell_there (Some v ∷ cells) (suc at) n h = cell_there cells at (n + 1) h

key_there : (ats : List ℕ) (cells : List (Option Value)) → bad_column 1 cells ≡ None → key_of ats cells ≡ Some (cut ats (values_of cells))
key_there [] cells h = refl
key_there (at ∷ ats) cells h = ap (λ o. with_cell o (key_of ats cells)) (cell_there cells at 1 h) ∙ ap (with_cell (Some (cell (values_of cells) at))) (key_there ats cells h)

keys_there : (ats : List ℕ) (all : List (List (Option Value))) → all_good all → keys_of ats all ≡ cut_rows ats (rows_of all)
keys_there ats [] h = refl
keys_there ats (cells ∷ more) h = ap (λ key. with_key key (keys_of ats more)) (key_there ats cells h.0) ∙ ap (λ keys. cut ats (values_of cells) ∷ keys) (keys_there ats more h.1)

any_cut : (key : Cells) (ats : List ℕ) (rows : List Cells) → list_any (same_row key) (cut_rows ats rows) ≡ list_any (λ other. same_row key (cut ats other)) rows
any_cut key ats [] = refl
any_cut key ats (row ∷ rows) = ap (λ b. same_row key (cut ats row) || b) (any_cut key ats rows)

apart_cut : (ats : List ℕ) (rows : List Cells) → are_apart same_row (cut_rows ats rows) ≡ are_keyed_apart ats rows
apart_cut ats [] = refl
apart_cut ats (row ∷ rows) =
    ap (λ b. not b && are_apart same_row (cut_rows ats rows)) (any_cut (cut ats row) ats rows)
    ∙ ap (λ b. not (list_any (λ other. same_row (cut ats row) (cut ats other)) rows) && b) (apart_cut ats rows)

kept_key : (key : Option (List ℕ)) (all : List (List (Option Value))) → all_good all → keeps_key key all ≡ world_keeps_key key (rows_of all)
kept_key None all h = refl
kept_key (Some ats) all h = ap (are_apart same_row) (keys_there ats all h) ∙ apart_cut ats (rows_of all)

records_table : (d : TableDef) (records : List Fields) (rows : List Cells) → records_say d records ≡ Rows rows → is_table d rows ≡ true
records_table d [] rows h = cc h
records_table d (header ∷ records) rows h = formed (is_formed d header records) refl h
  where
    all : List (List (Option Value))
    all = cells_of_each d.columns header records

    last : (a b : Bool) → (a && b) ≡ true → b ≡ true
    last true b e = e
    last false b e = cc e

    taken : keeps_key d.key all ≡ true → first_bad 1 all ≡ None → is_table d (rows_of all) ≡ true
    taken keeps none =
        let good = good_rows 1 all none in
        and_from (takes_rows d.columns (rows_of all)) (world_keeps_key d.key (rows_of all)) (rows_taken d.columns header records good) (sym (kept_key d.key all good) ∙ keeps)

    whole : (bad : Option Place) → first_bad 1 all ≡ bad → keeps_key d.key all ≡ true → said_of bad (rows_of all) ≡ Rows rows → is_table d rows ≡ true
    whole (Some place) e keeps k = cc k
    whole None e keeps k = let same : rows_of all ≡ rows = cc k in ap (is_table d) (sym same) ∙ taken keeps e

    formed : (b : Bool) → is_formed d header records ≡ b → (if b then cells_say all else Broken) ≡ Rows rows → is_table d rows ≡ true
    formed true e k = whole (first_bad 1 all) refl (last _ (keeps_key d.key all) e) k
    formed false e k = cc k

file_table : (d : TableDef) (file : Option (List ℕ)) (rows : List Cells) → file_says d file ≡ Rows rows → is_table d rows ≡ true
file_table d None rows h = cc h
file_table d (Some bytes) rows h = here (nat_le (length bytes) file_limit) h
  where
    here : (b : Bool) → (if b then records_say d (records_in bytes) else Broken) ≡ Rows rows → is_table d rows ≡ true
    here true k = records_table d (records_in bytes) rows k
    here false k = cc k

-- the tables that a folder reads as are a world
pub reads_world : (files : List File) (defs : List TableDef) (tables : List (List Cells)) (branch : Option Branch) → read_folder files defs ≡ Sound tables branch → is_world defs tables ≡ true
reads_world files [] tables branch h = let same : tables ≡ [] = cc h in ap (is_world []) same
reads_world files (d ∷ ds) tables branch h = here (table_says files d) (read_folder files ds) refl refl h (reads_world files ds)
  where
    here : (said : Said) (later : Reading) → table_says files d ≡ said → read_folder files ds ≡ later → with_table d said later ≡ Sound tables branch
        → ((tables : List (List Cells)) (branch : Option Branch) → read_folder files ds ≡ Sound tables branch → is_world ds tables ≡ true) → is_world (d ∷ ds) tables ≡ true
    here (Rows rows) (Sound more b) e f k rest =
        let same : tables ≡ rows ∷ more = cc k in
        ap (is_world (d ∷ ds)) same ∙ and_from (is_table d rows) (is_world ds more) (file_table d (bytes_named (file_name d) files) rows e) (rest more b f)
    here (Rows rows) (CellFault table row col) e f k rest = cc k
    here (Rows rows) (StoreFault table) e f k rest = cc k
    here Broken later e f k rest = cc k
    here (BadCell row col) later e f k rest = cc k
