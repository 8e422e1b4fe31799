-- A world: the rows of each table.
use Rattle.std.specs.Prelude.{ℕ, Bool, true, false, not, ◌&&◌, ◌==◌, if◌then◌else◌, List, [], ◌∷◌, length, Option, Some, None}
use Rattle.std.specs.List.{list_any}
use Rattle.vdb_base.specs.declared.value.Value.{Value}
use Rattle.vdb_base.specs.declared.value.Fit.{Fit}
use Rattle.vdb_base.specs.declared.value.Fit.TheVariants.{Yes, Range, Length, Kind}
use Rattle.vdb_base.specs.Fits.{fit_of}
use Rattle.vdb_model.specs.declared.table.ColumnDef.{ColumnDef}
use Rattle.vdb_model.specs.declared.table.TableDef.{TableDef}
use Rattle.vdb_model.specs.declared.bag.Bag.{Bag}
use Rattle.vdb_model.specs.declared.catalog.ViewDef.{ViewDef}
use Rattle.vdb_model.specs.declared.rel.Rel.{Rel}
use Rattle.vdb_model.specs.Defined.{Defined}
use Rattle.vdb_model.specs.Logic.{is_null}
use Rattle.vdb_model.specs.Rows.{Cells, same_row, cut}
use Rattle.vdb_model.specs.Relations.{bag_of, views_after}

abbrev pub is_yes : Fit → Bool
is_yes Yes = true
is_yes Range = false
is_yes Length = false
is_yes Kind = false

-- the cell fits its column, and isn't NULL where that is forbidden
abbrev pub takes_cell : ColumnDef → Value → Bool
takes_cell column v = is_yes (fit_of v column.ty) && not (column.not_null && is_null v)

abbrev pub takes_row : List ColumnDef → Cells → Bool
takes_row [] [] = true
takes_row [] (v ∷ vs) = false
takes_row (c ∷ cs) [] = false
takes_row (c ∷ cs) (v ∷ vs) = takes_cell c v && takes_row cs vs

abbrev pub takes_rows : List ColumnDef → List Cells → Bool
takes_rows columns [] = true
takes_rows columns (row ∷ rows) = takes_row columns row && takes_rows columns rows

-- no two rows agree on these columns
abbrev pub are_keyed_apart : List ℕ → List Cells → Bool
are_keyed_apart ats [] = true
are_keyed_apart ats (row ∷ rows) = not (list_any (λ other. same_row (cut ats row) (cut ats other)) rows) && are_keyed_apart ats rows

abbrev pub keeps_key : Option (List ℕ) → List Cells → Bool
keeps_key None rows = true
keeps_key (Some ats) rows = are_keyed_apart ats rows

abbrev pub is_table : TableDef → List Cells → Bool
is_table d rows = takes_rows d.columns rows && keeps_key d.key rows

-- a list of rows for each table, which its definition takes
abbrev pub is_world : List TableDef → List (List Cells) → Bool
is_world [] [] = true
is_world [] (rows ∷ tables) = false
is_world (d ∷ ds) [] = false
is_world (d ∷ ds) (rows ∷ tables) = is_table d rows && is_world ds tables

-- the rows of the table with the number, where the lists of rows stand in the order of the definitions
abbrev pub table_rows : List TableDef → List (List Cells) → ℕ → List Cells
table_rows [] tables n = []
table_rows (d ∷ ds) [] n = []
table_rows (d ∷ ds) (rows ∷ tables) n = if d.number == n then rows else table_rows ds tables n

-- the tables' rows with their widths
abbrev pub bags : List TableDef → List (List Cells) → List Bag
bags [] tables = []
bags (d ∷ ds) [] = []
bags (d ∷ ds) (rows ∷ tables) = record { width = length d.columns; rows = rows } ∷ bags ds tables

abbrev pub view_rels : List ViewDef → List Rel
view_rels [] = []
view_rels (v ∷ vs) = v.rel ∷ view_rels vs

-- the rows of a relation of the catalog in a world, with these variables
abbrev pub rows_in : Defined → List (List Cells) → Cells → Rel → List Cells
rows_in cat world vars rel = (bag_of (bags cat.tables world) (views_after (bags cat.tables world) [] [] (view_rels cat.views)) vars rel).rows
