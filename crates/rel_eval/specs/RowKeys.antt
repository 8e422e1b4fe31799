-- Keys of rows, which are the cells in some columns.
use Rattle.std.specs.Prelude.{◌≡◌, Bool, true, List, [], ◌∷◌}
use Rattle.std.proofs.Common.{ap}
use Rattle.std.specs.declared.cmp.Ordering.{Ordering}
use Rattle.std.specs.Cmp.{IsTotalOrder, on_total}
use Rattle.std.specs.Hash.{HashWrites}
use Rattle.vdb_base.specs.Order.{row_cmp}
use Rattle.vdb_base.specs.Total.{row_total}
use Rattle.vdb_model.specs.Rows.{Cells, cut, same_row}
use Rattle.vdb_model.proofs.SameDistinct.{equal_rows}
use Rattle.rel_eval.specs.Fed.{fed_cells}
use Rattle.rel_eval.specs.declared.row_key.RowKey.{RowKey}

abbrev pub cells : RowKey → Cells
cells key = cut key.columns.now key.row.now

-- the cells of each
abbrev pub cells_of : List RowKey → List Cells
cells_of [] = []
cells_of (key ∷ keys) = cells key ∷ cells_of keys

abbrev pub same_key : RowKey → RowKey → Bool
same_key a b = same_row (cells a) (cells b)

abbrev pub key_cmp : RowKey → RowKey → Ordering
key_cmp a b = row_cmp (cells a) (cells b)

pub key_total : IsTotalOrder key_cmp
key_total = on_total cells row_total

-- what a key feeds a hasher
abbrev pub fed_key : RowKey → HashWrites
fed_key key = fed_cells (cells key)

pub same_fed : (a b : RowKey) → same_key a b ≡ true → fed_key a ≡ fed_key b
same_fed a b h = ap fed_cells (equal_rows (cells a) (cells b) h)
