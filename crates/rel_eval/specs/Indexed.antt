-- Rows by a key.
use Rattle.std.specs.Prelude.{List, [], Option, None, Some, Vec}
use Rattle.indexmap.specs.IndexMap.{get_by, keys}
use denote.Ref.{Bor}
use Rattle.vdb_model.specs.Rows.{Cells, same_row}
use Rattle.rel_eval.specs.Lent.{lent}
use Rattle.rel_eval.specs.RowKeys.{cells, cells_of}
use Rattle.rel_eval.specs.declared.index.Index.{Index}

abbrev pub listed : {A : Type 0} → Option (Vec (Bor Cells) A) → List Cells
listed None = []
listed (Some rows) = lent rows.items

-- the rows that stand under the key
abbrev pub under : Index → Cells → List Cells
under index key = listed (get_by (λ other. same_row key (cells other)) index.groups)

-- the keys, in the order in which they came
abbrev pub keys_in : Index → List Cells
keys_in index = cells_of (keys index.groups)
