-- The order of rows by keys.
use Rattle.std.specs.Prelude.{if◌then◌else◌, List, [], ◌∷◌}
use Rattle.std.specs.declared.cmp.Ordering.{Ordering}
use Rattle.std.specs.declared.cmp.Ordering.TheVariants.{Equal}
use Rattle.std.specs.Ordering.{ordering_then}
use Rattle.vdb_base.specs.Order.{value_cmp, row_cmp}
use Rattle.vdb_model.specs.declared.rel.Key.{Key}
use Rattle.vdb_model.specs.Meaning.{cell}
use Rattle.vdb_model.specs.Rows.{Cells}

-- a key with `desc` is reversed
abbrev pub key_cmp : Key → Cells → Cells → Ordering
key_cmp key a b = if key.desc then value_cmp (cell b key.column) (cell a key.column) else value_cmp (cell a key.column) (cell b key.column)

-- by the keys in turn; rows that agree on all of them tie
abbrev pub keys_cmp : List Key → Cells → Cells → Ordering
keys_cmp [] a b = Equal
keys_cmp (key ∷ keys) a b = ordering_then (key_cmp key a b) (keys_cmp keys a b)

-- by the keys in turn, and then by all columns from left to right
abbrev pub total_cmp : List Key → Cells → Cells → Ordering
total_cmp keys a b = ordering_then (keys_cmp keys a b) (row_cmp a b)
