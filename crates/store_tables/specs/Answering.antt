-- What a tally answers to a query: each row as often as the branch sees it.
use Rattle.std.specs.Prelude.{ℕ, zero, suc, List, [], ◌++◌, replicate}
use Rattle.std.specs.List.{flat_map}
use Rattle.vdb_model.specs.Rows.{Cells}
use Rattle.store_tables.specs.declared.counting.Counts.{Counts}

-- the rows of a map's entries, each as often as it is seen
abbrev pub rows_seen : List (Cells × Counts) → List Cells
rows_seen entries = flat_map (λ e. replicate e.1.seen e.0) entries

-- rows so many times
abbrev pub repeated : ℕ → List Cells → List Cells
repeated zero rows = []
repeated (suc n) rows = rows ++ repeated n rows
