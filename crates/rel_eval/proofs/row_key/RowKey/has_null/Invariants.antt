use Rattle.std.proofs.Common.{◌≡◌, drop}
use Rattle.std.specs.List.{list_any}
use Rattle.vdb_model.specs.Logic.{is_null}
use Rattle.vdb_model.specs.Rows.{cut}
use Rattle.rel_eval.proofs.row_key.RowKey.has_null.Given as goal

-- the columns that are left decide
abbrev pub invariant-loop-column : goal.invariant-loop-column
invariant-loop-column l = list_any is_null (cut (drop l.column-index l.column-items) l.self.row.now) ≡ list_any is_null (cut l.column-items l.self.row.now)
