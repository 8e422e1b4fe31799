use Rattle.std.proofs.Common.{◌≡◌, drop}
use Rattle.std.specs.List.{list_any}
use Rattle.vdb_model.specs.Rows.{same_row}
use Rattle.mem_store.proofs.yardstick.is_among.Given as goal

-- the rows to come decide
abbrev pub invariant-loop-other : goal.invariant-loop-other
invariant-loop-other l = list_any (same_row l.row) (drop l.other-index l.rows) ≡ list_any (same_row l.row) l.rows
