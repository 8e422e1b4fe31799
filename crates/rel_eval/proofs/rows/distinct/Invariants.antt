use Rattle.std.proofs.Common.{◌≡◌, ◌++◌, List, drop}
use Rattle.std.specs.List.{list_any}
use Rattle.vdb_base.specs.declared.value.Value.{Value}
use Rattle.vdb_model.specs.Rows.{distinct_after, distinct_rows, same_row}
use Rattle.rel_eval.proofs.rows.distinct.Given as goal

-- the rows so far and those to come are all, and the rows so far were seen
abbrev pub invariant-loop-row : goal.invariant-loop-row
invariant-loop-row l = record {
  kept : l.kept ++ distinct_after l.kept (drop l.row-index l.row-items) ≡ distinct_rows l.row-items;
  seen : (q : List Value) → list_any (same_row q) l.seen.rows.keys ≡ list_any (same_row q) l.kept;
}
