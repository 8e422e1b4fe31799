use Rattle.std.proofs.Common.{◌≡◌, ◌++◌, drop}
use Rattle.vdb_model.specs.Groups.{members}
use Rattle.vdb_model.specs.Rows.{Cells, cut_rows, distinct_after, distinct_rows}
use Rattle.rel_eval.specs.Indexed.{keys_in, under}
use Rattle.rel_eval.proofs.index.Index.of.Given as goal

-- the rows so far and those to come, and their keys
abbrev pub invariant-loop-row : goal.invariant-loop-row
invariant-loop-row l = record {
  rows : (q : Cells) → under l.made q ++ members l.columns q (drop l.row-index l.row-items) ≡ members l.columns q l.row-items;
  keys : keys_in l.made ++ distinct_after (keys_in l.made) (cut_rows l.columns (drop l.row-index l.row-items)) ≡ distinct_rows (cut_rows l.columns l.row-items);
}
