use Rattle.std.proofs.Common.{◌≡◌, ◌++◌, drop}
use Rattle.vdb_model.specs.Groups.{rows_by_group}
use Rattle.rel_eval.specs.RowKeys.{cells_of}
use Rattle.rel_eval.proofs.grouping.by_keys.Given as goal

abbrev pub invariant-loop-key : goal.invariant-loop-key
invariant-loop-key l = l.made.items ++ rows_by_group l.keys l.aggs l.vars l.rows (cells_of (drop l.key-index l.groups)) ≡ rows_by_group l.keys l.aggs l.vars l.rows (cells_of l.groups)
