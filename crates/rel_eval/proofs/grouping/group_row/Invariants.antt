use Rattle.std.proofs.Common.{◌≡◌, ◌++◌, drop}
use Rattle.vdb_model.specs.Groups.{aggregates}
use Rattle.rel_eval.specs.Lent.{lent}
use Rattle.rel_eval.proofs.grouping.group_row.Given as goal

abbrev pub invariant-loop-agg : goal.invariant-loop-agg
invariant-loop-agg l = l.key ++ aggregates (drop l.agg-index l.aggs) l.vars (lent l.rows) ≡ l.fn.key ++ aggregates l.aggs l.vars (lent l.rows)
