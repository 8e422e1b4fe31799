use Rattle.std.proofs.Common.{◌≡◌, ◌++◌, drop}
use Rattle.vdb_model.specs.Groups.{known}
use Rattle.rel_eval.specs.Lent.{lent}
use Rattle.rel_eval.proofs.grouping.known.Given as goal

abbrev pub invariant-loop-row : goal.invariant-loop-row
invariant-loop-row l = l.made.items ++ known l.e l.vars (lent (drop l.row-index l.rows)) ≡ known l.e l.vars (lent l.rows)
