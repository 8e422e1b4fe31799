use Rattle.std.proofs.Common.{◌≡◌, ◌++◌, drop}
use Rattle.vdb_model.specs.Rows.{matches}
use Rattle.rel_eval.specs.Lent.{lent}
use Rattle.rel_eval.proofs.joining.matches.Given as goal

abbrev pub invariant-loop-right : goal.invariant-loop-right
invariant-loop-right l = l.rows ++ matches l.on l.vars l.left (lent (drop l.right-index l.rights)) ≡ matches l.on l.vars l.left (lent l.rights)
