use Rattle.std.proofs.Common.{◌≡◌, drop, ◌++◌}
use Rattle.rel_eval.specs.Lent.{lent}
use Rattle.rel_eval.specs.RankedRows.{rows_in}
use Rattle.rel_eval.proofs.ordering.without_ranks.Given as goal

abbrev pub invariant-loop-one : goal.invariant-loop-one
invariant-loop-one l = lent l.made.items ++ rows_in (drop l.one-index l.ranked) ≡ rows_in l.ranked
