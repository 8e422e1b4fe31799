use Rattle.std.proofs.Common.{◌≡◌, ◌++◌, replicate}
use Rattle.vdb_base.specs.declared.value.Value.TheVariants.{Null}
use Rattle.rel_eval.proofs.joining.with_nulls.Given as goal

abbrev pub invariant-loop-added : goal.invariant-loop-added
invariant-loop-added l = l.row ≡ l.left ++ replicate l._added Null
