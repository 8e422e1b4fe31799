use Rattle.std.proofs.Common.{◌≡◌, drop}
use Rattle.expr_resolver.specs.Operators.{any_column}
use Rattle.expr_resolver.proofs.lists.any_column.Given as goal

abbrev pub invariant-loop-k : goal.invariant-loop-k
invariant-loop-k l = any_column (drop l.k-index l.ks) ≡ any_column l.ks
