use Rattle.std.proofs.Common.{◌≡◌, drop}
use Rattle.expr_resolver.specs.Operators.{any_between}
use Rattle.expr_resolver.proofs.lists.any_between.Given as goal

abbrev pub invariant-loop-k : goal.invariant-loop-k
invariant-loop-k l = any_between (drop l.k-index l.ks) ≡ any_between l.ks
