use Rattle.std.proofs.Common.{◌≡◌}
use Rattle.expr_resolver.specs.Operators.{exprs_of}
use Rattle.expr_resolver.proofs.lists.exprs_of.Given as goal

abbrev pub invariant-loop-k : goal.invariant-loop-k
invariant-loop-k l = l.made.items ≡ exprs_of l.yielded
