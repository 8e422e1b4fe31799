use Rattle.std.proofs.Common.{◌≡◌}
use Rattle.expr_resolver.specs.Operators.{arms_of}
use Rattle.expr_resolver.proofs.lists.arms_of.Given as goal

abbrev pub invariant-loop-arm : goal.invariant-loop-arm
invariant-loop-arm l = l.made.items ≡ arms_of l.yielded
