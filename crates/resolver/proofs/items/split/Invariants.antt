use Rattle.std.proofs.Common.{◌≡◌}
use Rattle.resolver.specs.Items.{exprs_of, columns_of}
use Rattle.resolver.proofs.items.split.Given as goal

abbrev pub invariant-loop-c : goal.invariant-loop-c
invariant-loop-c l = (l.exprs.items ≡ exprs_of l.yielded) × (l.columns ≡ columns_of l.yielded)
