use Rattle.std.proofs.Common.{◌≡◌, ◌++◌, [], drop}
use Rattle.resolver.specs.Assigning.{of_known}
use Rattle.resolver.proofs.assigning.of_known.Given as goal

abbrev pub invariant-loop-k : goal.invariant-loop-k
invariant-loop-k l = l.made.items ++ of_known (drop l.k-index l.ks) ≡ of_known l.ks
