use Rattle.std.proofs.Common.{◌≡◌, ◌++◌, [], drop}
use Rattle.resolver.specs.Statements.{walks_alone}
use Rattle.resolver.proofs.inserts.walks_alone.Given as goal

abbrev pub invariant-loop-e : goal.invariant-loop-e
invariant-loop-e l = walks_alone (drop l.e-index l.es) l.made ≡ walks_alone l.es []
