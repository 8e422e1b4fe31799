use Rattle.std.proofs.Common.{◌≡◌, ◌++◌, [], drop}
use Rattle.resolver.specs.Statements.{assignments, no_sets}
use Rattle.resolver.proofs.statements.assignments.Given as goal

abbrev pub invariant-loop-a : goal.invariant-loop-a
invariant-loop-a l = assignments l.columns l.names (drop l.a-index l.list) l.made ≡ assignments l.fn.columns l.fn.names l.fn.list no_sets
