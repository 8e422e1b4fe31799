use Rattle.std.proofs.Common.{◌≡◌, drop}
use Rattle.expr_resolver.specs.Scope.{key_at}
use Rattle.expr_resolver.proofs.lookup.key_at.Given as goal

abbrev pub invariant-loop-at : goal.invariant-loop-at
invariant-loop-at l = key_at l.at (drop l.at l.keys) l.column ≡ key_at 0 l.fn.keys l.fn.column
