use Rattle.std.proofs.Common.{◌≡◌, [], drop}
use Rattle.resolver.specs.Selects.{merge}
use Rattle.resolver.proofs.unions.merge.Given as goal

abbrev pub invariant-loop-i : goal.invariant-loop-i
invariant-loop-i l = merge (drop l.i l.left) (drop l.i l.right) l.made ≡ merge l.fn.left l.fn.right []
