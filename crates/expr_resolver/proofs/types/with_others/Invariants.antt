use Rattle.std.proofs.Common.{◌≡◌, drop, Some}
use Rattle.expr_resolver.specs.Operators.{types_of}
use Rattle.expr_resolver.specs.Types.{with_others}
use Rattle.expr_resolver.proofs.types.with_others.Given as goal

-- the type so far, with those that are left
abbrev pub invariant-loop-other : goal.invariant-loop-other
invariant-loop-other l = with_others (Some l.so_far) (types_of (drop l.other-index l.others)) ≡ with_others (Some l.fn.ty) (types_of l.fn.others)
