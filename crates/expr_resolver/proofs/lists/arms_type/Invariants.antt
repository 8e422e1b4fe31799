use Rattle.std.proofs.Common.{◌≡◌, ◌++◌, [], ◌∷◌, drop, Some, None}
use Rattle.expr_resolver.specs.Operators.{types_of, values_of}
use Rattle.expr_resolver.specs.Types.{with_others}
use Rattle.expr_resolver.proofs.lists.arms_type.Given as goal

abbrev pub invariant-loop-arm : goal.invariant-loop-arm
invariant-loop-arm l = with_others (Some l.so_far) (types_of (values_of (drop l.arm-index l.arms) ++ l.last ∷ [])) ≡ with_others (Some None) (types_of (values_of l.arms ++ l.last ∷ []))
