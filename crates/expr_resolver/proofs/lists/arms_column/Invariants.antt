use Rattle.std.proofs.Common.{◌≡◌, ◌++◌, [], ◌∷◌, drop}
use Rattle.expr_resolver.specs.Operators.{any_column, parts_of}
use Rattle.expr_resolver.proofs.lists.arms_column.Given as goal

abbrev pub invariant-loop-arm : goal.invariant-loop-arm
invariant-loop-arm l = any_column (parts_of (drop l.arm-index l.arms) ++ l.last ∷ []) ≡ any_column (parts_of l.arms ++ l.last ∷ [])
