use Rattle.std.proofs.Common.{◌≡◌, take}
use Rattle.vdb_model.proofs.+copy.Given as goal

-- what is copied so far
abbrev pub invariant-expr_copy::copy_arms-loop-arm : goal.invariant-expr_copy::copy_arms-loop-arm
invariant-expr_copy::copy_arms-loop-arm l = l.made.items ≡ take l.arm-index l.arms

abbrev pub invariant-expr_copy::copy_exprs-loop-e : goal.invariant-expr_copy::copy_exprs-loop-e
invariant-expr_copy::copy_exprs-loop-e l = l.made.items ≡ take l.e-index l.es
