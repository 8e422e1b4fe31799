use Rattle.std.proofs.Common.{◌≡◌, take}
use Rattle.vdb_model.proofs.+typed_copy.Given as goal

-- what is copied so far
abbrev pub invariant-typed_copy::copy_stmts-loop-stmt : goal.invariant-typed_copy::copy_stmts-loop-stmt
invariant-typed_copy::copy_stmts-loop-stmt l = l.made.items ≡ take l.stmt-index l.stmts
