use Rattle.std.proofs.Common.{◌≡◌, [], drop}
use Rattle.resolver.specs.Selects.{keys_of}
use Rattle.resolver.proofs.grouping.keys_of.Given as goal

abbrev pub invariant-loop-c : goal.invariant-loop-c
invariant-loop-c l = keys_of l.entries (drop l.c-index l.columns) l.made ≡ keys_of l.fn.entries l.fn.columns []
