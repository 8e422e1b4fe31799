use Rattle.std.proofs.Common.{◌≡◌, ◌++◌, [], drop}
use Rattle.resolver.specs.Relations.{types_of}
use Rattle.resolver.proofs.procedures.types_of.Given as goal

abbrev pub invariant-loop-p : goal.invariant-loop-p
invariant-loop-p l = l.made ++ types_of (drop l.p-index l.parameters) ≡ types_of l.parameters
