use Rattle.std.proofs.Common.{◌≡◌, ◌++◌, [], drop}
use Rattle.resolver.specs.Relations.{procedures_named}
use Rattle.resolver.proofs.procedures.procedures_named.Given as goal

abbrev pub invariant-loop-d : goal.invariant-loop-d
invariant-loop-d l = l.found.items ++ procedures_named l.number l.r (drop l.d-index l.procedures) ≡ procedures_named 0 l.r l.procedures
