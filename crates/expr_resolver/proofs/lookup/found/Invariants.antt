use Rattle.std.proofs.Common.{◌≡◌, ◌++◌, drop}
use Rattle.expr_resolver.specs.Scope.{found}
use Rattle.expr_resolver.proofs.lookup.found.Given as goal

-- those so far, and those of the entries that are left
abbrev pub invariant-loop-entry : goal.invariant-loop-entry
invariant-loop-entry l = l.found.items ++ found l.at l.c (drop l.entry-index l.entries) ≡ found 0 l.fn.c l.fn.entries
