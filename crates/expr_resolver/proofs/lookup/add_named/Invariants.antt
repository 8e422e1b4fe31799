use Rattle.std.proofs.Common.{◌≡◌, ◌++◌, drop}
use Rattle.expr_resolver.specs.Scope.{named}
use Rattle.expr_resolver.proofs.lookup.add_named.Given as goal

-- those so far, and those of the columns that are left
abbrev pub invariant-loop-column : goal.invariant-loop-column
invariant-loop-column l = l.found.items ++ named l.number l.name (drop l.column-index l.columns) ≡ l.initial.found.items ++ named l.fn.at l.fn.name l.fn.columns
