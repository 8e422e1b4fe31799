use Rattle.std.proofs.Common.{◌≡◌, ◌++◌, drop}
use Rattle.resolver.specs.Queries.{names_of}
use Rattle.resolver.proofs.queries.names_of.Given as goal

abbrev pub invariant-loop-column : goal.invariant-loop-column
invariant-loop-column l = l.made ++ names_of (drop l.column-index l.columns) ≡ names_of l.columns
