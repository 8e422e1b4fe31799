use Rattle.std.proofs.Common.{◌≡◌, ◌++◌, drop}
use Rattle.resolver.specs.Queries.{types_of}
use Rattle.resolver.proofs.queries.types_of.Given as goal

abbrev pub invariant-loop-column : goal.invariant-loop-column
invariant-loop-column l = l.made ++ types_of (drop l.column-index l.columns) ≡ types_of l.columns
