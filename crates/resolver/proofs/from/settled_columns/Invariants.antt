use Rattle.std.proofs.Common.{◌≡◌, ◌++◌, drop}
use Rattle.resolver.specs.From.{settled_columns}
use Rattle.resolver.proofs.from.settled_columns.Given as goal

abbrev pub invariant-loop-column : goal.invariant-loop-column
invariant-loop-column l = l.made ++ settled_columns (drop l.column-index l.columns) ≡ settled_columns l.columns
