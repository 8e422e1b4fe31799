use Rattle.std.proofs.Common.{◌≡◌, ◌++◌, [], drop}
use Rattle.resolver.specs.Assigning.{of_columns}
use Rattle.resolver.proofs.assigning.of_columns.Given as goal

abbrev pub invariant-loop-column : goal.invariant-loop-column
invariant-loop-column l = l.made.items ++ of_columns (drop l.column-index l.columns) ≡ of_columns l.columns
