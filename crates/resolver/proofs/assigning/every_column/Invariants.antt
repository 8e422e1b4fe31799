use Rattle.std.proofs.Common.{◌≡◌, ◌++◌, [], drop}
use Rattle.resolver.specs.Assigning.{every_column, no_columns}
use Rattle.resolver.proofs.assigning.every_column.Given as goal

abbrev pub invariant-loop-at : goal.invariant-loop-at
invariant-loop-at l = every_column l.at (drop l.at l.columns) l.made ≡ every_column 0 l.fn.columns no_columns
