use Rattle.std.proofs.Common.{◌≡◌, ◌++◌, drop}
use Rattle.resolver.specs.Relations.{table_columns}
use Rattle.resolver.proofs.relations.table_columns.Given as goal

abbrev pub invariant-loop-column : goal.invariant-loop-column
invariant-loop-column l = l.made ++ table_columns (drop l.column-index l.columns) ≡ table_columns l.columns
