use Rattle.std.proofs.Common.{◌≡◌, ◌++◌, [], drop}
use Rattle.resolver.specs.Assigning.{target_columns, no_columns}
use Rattle.resolver.proofs.assigning.target_columns.Given as goal

abbrev pub invariant-loop-name : goal.invariant-loop-name
invariant-loop-name l = target_columns l.columns (drop l.name-index l.names) l.made ≡ target_columns l.fn.columns l.fn.names no_columns
