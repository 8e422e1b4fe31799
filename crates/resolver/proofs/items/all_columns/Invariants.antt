use Rattle.std.proofs.Common.{◌≡◌, ◌++◌, drop}
use Rattle.resolver.specs.Items.{all_columns}
use Rattle.resolver.proofs.items.all_columns.Given as goal

abbrev pub invariant-loop-entry : goal.invariant-loop-entry
invariant-loop-entry l = l.made ++ all_columns (drop l.entry-index l.entries) ≡ all_columns l.entries
