use Rattle.std.proofs.Common.{◌≡◌, drop}
use Rattle.metadata.specs.Views.{badly_named_in}
use Rattle.metadata.proofs.view_columns.named_well.Given as goal

abbrev pub invariant-loop-column : goal.invariant-loop-column
invariant-loop-column l = badly_named_in (drop l.column-index l.columns) ≡ badly_named_in l.columns
