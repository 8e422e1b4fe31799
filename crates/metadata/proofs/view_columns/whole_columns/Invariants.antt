use Rattle.std.proofs.Common.{◌≡◌, drop}
use Rattle.metadata.specs.Types.{fractional_type}
use Rattle.metadata.specs.Views.{type_in}
use Rattle.metadata.proofs.view_columns.whole_columns.Given as goal

abbrev pub invariant-loop-column : goal.invariant-loop-column
invariant-loop-column l = type_in fractional_type (drop l.column-index l.columns) ≡ type_in fractional_type l.columns
