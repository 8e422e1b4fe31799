use Rattle.std.proofs.Common.{◌≡◌, drop}
use Rattle.metadata.specs.Types.{unknown_type}
use Rattle.metadata.specs.Views.{type_in}
use Rattle.metadata.proofs.view_columns.known_columns.Given as goal

abbrev pub invariant-loop-column : goal.invariant-loop-column
invariant-loop-column l = type_in unknown_type (drop l.column-index l.columns) ≡ type_in unknown_type l.columns
