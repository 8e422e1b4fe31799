use Rattle.std.proofs.Common.{◌≡◌, drop}
use Rattle.metadata.specs.Views.{are_apart}
use Rattle.metadata.proofs.ApartNames.{go_on}
use Rattle.metadata.proofs.view_columns.are_apart.Given as goal

-- no two of the columns have one name where the columns to come go on with the names so far
abbrev pub invariant-loop-column : goal.invariant-loop-column
invariant-loop-column l = go_on l.names.texts.keys (drop l.column-index l.columns) ≡ are_apart l.columns
