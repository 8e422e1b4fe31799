use Rattle.std.proofs.Common.{◌≡◌, drop}
use Rattle.metadata.specs.Views.{are_listed}
use Rattle.metadata.proofs.view_columns.are_listed.Given as goal

abbrev pub invariant-loop-at : goal.invariant-loop-at
invariant-loop-at l = are_listed l.at l.tys (drop l.at l.columns) ≡ are_listed 0 l.tys l.columns
