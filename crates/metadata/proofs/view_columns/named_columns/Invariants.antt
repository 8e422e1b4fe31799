use Rattle.std.proofs.Common.{◌≡◌, ◌++◌, drop}
use Rattle.metadata.specs.Views.{named_columns}
use Rattle.metadata.proofs.view_columns.named_columns.Given as goal

abbrev pub invariant-loop-at : goal.invariant-loop-at
invariant-loop-at l = l.made ++ named_columns l.at l.tys (drop l.at l.names) ≡ named_columns 0 l.tys l.names
