use Rattle.std.proofs.Common.{◌≡◌, ◌++◌, drop}
use Rattle.metadata.specs.Views.{listed_columns}
use Rattle.metadata.proofs.view_columns.listed_columns.Given as goal

abbrev pub invariant-loop-at : goal.invariant-loop-at
invariant-loop-at l = l.made ++ listed_columns l.at l.tys (drop l.at l.columns) ≡ listed_columns 0 l.tys l.columns
