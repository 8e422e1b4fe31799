use Rattle.std.proofs.Common.{◌≡◌, ◌++◌, drop}
use Rattle.vdb_model.specs.Rows as spec
use Rattle.resource.proofs.keys.cut.Given as goal

-- the cells so far and those to come are all
abbrev pub invariant-loop-at : goal.invariant-loop-at
invariant-loop-at l = l.cells.items ++ spec.cut (drop l.at-index l.columns) l.row ≡ spec.cut l.columns l.row
