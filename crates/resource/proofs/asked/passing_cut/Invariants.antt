use Rattle.std.proofs.Common.{◌≡◌, ◌++◌, drop}
use Rattle.resource.specs.Checked as spec
use Rattle.resource.proofs.asked.passing_cut.Given as goal

-- the rows so far and those to come are all
abbrev pub invariant-loop-row : goal.invariant-loop-row
invariant-loop-row l = l.made ++ spec.passing_cut l.conditions l.columns (drop l.row-index l.rows) ≡ spec.passing_cut l.conditions l.columns l.rows
