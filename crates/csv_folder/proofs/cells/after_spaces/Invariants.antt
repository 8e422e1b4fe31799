use Rattle.std.proofs.Common.{◌≡◌, length}
use Rattle.csv_folder.specs.Cells as spec
use Rattle.csv_folder.proofs.cells.after_spaces.Given as goal

-- what is left decides
abbrev pub invariant-loop-first : goal.invariant-loop-first
invariant-loop-first l = spec.after_spaces l.rest ≡ spec.after_spaces l.text

abbrev pub decreases-loop-first : goal.decreases-loop-first
decreases-loop-first l = length l.rest
