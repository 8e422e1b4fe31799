use Rattle.std.proofs.Common.{◌≡◌, length, reverse}
use Rattle.csv_folder.specs.Cells as spec
use Rattle.csv_folder.proofs.cells.unspaced.Given as goal

-- what is left decides
abbrev pub invariant-loop-last : goal.invariant-loop-last
invariant-loop-last l = reverse (spec.after_spaces (reverse l.rest)) ≡ spec.unspaced l.text

abbrev pub decreases-loop-last : goal.decreases-loop-last
decreases-loop-last l = length l.rest
