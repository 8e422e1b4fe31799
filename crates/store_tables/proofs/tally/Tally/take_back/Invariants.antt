use Rattle.std.proofs.Common.{◌≡◌, vec_len}
use Rattle.vdb_model.specs.Rows.{Cells}
use Rattle.store_tables.specs.Tallies.{kept_times}
use Rattle.store_tables.proofs.tally.Tally.take_back.Given as goal

abbrev pub invariant-loop-row : goal.invariant-loop-row
invariant-loop-row l = (row : Cells) → kept_times l.self row ≡ kept_times l.initial.self row

abbrev pub decreases-loop-row : goal.decreases-loop-row
decreases-loop-row l = vec_len l.self.touched
