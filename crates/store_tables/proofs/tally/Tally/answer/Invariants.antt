use Rattle.std.proofs.Common.{◌≡◌, ◌++◌}
use Rattle.resource.specs.Checked.{passing_cut}
use Rattle.store_tables.specs.Answering.{rows_seen}
use Rattle.store_tables.proofs.tally.Tally.answer.Given as goal

-- what was made and what is to come are all
abbrev pub invariant-loop-row : goal.invariant-loop-row
invariant-loop-row l = l.made ++ passing_cut l.conditions l.columns (rows_seen l.row-iterator) ≡ passing_cut l.conditions l.columns (rows_seen l.self.counts.entries)
