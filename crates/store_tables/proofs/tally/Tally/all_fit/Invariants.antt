use Rattle.std.proofs.Common.{◌≡◌}
use Rattle.std.specs.List.{list_all}
use Rattle.store_tables.specs.InOrder.{entry_fits}
use Rattle.store_tables.proofs.tally.Tally.all_fit.Given as goal

-- the entries to come decide
abbrev pub invariant-loop-row : goal.invariant-loop-row
invariant-loop-row l = list_all (entry_fits l.columns) l.row-iterator ≡ list_all (entry_fits l.columns) l.self.counts.entries
