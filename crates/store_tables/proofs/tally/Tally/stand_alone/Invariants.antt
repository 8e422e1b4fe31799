use Rattle.std.proofs.Common.{◌≡◌}
use Rattle.std.specs.List.{list_all}
use Rattle.store_tables.specs.InOrder.{entry_is_alone}
use Rattle.store_tables.proofs.tally.Tally.stand_alone.Given as goal

-- the entries to come decide
abbrev pub invariant-loop-counts : goal.invariant-loop-counts
invariant-loop-counts l = list_all entry_is_alone l.counts-iterator ≡ list_all entry_is_alone l.self.counts.entries
