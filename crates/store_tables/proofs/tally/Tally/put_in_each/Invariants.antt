use Rattle.std.proofs.Common.{take}
use Rattle.store_tables.specs.Tallies.{Gains}
use Rattle.store_tables.proofs.tally.Tally.put_in_each.Given as goal

-- the rows so far
abbrev pub invariant-loop-row : goal.invariant-loop-row
invariant-loop-row l = Gains (take l.row-index l.rows) l.initial.self l.self
