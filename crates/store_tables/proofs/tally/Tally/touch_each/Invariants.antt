use Rattle.std.proofs.Common.{take}
use Rattle.store_tables.specs.Tallies.{SameTimes, KeepsReady, AreReady}
use Rattle.store_tables.proofs.tally.Tally.touch_each.Given as goal

-- the rows so far are ready
abbrev pub invariant-loop-row : goal.invariant-loop-row
invariant-loop-row l = record {
  same : SameTimes l.initial.self l.self;
  keeps : KeepsReady l.initial.self l.self;
  ready : AreReady l.more (take l.row-index l.rows) l.self;
}
