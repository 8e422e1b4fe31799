use Rattle.std.proofs.Common.{◌-◌, length}
use Rattle.store_replay.proofs.ListSteps.{OutTo}
use Rattle.store_replay.proofs.lists.take_named.Given as goal

abbrev pub invariant-tables : goal.invariant-tables
invariant-tables l = OutTo l.source l.initial.tables.items l.i l.tables.items l.found

abbrev pub decreases-tables : goal.decreases-tables
decreases-tables l = length l.tables.items - l.i
