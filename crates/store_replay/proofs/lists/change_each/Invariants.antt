use Rattle.std.proofs.Common.{◌≡◌, drop}
use Rattle.resource.specs.Stored.{after_stored}
use Rattle.store_replay.proofs.lists.change_each.Given as goal

abbrev pub invariant-loop-delta : goal.invariant-loop-delta
invariant-loop-delta l = after_stored l.tables.items (drop l.delta-index l.deltas) ≡ after_stored l.initial.tables.items l.deltas
