use Rattle.std.proofs.Common.{◌≡◌, drop}
use Rattle.vdb_model.specs.Deltas.{without_each}
use Rattle.store_replay.proofs.lists.change_rows.Given as goal

abbrev pub invariant-loop-row : goal.invariant-loop-row
invariant-loop-row l = without_each (drop l.row-index l.delta.removed) l.made.items ≡ without_each l.delta.removed l.initial.made.items
