use Rattle.std.proofs.Common.{drop}
use Rattle.resource.specs.Stored.{numbered}
use Rattle.store_replay.proofs.ReplaySteps.{MadeSoFar}
use Rattle.store_replay.proofs.replay.make_each.Given as goal

abbrev pub invariant-loop-delta : goal.invariant-loop-delta
invariant-loop-delta l = MadeSoFar l.initial.shelf.defs (drop l.delta-index l.deltas) (numbered l.initial.shelf.defs l.deltas) l.made.items l.initial.shelf l.shelf
