use Rattle.std.proofs.Common.{◌≡◌, drop}
use Rattle.vdb_model.specs.Groups.{least}
use Rattle.rel_eval.proofs.grouping.least.Given as goal

abbrev pub invariant-loop-v : goal.invariant-loop-v
invariant-loop-v l = least l.least (drop l.v-index l.vs) ≡ least l.first l.vs
