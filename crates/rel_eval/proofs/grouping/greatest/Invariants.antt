use Rattle.std.proofs.Common.{◌≡◌, drop}
use Rattle.vdb_model.specs.Groups.{greatest}
use Rattle.rel_eval.proofs.grouping.greatest.Given as goal

abbrev pub invariant-loop-v : goal.invariant-loop-v
invariant-loop-v l = greatest l.greatest (drop l.v-index l.vs) ≡ greatest l.first l.vs
