use Rattle.std.proofs.Common.{◌≡◌, ◌≤◌, drop, ◌+ℤ◌}
use Rattle.vdb_model.specs.Groups.{total}
use Rattle.vdb_model.specs.Number.{extent}
use Rattle.rel_eval.specs.Sums.{amount}
use Rattle.rel_eval.proofs.sum.total.Given as goal

-- the sum so far and that of what is left are the whole; each value carries once at most
abbrev pub invariant-loop-v : goal.invariant-loop-v
invariant-loop-v l = record {
  amount : amount l.sum +ℤ total (drop l.v-index l.vs) ≡ total l.vs;
  carries : extent l.sum.carries ≤ l.v-index;
}
