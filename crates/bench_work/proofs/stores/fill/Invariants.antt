use Rattle.std.proofs.Common.{◌≡◌, Some}
use Rattle.bench_work.proofs.stores.fill.Given as goal

-- it stays attached
abbrev pub invariant-loop : goal.invariant-loop
invariant-loop g l = (g.R.Resource.told l.store).defs ≡ Some l.orders.defs
