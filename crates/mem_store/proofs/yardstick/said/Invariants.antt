use Rattle.std.proofs.Common.{◌≡◌, Some}
use Rattle.mem_store.proofs.yardstick.said.Given as goal

-- it stays attached
abbrev pub invariant-loop-step : goal.invariant-loop-step
invariant-loop-step g l = (g.R.Resource.told l.store).defs ≡ Some l.customers.defs
