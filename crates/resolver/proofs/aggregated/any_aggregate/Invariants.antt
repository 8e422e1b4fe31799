use Rattle.std.proofs.Common.{◌≡◌, drop}
use Rattle.resolver.specs.Items.{any_aggregate}
use Rattle.resolver.proofs.aggregated.any_aggregate.Given as goal

abbrev pub invariant-loop-item : goal.invariant-loop-item
invariant-loop-item l = any_aggregate (drop l.item-index l.items) ≡ any_aggregate l.items
