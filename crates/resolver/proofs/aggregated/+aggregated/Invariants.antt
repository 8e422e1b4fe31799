use Rattle.std.proofs.Common.{◌≡◌, drop}
use Rattle.resolver.specs.Items.{any_has, any_link_has, any_arm_has}
use Rattle.resolver.proofs.aggregated.+aggregated.Given as goal

abbrev pub invariant-any_expr-loop-e : goal.invariant-any_expr-loop-e
invariant-any_expr-loop-e l = any_has (drop l.e-index l.es) ≡ any_has l.es

abbrev pub invariant-any_link-loop-link : goal.invariant-any_link-loop-link
invariant-any_link-loop-link l = any_link_has (drop l.link-index l.links) ≡ any_link_has l.links

abbrev pub invariant-any_arm-loop-arm : goal.invariant-any_arm-loop-arm
invariant-any_arm-loop-arm l = any_arm_has (drop l.arm-index l.arms) ≡ any_arm_has l.arms
