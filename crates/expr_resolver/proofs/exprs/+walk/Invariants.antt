use Rattle.std.proofs.Common.{◌≡◌, [], drop}
use Rattle.expr_resolver.specs.Exprs.{walks, items, operands, computed, arms_in, parts_of, links_of, arms_of, all_operands}
use Rattle.expr_resolver.specs.Walking.{all}
use Rattle.expr_resolver.proofs.exprs.+walk.Given as goal

-- what is made so far, and the walk of what is left
abbrev pub invariant-walk_all-loop-e : goal.invariant-walk_all-loop-e
invariant-walk_all-loop-e l = all (walks l.over (parts_of l.names (drop l.e-index l.es))) l.made l.aggs ≡ all (walks l.fn.over (parts_of l.fn.names l.fn.es)) [] l.initial.aggs

abbrev pub invariant-walk_items-loop-e : goal.invariant-walk_items-loop-e
invariant-walk_items-loop-e l = all (items l.over (parts_of l.names (drop l.e-index l.es))) l.made l.aggs ≡ all (items l.fn.over (parts_of l.fn.names l.fn.es)) [] l.initial.aggs

abbrev pub invariant-walk_arms-loop-arm : goal.invariant-walk_arms-loop-arm
invariant-walk_arms-loop-arm l = all (arms_in l.over (arms_of l.names (drop l.arm-index l.arms))) l.made l.aggs ≡ all (arms_in l.fn.over (arms_of l.fn.names l.fn.arms)) [] l.initial.aggs

abbrev pub invariant-operands-loop-link : goal.invariant-operands-loop-link
invariant-operands-loop-link l = all (operands l.fn.operator l.over (links_of l.names (drop l.link-index l.links))) l.made l.aggs ≡ all_operands l.fn.operator l.fn.over l.fn.at (links_of l.fn.names l.fn.links) l.fn.first l.initial.aggs

abbrev pub invariant-computed-loop-link : goal.invariant-computed-loop-link
invariant-computed-loop-link l = computed l.over (links_of l.names (drop l.link-index l.links)) l.so_far l.aggs ≡ computed l.fn.over (links_of l.fn.names l.fn.links) l.fn.first l.initial.aggs
