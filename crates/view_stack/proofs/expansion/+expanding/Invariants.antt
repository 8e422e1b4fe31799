use Rattle.std.proofs.Common.{◌≡◌, [], ◌++◌, drop, ◌+◌, ◌*◌, ◌≤◌}
use Rattle.vdb_model.specs.World.{view_rels}
use Rattle.vdb_model.specs.Sizes.{together, nodes_of}
use Rattle.vdb_model.specs.Expanded.{expanded_after}
use Rattle.view_stack.specs.Parts.{expanded_each, nodes_each}
use Rattle.view_stack.proofs.Falls.{nodes_below}
use Rattle.view_stack.proofs.expansion.+expanding.Given as goal

abbrev pub decreases-expanded_rel : goal.decreases-expanded_rel
decreases-expanded_rel l = 3 * (nodes_of [] l.rel.now + nodes_below l.views.now) + 1

abbrev pub decreases-expanded_rels : goal.decreases-expanded_rels
decreases-expanded_rels l = 3 * (together (nodes_each [] l.rels.now) + nodes_below l.views.now) + 2

abbrev pub decreases-expanded_boxed : goal.decreases-expanded_boxed
decreases-expanded_boxed l = 3 * (nodes_of [] l.rel.now + nodes_below l.views.now) + 2

abbrev pub decreases-expanded_view : goal.decreases-expanded_view
decreases-expanded_view l = 3 * nodes_below l.views.now

-- the parts so far and those to come are all
abbrev pub invariant-expanded_rels-loop-rel : goal.invariant-expanded_rels-loop-rel
invariant-expanded_rels-loop-rel l =
    (l.made.items ++ expanded_each (expanded_after [] (view_rels l.views)) (drop l.rel-index l.rels) ≡ expanded_each (expanded_after [] (view_rels l.views)) l.rels)
    × (together (nodes_each [] (drop l.rel-index l.rels)) ≤ together (nodes_each [] l.rels))
