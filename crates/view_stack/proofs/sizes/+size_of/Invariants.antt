use Rattle.std.proofs.Common.{◌≡◌, ◌+◌, max, drop}
use Rattle.vdb_model.specs.Sizes.{together, greatest}
use Rattle.view_stack.specs.Parts.{nodes_each, depth_each}
use Rattle.view_stack.proofs.sizes.+size_of.Given as goal

-- the parts so far and those to come are all
abbrev pub invariant-size_of_all-loop-part : goal.invariant-size_of_all-loop-part
invariant-size_of_all-loop-part l =
    (l.all.nodes + together (nodes_each l.views (drop l.part-index l.parts)) ≡ together (nodes_each l.views l.parts))
    × (max l.all.depth (greatest (depth_each l.views (drop l.part-index l.parts))) ≡ greatest (depth_each l.views l.parts))
