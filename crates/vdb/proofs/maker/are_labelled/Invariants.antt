use Rattle.std.proofs.Common.{◌≡◌, length}
use Rattle.resource.specs.Lanes.{labels_of}
use Rattle.vdb.specs.Making.{labels}
use Rattle.vdb.proofs.maker.are_labelled.Given as goal

abbrev pub invariant-loop-left : goal.invariant-loop-left
invariant-loop-left g l = record {
  same : labels_of l.left ≡ labels l.others → labels_of l.lanes ≡ labels l.conns;
  other : labels_of l.lanes ≡ labels l.conns → labels_of l.left ≡ labels l.others;
}

abbrev pub decreases-loop-left : goal.decreases-loop-left
decreases-loop-left g l = length l.left
