use Rattle.std.proofs.Common.{length, IsUtf8}
use Rattle.vdb_base.specs.Buffering.{waiting}
use Rattle.vdb_base.specs.Print.{doubled}
use Rattle.vdb_lines.proofs.Pens.{Part}
use Rattle.vdb_lines.proofs.print.print_doubled.Given as goal

-- what is left of the text is still to come
abbrev pub invariant-loop-head : goal.invariant-loop-head
invariant-loop-head g l = Part (g.O.Sink.told l.fn.out) (g.O.Sink.told l.out) (waiting l.fn.pen) (waiting l.pen) (doubled l.fn.quote l.fn.text) (doubled l.fn.quote l.rest) × IsUtf8 l.rest

abbrev pub decreases-loop-head : goal.decreases-loop-head
decreases-loop-head g l = length l.rest
