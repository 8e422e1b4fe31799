use Rattle.std.proofs.Common.{drop}
use Rattle.vdb_base.specs.Buffering.{waiting}
use Rattle.vdb_model.specs.ReplyText.{ask_lines}
use Rattle.vdb_lines.proofs.Pens.{Part}
use Rattle.vdb_lines.proofs.print.print_asks.Given as goal

abbrev pub invariant-loop-ask : goal.invariant-loop-ask
invariant-loop-ask g l = Part (g.O.Sink.told l.fn.out) (g.O.Sink.told l.out) (waiting l.fn.pen) (waiting l.pen) (ask_lines l.asks) (ask_lines (drop l.ask-index l.asks))
