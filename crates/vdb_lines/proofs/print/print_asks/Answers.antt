use Rattle.std.proofs.Common.{refl, ◌++◌, codes}
use Rattle.vdb_model.specs.Lines.{line}
use Rattle.vdb_model.specs.ReplyText.{ask_lines}
use Rattle.vdb_lines.proofs.Pens.{Part-more, Part-cut, pieces-at}
use Rattle.vdb_lines.proofs.print.print_asks.Goals as goal

pub returns-in-Err : goal.returns-in-Err
returns-in-Err g c = Part-cut _ _ _ _ _ _ _ _ _ c.loop-ask.invariant c.in-Err.ensures (pieces-at (λ ask. line (codes "ASK " ++ ask)) ask_lines (λ _ _. refl) c.args.asks.now c.loop-ask.ask-index c.ask-item.result c.ask-item.result _ c.loop-ask-test.true c.ask-item.is refl)

pub loop-ask-preserved : goal.loop-ask-preserved
loop-ask-preserved g c = Part-more _ _ _ _ _ _ _ _ _ _ c.loop-ask.invariant c.in-Ok.ensures (pieces-at (λ ask. line (codes "ASK " ++ ask)) ask_lines (λ _ _. refl) c.args.asks.now c.loop-ask.ask-index c.ask-item.result c.ask-item.result _ c.loop-ask-test.true c.ask-item.is refl)
