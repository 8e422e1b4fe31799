use Rattle.grammar.proofs.Runs.{fault_whole, none_past}
use Rattle.grammar.proofs.reader.read.Goals as goal

pub returns-in-Ok-clause-none : goal.returns-in-Ok-clause-none
returns-in-Ok-clause-none c = none_past _ _ _ _ c.in-Ok.ensures.front c.if-read_front-text.true

pub returns-in-Err-clause-none : goal.returns-in-Err-clause-none
returns-in-Err-clause-none c = fault_whole _ _ _ c.in-Err.fault c.in-Err.ensures.place c.in-Err.ensures.none
