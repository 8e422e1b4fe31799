use Rattle.grammar.proofs.Runs.{none_begins}
use Rattle.grammar.proofs.laws.none_begins.Goals as goal

pub returns : goal.returns
returns c = none_begins
