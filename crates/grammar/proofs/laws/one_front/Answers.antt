use Rattle.grammar.proofs.Runs.{one_front}
use Rattle.grammar.proofs.laws.one_front.Goals as goal

pub returns : goal.returns
returns c = one_front
