use Rattle.grammar.proofs.Predictive.{one_derivation}
use Rattle.grammar.proofs.laws.one_derivation.Goals as goal

pub returns : goal.returns
returns c = one_derivation
