use Rattle.row_laws.proofs.OfWorlds.{answers_in_any_order}
use Rattle.row_laws.proofs.laws.answers_in_any_order.Goals as goal

pub returns : goal.returns
returns c = answers_in_any_order
