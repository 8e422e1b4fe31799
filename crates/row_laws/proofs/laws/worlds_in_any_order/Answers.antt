use Rattle.row_laws.proofs.OfWorlds.{worlds_in_any_order}
use Rattle.row_laws.proofs.laws.worlds_in_any_order.Goals as goal

pub returns : goal.returns
returns c = worlds_in_any_order
