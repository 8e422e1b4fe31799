use Rattle.row_laws.proofs.OfRelations.{relations_in_any_order}
use Rattle.row_laws.proofs.laws.relations_in_any_order.Goals as goal

pub returns : goal.returns
returns c = relations_in_any_order
