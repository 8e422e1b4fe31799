use Rattle.row_laws.proofs.OfRelations.{views_in_any_order}
use Rattle.row_laws.proofs.laws.views_in_any_order.Goals as goal

pub returns : goal.returns
returns c = views_in_any_order
