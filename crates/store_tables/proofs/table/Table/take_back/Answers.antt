use Rattle.store_tables.proofs.TableSteps.{taken_back}
use Rattle.store_tables.proofs.table.Table.take_back.Goals as goal

pub returns : goal.returns
returns c = λ ats kept seen has. taken_back ats kept seen c.args.self.now _ c.take_back.ensures c.take_back-2.ensures has
