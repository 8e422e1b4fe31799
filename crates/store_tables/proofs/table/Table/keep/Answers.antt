use Rattle.store_tables.proofs.TableSteps.{kept_all}
use Rattle.store_tables.proofs.table.Table.keep.Goals as goal

pub returns : goal.returns
returns c = λ ats kept seen has. kept_all ats kept seen c.args.self.now _ c.keep.ensures c.keep-2.ensures has
