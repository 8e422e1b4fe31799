use Rattle.vdb_ddl.proofs.Built.{one_item_built}
use Rattle.vdb_ddl.proofs.laws.one_item_built.Goals as goal

pub returns : goal.returns
returns c = one_item_built
