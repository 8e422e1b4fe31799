use Rattle.vdb_ddl.proofs.Turns.{items_alone}
use Rattle.vdb_ddl.proofs.laws.items_alone.Goals as goal

pub returns : goal.returns
returns c = items_alone
