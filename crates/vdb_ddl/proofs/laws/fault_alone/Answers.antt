use Rattle.vdb_ddl.proofs.Turns.{fault_alone}
use Rattle.vdb_ddl.proofs.laws.fault_alone.Goals as goal

pub returns : goal.returns
returns c = fault_alone
