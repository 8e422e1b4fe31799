use Rattle.vdb_ddl.proofs.Turns.{never_both}
use Rattle.vdb_ddl.proofs.laws.never_both.Goals as goal

pub returns : goal.returns
returns c = never_both
