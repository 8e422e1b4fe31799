-- The lemmas that the proofs of evaluation share.
use Rattle.vdb_model.proofs.Value.{value_of_kinds}

pub ruleset value_rules = (value_of_kinds)
