-- The lemmas that the proofs of functions share.
use Rattle.vdb_model.proofs.Bags.{bag_of_kinds}
use Rattle.processor.proofs.ReadsByKinds.{reads_of_kinds}

pub ruleset bag_rules = (bag_of_kinds)

pub ruleset read_rules = (reads_of_kinds)
