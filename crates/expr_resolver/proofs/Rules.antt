-- The lemmas that the proofs of the walk share.
use Rattle.expr_resolver.proofs.ByKinds.{walk_of_kinds}

pub ruleset walk_rules = (walk_of_kinds)
