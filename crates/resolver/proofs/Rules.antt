-- The lemmas that the proofs of the walk share.
use Rattle.resolver.proofs.ItemsByKinds.{aggregate_of_kinds, name_of_kinds}
use Rattle.resolver.proofs.OneMore.{chosen_exprs_more, chosen_columns_more}
use Rattle.resolver.proofs.SetsByKinds.{sets_of_kinds}

pub ruleset item_rules = (aggregate_of_kinds, name_of_kinds)

pub ruleset split_rules = (chosen_exprs_more, chosen_columns_more)

pub ruleset set_rules = (sets_of_kinds)
