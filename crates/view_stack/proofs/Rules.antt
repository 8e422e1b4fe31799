-- The lemmas that the proofs of functions share.
use Rattle.view_stack.proofs.SizeByKinds.{nodes_of_kinds, depth_of_kinds}
use Rattle.view_stack.proofs.NamedByKinds.{named_of_kinds}
use Rattle.view_stack.proofs.ClosedByKinds.{closed_of_kinds}
use Rattle.view_stack.proofs.UnreadByKinds.{unread_of_kinds}
use Rattle.view_stack.proofs.TreeByKinds.{tree_of_kinds}

pub ruleset size_rules = (nodes_of_kinds, depth_of_kinds)

-- what is made, and that the nodes below fall
pub ruleset tree_rules = (tree_of_kinds, nodes_of_kinds)

-- which views a relation names, and that it reads no variable
pub ruleset named_rules = (named_of_kinds, closed_of_kinds, unread_of_kinds)
