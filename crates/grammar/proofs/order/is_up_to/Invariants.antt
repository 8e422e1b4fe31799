use Rattle.std.proofs.Common.{◌≡◌, drop}
use Rattle.grammar.specs.Order.{is_up_to}
use Rattle.grammar.proofs.order.is_up_to.Given as goal

abbrev pub invariant-loop-at : goal.invariant-loop-at
invariant-loop-at l = is_up_to (drop l.at l.log) (drop l.at l.other) ≡ is_up_to l.log l.other
