use Rattle.std.proofs.Common.{◌≡◌, ◌++◌, drop}
use Rattle.resolver.specs.From.{visible}
use Rattle.resolver.proofs.from.add_visible.Given as goal

abbrev pub invariant-loop-entry : goal.invariant-loop-entry
invariant-loop-entry l = l.seen ++ visible (drop l.entry-index l.entries) ≡ l.initial.seen ++ visible l.entries
