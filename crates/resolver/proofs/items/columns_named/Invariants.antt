use Rattle.std.proofs.Common.{◌≡◌, ◌++◌, drop}
use Rattle.resolver.specs.Items.{columns_named}
use Rattle.resolver.proofs.items.columns_named.Given as goal

abbrev pub invariant-loop-entry : goal.invariant-loop-entry
invariant-loop-entry l = l.found.items ++ columns_named l.at l.name (drop l.entry-index l.entries) ≡ columns_named 0 l.fn.name l.fn.entries
