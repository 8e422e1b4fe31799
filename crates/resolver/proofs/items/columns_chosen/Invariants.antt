use Rattle.std.proofs.Common.{◌≡◌, [], drop}
use Rattle.resolver.specs.Items.{columns_chosen}
use Rattle.resolver.proofs.items.columns_chosen.Given as goal

abbrev pub invariant-loop-column : goal.invariant-loop-column
invariant-loop-column l = columns_chosen l.names l.over l.first l.number (drop l.column-index l.columns) l.made ≡ columns_chosen l.fn.names l.fn.over l.fn.first l.fn.at l.fn.columns []
