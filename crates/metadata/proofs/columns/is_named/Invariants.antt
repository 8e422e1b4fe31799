use Rattle.std.proofs.Common.{◌≡◌, drop}
use Rattle.std.specs.List.{list_any}
use Rattle.metadata.specs.Columns.{names}
use Rattle.metadata.proofs.columns.is_named.Given as goal

abbrev pub invariant-loop-other : goal.invariant-loop-other
invariant-loop-other l = list_any (names l.name) (drop l.other-index l.names) ≡ list_any (names l.name) l.names
