use Rattle.std.proofs.Common.{◌≡◌, drop, None}
use Rattle.resolver.specs.From.{tables_from}
use Rattle.resolver.specs.Selects.{tables_walk}
use Rattle.resolver.proofs.selects.+select.Given as goal

abbrev pub invariant-from_walk-loop-table : goal.invariant-from_walk-loop-table
invariant-from_walk-loop-table l = tables_from l.before (tables_walk l.cat (drop l.table-index l.tables)) ≡ tables_from None (tables_walk l.fn.cat l.fn.tables)
