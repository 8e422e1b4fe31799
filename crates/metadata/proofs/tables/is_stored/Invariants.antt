use Rattle.std.proofs.Common.{◌≡◌, drop}
use Rattle.std.specs.List.{list_any}
use Rattle.metadata.specs.Tables.{is_stored}
use Rattle.metadata.proofs.tables.is_stored.Given as goal

abbrev pub invariant-loop-table : goal.invariant-loop-table
invariant-loop-table l = list_any (is_stored l.server l.source) (drop l.table-index l.tables) ≡ list_any (is_stored l.server l.source) l.tables
