use Rattle.std.proofs.Common.{◌≡◌, drop}
use Rattle.std.specs.List.{list_any}
use Rattle.metadata.specs.SoFar.{is_table}
use Rattle.metadata.proofs.so_far.has_table.Given as goal

abbrev pub invariant-loop-table : goal.invariant-loop-table
invariant-loop-table l = list_any (is_table l.schema l.name) (drop l.table-index l.tables) ≡ list_any (is_table l.schema l.name) l.tables
