use Rattle.std.proofs.Common.{◌≡◌, drop}
use Rattle.std.specs.List.{list_any}
use Rattle.vdb_model.specs.Rows.{same_row}
use Rattle.vdb_model.specs.World as world
use Rattle.resource.proofs.Apart.{apart_from}
use Rattle.resource.proofs.keys.are_keyed_apart.Given as goal

-- the rows that are left decide, beside the keys so far
abbrev pub invariant-loop-row : goal.invariant-loop-row
invariant-loop-row l = apart_from (λ key. list_any (same_row key) l.seen.keys.keys) l.columns (drop l.row-index l.rows) ≡ world.are_keyed_apart l.columns l.rows
