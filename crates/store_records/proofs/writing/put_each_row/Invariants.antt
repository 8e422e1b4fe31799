use Rattle.std.proofs.Common.{◌≡◌, ◌++◌, drop}
use Rattle.std.specs.List.{flat_map, list_all}
use Rattle.store_records.specs.Payloads.{row_bytes, has_row}
use Rattle.store_records.proofs.writing.put_each_row.Given as goal

-- what is written and what is to come are all
abbrev pub invariant-loop-row : goal.invariant-loop-row
invariant-loop-row l = record {
  fits : list_all has_row l.rows ≡ list_all has_row (drop l.row-index l.rows);
  added : l.out.items ++ flat_map row_bytes (drop l.row-index l.rows) ≡ l.initial.out.items ++ flat_map row_bytes l.rows;
}
