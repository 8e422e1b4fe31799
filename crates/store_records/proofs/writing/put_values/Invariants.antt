use Rattle.std.proofs.Common.{◌≡◌, ◌++◌, drop}
use Rattle.std.specs.List.{flat_map, list_all}
use Rattle.store_records.specs.Payloads.{value_bytes, has_value}
use Rattle.store_records.proofs.writing.put_values.Given as goal

-- what is written and what is to come are all
abbrev pub invariant-loop-v : goal.invariant-loop-v
invariant-loop-v l = record {
  fits : list_all has_value l.row ≡ list_all has_value (drop l.v-index l.row);
  added : l.out.items ++ flat_map value_bytes (drop l.v-index l.row) ≡ l.initial.out.items ++ flat_map value_bytes l.row;
}
