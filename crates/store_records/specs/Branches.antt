-- A branch as it is written: its deltas as they come.
use Rattle.std.specs.Prelude.{◌≡◌, true, List, length}
use Rattle.std.specs.List.{flat_map, list_all}
use Rattle.resource.specs.declared.stored.StoredDelta.{StoredDelta}
use Rattle.store_records.specs.declared.branch.Branch.{Branch}
use Rattle.store_records.specs.Payloads.{delta_bytes, has_delta}

-- the branch's bytes are those of these deltas, each of which has bytes
pub record Holds (deltas : List StoredDelta) (branch : Branch) : Type 0 where
  pub written : branch.bytes.items ≡ flat_map delta_bytes deltas
  pub counted : branch.count ≡ length deltas
  pub have : list_all has_delta deltas ≡ true
