-- The records of a log as lists: exactly what they leave.
use Rattle.std.specs.Prelude.{◌≡◌, List, Option, Some, None, Result, Ok, Err}
use Rattle.std.specs.Option.{option_map}
use Rattle.vdb_model.specs.declared.source.Xid.{Xid}
use Rattle.resource.specs.Stored.{StoredBranch, after_stored}
use Rattle.resource.specs.declared.stored.StoredDelta.{StoredDelta}
use Rattle.resource.specs.declared.stored.StoredTable.{StoredTable}
use Rattle.store_records.specs.declared.reading.ReadFault.{ReadFault}
use Rattle.store_records.specs.declared.reading.ReadFault.TheVariants as fault
use Rattle.store_replay.specs.Replay.{Replayed, ended}
use Rattle.store_replay.specs.declared.lists.Held.{Held}
use Rattle.store_replay.specs.declared.lists.Listing.{Listing}

abbrev pub branch_of : Held → StoredBranch
branch_of held = record { xid = held.xid; deltas = held.deltas }

pub record ListingHas (r : Replayed) (listing : Listing) : Type 0 where
  pub tables : listing.tables.items ≡ r.tables
  pub branch : option_map branch_of listing.branch ≡ r.branch

-- stored tables as a branch would leave them, where there is one
abbrev pub left_by_branch : Option StoredBranch → List StoredTable → List StoredTable
left_by_branch None tables = tables
left_by_branch (Some branch) tables = after_stored tables branch.deltas

abbrev pub left_in : Option Held → List StoredTable → List StoredTable
left_in held tables = left_by_branch (option_map branch_of held) tables

abbrev pub stored_left : Replayed → List StoredTable
stored_left r = left_by_branch r.branch r.tables

-- the branch was that of the transaction, and none waits now
pub record HeldIs (r : Replayed) (x : Xid) (new : Listing) (held : Held) : Type 0 where
  pub has : ListingHas (record { tables = r.tables; branch = None }) new
  pub ends : (left : List StoredDelta → List StoredTable) → ended r.branch x left ≡ Some (record { tables = left held.deltas; branch = None })

-- what taking the branch of a transaction answers
abbrev pub EndsHeld : Replayed → Xid → Listing → Result Held ReadFault → Type 0
EndsHeld r x new (Ok held) = HeldIs r x new held
EndsHeld r x new (Err fault.Broken) = (left : List StoredDelta → List StoredTable) → ended r.branch x left ≡ None
EndsHeld r x new (Err fault.Memory) = ⊥
