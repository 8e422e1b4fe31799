-- A replay under definitions: which tables and which branch it holds in memory.
use Rattle.std.specs.Prelude.{◌≡◌, Bool, true, false, List, [], Option, Some, None, ⊤}
use Rattle.std.specs.Option.{option_map}
use Rattle.vdb_model.specs.declared.source.Xid.{Xid}
use Rattle.vdb_model.specs.declared.table.TableDef.{TableDef}
use Rattle.vdb_model.specs.Defs.{are_numbered_apart, are_named_apart}
use Rattle.vdb_model.specs.Deltas.{after_deltas}
use Rattle.vdb_model.specs.Rows.{Cells}
use Rattle.resource.specs.Stored.{StoredBranch, tables_in, numbered, number_named, with_number, branch_under}
use Rattle.resource.specs.declared.stored.StoredDelta.{StoredDelta}
use Rattle.vdb_model.specs.declared.source.Delta.{Delta}
use Rattle.resource.specs.Told.{branch_deltas}
use Rattle.store_replay.specs.Replay.{Replayed, same_xid}
use Rattle.store_tables.specs.Shelves.{ShelfHas}
use Rattle.store_replay.specs.declared.opening.Waiting.{Waiting}
use Rattle.store_replay.specs.declared.replay.Replay.{Replay}

-- no two definitions have one number or one name
pub record AreApart (defs : List TableDef) : Type 0 where
  pub numbers : are_numbered_apart defs ≡ true
  pub names : are_named_apart defs ≡ true

-- the delta of a stored one by its number, where a definition has its name
abbrev pub listed_by : List TableDef → StoredDelta → List Delta
listed_by defs delta = with_number (number_named delta.source defs) delta []

-- the tables as the prepared branch would leave them, where there is one
abbrev pub left_by : Replayed → List TableDef → List (List Cells)
left_by r defs = after_deltas defs (tables_in r.tables defs) (branch_deltas (option_map (branch_under defs) r.branch))

-- this branch waits for its end
abbrev pub WaitsAs : List TableDef → Option StoredBranch → Option Waiting → Type 0
WaitsAs defs None None = ⊤
WaitsAs defs None (Some waiting) = ⊥
WaitsAs defs (Some branch) None = ⊥
WaitsAs defs (Some branch) (Some waiting) = (waiting.xid ≡ branch.xid) × (waiting.deltas.items ≡ numbered defs branch.deltas)

-- the branch of the transaction waits
abbrev pub waits_for : Option Waiting → Xid → Bool
waits_for None x = false
waits_for (Some waiting) x = same_xid waiting.xid x

-- the replay holds these tables and this branch, under definitions that are apart
pub record ReplayHas (r : Replayed) (replay : Replay) : Type 0 where
  pub has : ShelfHas (tables_in r.tables replay.shelf.defs) (left_by r replay.shelf.defs) replay.shelf
  pub waits : WaitsAs replay.shelf.defs r.branch replay.waiting
  pub apart : AreApart replay.shelf.defs
