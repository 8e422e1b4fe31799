-- The tables of an attached store, and the changes of its branch.
use Rattle.std.specs.Prelude.{List}
use Rattle.vdb_model.specs.Deltas.{after_deltas}
use Rattle.vdb_model.specs.Rows.{Cells}
use Rattle.store_records.specs.Branches.{Holds}
use Rattle.store_tables.specs.Shelves.{ShelfHas}
use Rattle.mem_store.specs.Changes.{stored_as}
use Rattle.mem_store.specs.declared.attached.Attached.{Attached}

-- these rows are kept, and the branch's changes make of them what is seen
abbrev pub AttachedHas : List (List Cells) → Attached → Type 0
AttachedHas kept a = ShelfHas kept (after_deltas a.shelf.defs kept a.deltas.items) a.shelf

-- the changes stand as they are written
abbrev pub IsWritten : Attached → Type 0
IsWritten a = Holds (stored_as a.shelf.defs a.deltas.items) a.branch
