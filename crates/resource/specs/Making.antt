-- What a change makes of stored tables.
use Rattle.std.specs.Prelude.{◌≡◌, ℕ, Bool, true, false, List, Option, Some, None, Result, Ok, Err, ⊤}
use Rattle.vdb_base.specs.declared.memory.NoMemory.{NoMemory}
use Rattle.vdb_model.specs.declared.source.Delta.{Delta}
use Rattle.vdb_model.specs.declared.table.TableDef.{TableDef}
use Rattle.vdb_model.specs.Deltas.{changed}
use Rattle.vdb_model.specs.World.{keeps_key}
use Rattle.resource.specs.declared.making.Made.{Made}
use Rattle.resource.specs.declared.stored.StoredDelta.{StoredDelta}
use Rattle.resource.specs.declared.stored.StoredTable.{StoredTable}
use Rattle.resource.specs.Stored.{rows_named, after_one}

-- a delta, of the table that is stored under a name
abbrev pub by_name : List ℕ → Delta → StoredDelta
by_name source delta = record { source = source; removed = delta.removed; added = delta.added }

-- the table keeps its primary key
abbrev pub keeps_its_key : TableDef → Delta → List StoredTable → Bool
keeps_its_key d delta tables = keeps_key d.key (changed delta (rows_named d.source tables))

abbrev pub MakesOf : TableDef → Delta → List StoredTable → Result (Option Made) NoMemory → Type 0
MakesOf d delta tables (Ok (Some made)) = (keeps_its_key d delta tables ≡ true) × (made.delta ≡ by_name d.source delta) × (made.tables ≡ after_one tables (by_name d.source delta))
MakesOf d delta tables (Ok None) = keeps_its_key d delta tables ≡ false
MakesOf d delta tables (Err wanting) = ⊤
