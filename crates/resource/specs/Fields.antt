-- The fields of a resource in memory, and what its steps make of them.
use Rattle.std.specs.Prelude.{◌≡◌, Bool, true, false, List, [], ◌∷◌, ◌++◌, Result, Ok, Err}
use Rattle.vdb_model.specs.declared.source.Delta.{Delta}
use Rattle.vdb_model.specs.Defs.{def_of}
use Rattle.resource.specs.declared.inner.Inner.{Inner}
use Rattle.resource.specs.declared.mode.Mode.{Mode}
use Rattle.resource.specs.declared.mode.Mode.TheVariants as mode
use Rattle.resource.specs.declared.stored.StoredDelta.{StoredDelta}
use Rattle.resource.specs.declared.stored.StoredTable.{StoredTable}
use Rattle.resource.specs.Holding.{Holding, defs_held}
use Rattle.resource.specs.Making.{by_name, keeps_its_key}
use Rattle.resource.specs.Stored.{after_stored}

abbrev pub fields_of : Inner → Holding
fields_of inner = record {
  caps = inner.caps;
  calls = inner.calls;
  defs = inner.defs;
  asked = inner.asked.items;
  mode = inner.mode;
  reserved = inner.reserved;
  kept = inner.kept;
  deltas = inner.deltas.items;
}

-- the tables as a prepared branch would leave them, or as they are kept where there is none
abbrev pub left_in : Mode → List StoredTable → List StoredDelta → List StoredTable
left_in mode.Idle kept deltas = kept
left_in (mode.Active x) kept deltas = kept
left_in (mode.Ended x) kept deltas = kept
left_in (mode.Prepared x) kept deltas = after_stored kept deltas
left_in (mode.Lost first other) kept deltas = kept

-- a delta, as it is stored under definitions that have its table
abbrev pub stored_delta : Holding → Delta → StoredDelta
stored_delta h delta = by_name (def_of (defs_held h) delta.table).source delta

-- the table of the delta keeps its primary key
abbrev pub keeps_key_with : Holding → Delta → Bool
keeps_key_with h delta = keeps_its_key (def_of (defs_held h) delta.table) delta (after_stored h.kept h.deltas)

-- what a change makes: one more delta, where the primary key doesn't stand twice then
abbrev pub MakesChange : {F : Type 0} → Delta → Holding → Holding → Result Bool F → Type 0
MakesChange delta old new (Ok true) = (keeps_key_with old delta ≡ true) × (new ≡ record old { deltas = old.deltas ++ stored_delta old delta ∷ [] })
MakesChange delta old new (Ok false) = (keeps_key_with old delta ≡ false) × (new ≡ old)
MakesChange delta old new (Err wanting) = new ≡ old

-- one delta more, where there is memory for it
abbrev pub TakesIn : {F : Type 0} → StoredDelta → Holding → Holding → Result Bool F → Type 0
TakesIn delta old new (Ok true) = new ≡ record old { deltas = old.deltas ++ delta ∷ [] }
TakesIn delta old new (Ok false) = ⊥
TakesIn delta old new (Err wanting) = new ≡ old
