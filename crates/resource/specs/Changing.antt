-- What a change of a table needs, and what it answers.
use Rattle.std.specs.Prelude.{◌≡◌, ◌<◌, ◌≤◌, ℕ, true, false, List, [], ◌∷◌, ◌++◌, Option, Some, None, IfSome, Result, Ok, Err, ⊤}
use Rattle.vdb_model.specs.declared.source.Delta.{Delta}
use Rattle.vdb_model.specs.declared.table.TableDef.{TableDef}
use Rattle.vdb_model.specs.Defs.{def_of, is_defined}
use Rattle.vdb_model.specs.Deltas.{are_there, repeats_key}
use Rattle.vdb_model.specs.World.{takes_rows, table_rows}
use Rattle.resource.specs.declared.resource.ChangeFault.{ChangeFault}
use Rattle.resource.specs.declared.resource.ChangeFault.TheVariants.{DuplicateKey, LogFull, Failed, Memory}
use Rattle.resource.specs.Told.{Told, Contents, defs_in, seen, work, is_active}

-- the table is attached and takes the added rows, and the removed ones stand in it as often as they are listed
pub record MayChange (told : Told) (delta : Delta) : Type 0 where
  pub active : is_active told.state ≡ true
  pub defs : List TableDef
  pub attached : told.defs ≡ Some defs
  pub table : is_defined defs delta.table ≡ true
  pub added : takes_rows (def_of defs delta.table).columns delta.added ≡ true
  pub removed : IfSome (work told) (λ tables. are_there delta.removed (table_rows defs tables delta.table) ≡ true)

-- a log that is kept has so many bytes left
abbrev pub HasRoom : ℕ → Option ℕ → Type 0
HasRoom needed None = ⊤
HasRoom needed (Some left) = needed ≤ left

-- the bytes that the branch would need with one more delta
abbrev pub needed_with : (List TableDef → List Delta → ℕ) → List TableDef → Contents → Delta → ℕ
needed_with needs defs c delta = needs defs (c.deltas ++ delta ∷ [])

-- what a change answers: first by the key, then by the room in the log
abbrev pub IsChangeAnswer : {T : Type 0} → (List TableDef → List Delta → ℕ) → Told → Delta → Result T ChangeFault → Type 0
IsChangeAnswer needs told delta (Ok done) =
    IfSome told.contents (λ c. (repeats_key (defs_in told) (seen (defs_in told) c) delta ≡ false) × HasRoom (needed_with needs (defs_in told) c delta) told.spare)
IsChangeAnswer needs told delta (Err (DuplicateKey table)) =
    (table ≡ delta.table) × IfSome told.contents (λ c. repeats_key (defs_in told) (seen (defs_in told) c) delta ≡ true)
IsChangeAnswer needs told delta (Err (LogFull needed left)) =
    (told.spare ≡ Some left) × (left < needed)
    × IfSome told.contents (λ c. (repeats_key (defs_in told) (seen (defs_in told) c) delta ≡ false) × (needed ≡ needed_with needs (defs_in told) c delta))
IsChangeAnswer needs told delta (Err Failed) = ⊤
IsChangeAnswer needs told delta (Err Memory) = ⊤
