-- The changes of a branch, as they are stored, and what a change answers.
use Rattle.std.specs.Prelude.{◌≡◌, ◌≤◌, ◌<◌, ℕ, Bool, true, false, List, [], ◌∷◌, ◌++◌, map, Result, Ok, Err, ⊤}
use Rattle.vdb_model.specs.declared.source.Delta.{Delta}
use Rattle.vdb_model.specs.declared.table.TableDef.{TableDef}
use Rattle.vdb_model.specs.Defs.{def_of}
use Rattle.resource.specs.Making.{by_name}
use Rattle.resource.specs.declared.resource.ChangeFault.{ChangeFault}
use Rattle.resource.specs.declared.resource.ChangeFault.TheVariants.{DuplicateKey, LogFull, Failed, Memory}
use Rattle.resource.specs.declared.stored.StoredDelta.{StoredDelta}
use Rattle.store_records.specs.Framing.{branch_size}

-- a change as it is stored, and the bytes of the log that a branch of changes needs
abbrev pub stored_as : List TableDef → List Delta → List StoredDelta
stored_as defs deltas = map (λ delta. by_name (def_of defs delta.table).source delta) deltas

abbrev pub store_needs : List TableDef → List Delta → ℕ
store_needs defs deltas = branch_size (stored_as defs deltas)

-- the branch's changes after a call with one more
abbrev pub taken : {T E : Type 0} → Result T E → List Delta → Delta → List Delta
taken (Ok done) deltas delta = deltas ++ delta ∷ []
taken (Err fault) deltas delta = deltas

-- what a change of a table answers by the room: the bytes that the branch would need, and those that are left
abbrev pub IsRoomAnswer : {T : Type 0} → ℕ → ℕ → ℕ → Result T ChangeFault → Type 0
IsRoomAnswer table needs left (Ok done) = needs ≤ left
IsRoomAnswer table needs left (Err (LogFull needed spare)) = (spare ≡ left) × (left < needed) × (needed ≡ needs)
IsRoomAnswer table needs left (Err (DuplicateKey number)) = number ≡ table
IsRoomAnswer table needs left (Err Failed) = ⊥
IsRoomAnswer table needs left (Err Memory) = ⊤

-- and by the key, which comes first
abbrev pub IsKeyAnswer : {T : Type 0} → Bool → Result T ChangeFault → Type 0
IsKeyAnswer repeats (Ok done) = repeats ≡ false
IsKeyAnswer repeats (Err (LogFull needed spare)) = repeats ≡ false
IsKeyAnswer repeats (Err (DuplicateKey number)) = repeats ≡ true
IsKeyAnswer repeats (Err Failed) = ⊤
IsKeyAnswer repeats (Err Memory) = ⊤
