-- What a stop may leave of a store.
use Rattle.std.specs.Prelude.{◌≡◌, List, [], Some, None, IfSome, ⊤, ◌⊎◌}
use Rattle.vdb_model.specs.declared.source.Xid.{Xid}
use Rattle.vdb_model.specs.declared.table.TableDef.{TableDef}
use Rattle.resource.specs.declared.resource.ResState.{ResState}
use Rattle.resource.specs.declared.resource.ResState.TheVariants as state
use Rattle.resource.specs.Reading.{Reading, Sound}
use Rattle.resource.specs.Told.{Told, Contents, defs_in, seen}

-- a store that a stop leaves, as it reads under definitions
abbrev pub Image : Type 0
Image = List TableDef → Reading

-- the committed tables, without a branch
abbrev pub plain : Contents → Reading
plain c = Sound c.kept None

-- the committed tables, with the prepared branch
abbrev pub branched : Xid → Contents → Reading
branched x c = Sound c.kept (Some (record { xid = x; deltas = c.deltas }))

-- the tables as seen now, committed, without a branch
abbrev pub done : List TableDef → Contents → Reading
done defs c = Sound (seen defs c) None

-- there is an image, and each reads so under the definitions
pub record Only (defs : List TableDef) (reading : Reading) (now : Image → Type 0) : Type 0 where
  pub some : (i : Image) × now i
  pub each : (i : Image) → now i → i defs ≡ reading

-- the images are those of before
pub record Same (before now : Image → Type 0) : Type 0 where
  pub within : (i : Image) → now i → before i
  pub keeps : (i : Image) → before i → now i

-- no image is added, and where there was one there still is one
pub record Fewer (before now : Image → Type 0) : Type 0 where
  pub within : (i : Image) → now i → before i
  pub some : (i : Image) → before i → (j : Image) × now j

-- each image is one of before, or reads so under the definitions
abbrev pub Or : List TableDef → Reading → (Image → Type 0) → (Image → Type 0) → Type 0
Or defs reading before now = (i : Image) → now i → before i ⊎ (i defs ≡ reading)

-- the images are told by the state, and without a branch there are no deltas; of a lost resource nothing is said
abbrev pub Stands : ResState → List TableDef → Contents → (Image → Type 0) → Type 0
Stands state.Idle defs c images = Only defs (plain c) images × (c.deltas ≡ [])
Stands (state.Active x) defs c images = Only defs (plain c) images
Stands (state.Ended x) defs c images = Only defs (plain c) images
Stands (state.Prepared x) defs c images = Only defs (branched x c) images
Stands state.Lost defs c images = ⊤

-- in every state but Lost there is an image, and each is what is told
abbrev pub IsSound : Told → (Image → Type 0) → Type 0
IsSound t images = IfSome t.contents (λ c. Stands t.state (defs_in t) c images)
