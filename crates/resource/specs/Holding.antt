-- What a resource in memory holds, and how its calls move it.
use Rattle.std.specs.Prelude.{◌≡◌, ℕ, Bool, true, false, ◌&&◌, ◌||◌, ◌==◌, if◌then◌else◌, List, [], length, Option, Some, None, ◌⊎◌}
use Rattle.std.specs.Option.{unwrap_or}
use Rattle.vdb_base.specs.declared.calls.Calls.{Calls}
use Rattle.vdb_base.specs.Calls.{after_call}
use Rattle.vdb_model.specs.declared.source.Caps.{Caps}
use Rattle.vdb_model.specs.declared.source.SourceQuery.{SourceQuery}
use Rattle.vdb_model.specs.declared.table.TableDef.{TableDef}
use Rattle.vdb_model.specs.Defs.{are_fit}
use Rattle.vdb_model.specs.Deltas.{after_deltas}
use Rattle.vdb_model.specs.World.{is_world}
use Rattle.resource.specs.declared.mode.Mode.{Mode}
use Rattle.resource.specs.declared.mode.Mode.TheVariants as mode
use Rattle.resource.specs.declared.mode.Side.{Side}
use Rattle.resource.specs.declared.mode.Side.TheVariants.{Plain, Branched, Done}
use Rattle.resource.specs.declared.resource.ResState.{ResState}
use Rattle.resource.specs.declared.resource.ResState.TheVariants as state
use Rattle.resource.specs.declared.stored.StoredDelta.{StoredDelta}
use Rattle.resource.specs.declared.stored.StoredTable.{StoredTable}
use Rattle.resource.specs.Images.{Image}
use Rattle.resource.specs.Single.{asks_one_table}
use Rattle.resource.specs.Stored.{tables_in, after_stored, numbered, read_store}
use Rattle.resource.specs.Told.{Told, Contents}

-- its fields: the committed tables, and the branch's deltas
pub record Holding : Type 0 where
  pub caps : Caps
  pub calls : Calls
  pub defs : Option (List TableDef)
  pub asked : List SourceQuery
  pub mode : Mode
  pub reserved : Bool
  pub kept : List StoredTable
  pub deltas : List StoredDelta

abbrev pub state_of : Mode → ResState
state_of mode.Idle = state.Idle
state_of (mode.Active x) = state.Active x
state_of (mode.Ended x) = state.Ended x
state_of (mode.Prepared x) = state.Prepared x
state_of (mode.Lost first other) = state.Lost

-- one side that its store may have, and the other; they differ only after a failure
abbrev pub first_of : Mode → Side
first_of mode.Idle = Plain
first_of (mode.Active x) = Plain
first_of (mode.Ended x) = Plain
first_of (mode.Prepared x) = Branched x
first_of (mode.Lost first other) = first

abbrev pub other_of : Mode → Side
other_of mode.Idle = Plain
other_of (mode.Active x) = Plain
other_of (mode.Ended x) = Plain
other_of (mode.Prepared x) = Branched x
other_of (mode.Lost first other) = other

-- what a store with this side reads as
abbrev pub image_of : Side → List StoredTable → List StoredDelta → Image
image_of Plain kept deltas = read_store kept None
image_of (Branched x) kept deltas = read_store kept (Some (record { xid = x; deltas = deltas }))
image_of Done kept deltas = read_store (after_stored kept deltas) None

abbrev pub first_image : Holding → Image
first_image h = image_of (first_of h.mode) h.kept h.deltas

abbrev pub other_image : Holding → Image
other_image h = image_of (other_of h.mode) h.kept h.deltas

-- a stop leaves one of these
abbrev pub images_held : Holding → Image → Type 0
images_held h i = (i ≡ first_image h) ⊎ (i ≡ other_image h)

abbrev pub defs_held : Holding → List TableDef
defs_held h = unwrap_or h.defs []

abbrev pub contents_held : Holding → Contents
contents_held h = record { kept = tables_in h.kept (defs_held h); deltas = numbered (defs_held h) h.deltas }

abbrev pub told_held : Holding → Told
told_held h = record {
  caps = h.caps;
  state = state_of h.mode;
  reserved = h.reserved;
  defs = h.defs;
  faults = h.calls.faults;
  spare = None;
  reads = Some (first_image h);
  contents = Some (contents_held h);
  asked = Some h.asked;
}

abbrev pub is_plain_side : Side → Bool
is_plain_side Plain = true
is_plain_side (Branched x) = false
is_plain_side Done = false

abbrev pub is_unwritten : Mode → Bool
is_unwritten mode.Idle = true
is_unwritten (mode.Active x) = false
is_unwritten (mode.Ended x) = false
is_unwritten (mode.Prepared x) = false
is_unwritten (mode.Lost first other) = is_plain_side first && is_plain_side other

-- the attached tables have rows that their definitions take, as they are kept and as the branch leaves them
abbrev pub holds_world : List TableDef → List StoredTable → List StoredDelta → Bool
holds_world defs kept deltas = is_world defs (tables_in kept defs) && is_world defs (after_deltas defs (tables_in kept defs) (numbered defs deltas))

-- It is asked for rows of one table at a time, the attached definitions are fit for it and hold, and without the
-- capability of writes there is no branch.
abbrev pub is_kept_well : Holding → Bool
is_kept_well h = asks_one_table h.caps && are_fit h.caps (defs_held h) && holds_world (defs_held h) h.kept h.deltas
    && (h.caps.writes || (is_unwritten h.mode && length h.deltas == 0))

-- a call was counted, which failed or not
abbrev pub called : Bool → Holding → Holding
called failed h = record h { calls = after_call h.calls failed }

-- it is lost: its store has the side that it had, or this one
abbrev pub losing : Side → Holding → Holding
losing other h = record h { mode = mode.Lost (first_of h.mode) other }

-- its store has this side
abbrev pub taking : Side → Holding → Holding
taking Plain h = record h { deltas = []; mode = mode.Idle }
taking (Branched x) h = record h { mode = mode.Prepared x }
taking Done h = record h { kept = after_stored h.kept h.deltas; deltas = []; mode = mode.Idle }

-- without definitions, and without room for a commit in one phase
abbrev pub detaching : Holding → Holding
detaching h = record h { defs = None; reserved = false }

-- the side of an image, counted from 0
abbrev pub side_at : ℕ → Mode → Side
side_at image m = if image == 0 then first_of m else other_of m

-- what a stop leaves
abbrev pub stopping : ℕ → Holding → Holding
stopping image h = record (taking (side_at image h.mode) h) { defs = None; asked = []; reserved = false }

-- the image of the number
abbrev pub image_at : ℕ → Holding → Image
image_at image h = image_of (side_at image h.mode) h.kept h.deltas
