-- A resource in memory: what it tells, and which of its calls fail.
use Rattle.std.specs.Prelude.{◌≡◌, ℕ, Bool, true, false, List, [], Some, None}
use Rattle.vdb_base.specs.declared.calls.Calls.{Calls}
use Rattle.vdb_base.specs.Calls.{is_listed, after_call}
use Rattle.vdb_model.specs.declared.source.Caps.{Caps}
use Rattle.resource.specs.declared.mem_resource.MemResource.{MemResource}
use Rattle.resource.specs.declared.resource.ResState.TheVariants as state
use Rattle.resource.specs.declared.stored.StoredTable.{StoredTable}
use Rattle.resource.specs.Fields.{fields_of}
use Rattle.resource.specs.Holding.{Holding, told_held, images_held, first_image, other_image, image_at, state_of}
use Rattle.resource.specs.Images.{Image}
use Rattle.resource.specs.Stored.{read_store}
use Rattle.resource.specs.Told.{Told, no_contents, is_settled}

abbrev pub held : MemResource → Holding
held resource = fields_of resource.inner

abbrev pub mem_told : MemResource → Told
mem_told resource = told_held (held resource)

abbrev pub mem_images : MemResource → Image → Type 0
mem_images resource = images_held (held resource)

-- the calls that were made, and those that fail
abbrev pub calls_of : MemResource → Calls
calls_of resource = (held resource).calls

-- before its first call
abbrev pub unattached : List StoredTable → Caps → Told
unattached stored caps = record {
  caps = caps;
  state = state.Idle;
  reserved = false;
  defs = None;
  faults = 0;
  spare = None;
  reads = Some (read_store stored None);
  contents = Some no_contents;
  asked = Some [];
}

-- the call fails exactly where it is listed
pub record CallsByList (old new : Calls) (failed : Bool) : Type 0 where
  pub fails : failed ≡ is_listed old
  pub calls : new ≡ after_call old failed

-- It is what a stop leaves: unattached, with the image of the number, in the state that the image gives. Its calls go on
-- being counted.
pub record IsStopped (image : ℕ) (old new : Holding) : Type 0 where
  pub caps : new.caps ≡ old.caps
  pub calls : new.calls ≡ old.calls
  pub unattached : (new.defs ≡ None) × (new.asked ≡ []) × (new.reserved ≡ false)
  pub settled : is_settled (state_of new.mode) ≡ true
  pub first : first_image new ≡ image_at image old
  pub alone : other_image new ≡ first_image new
  pub stood : images_held old (first_image new)
