use Rattle.std.proofs.Common.{◌+◌, None, length, refl}
use Rattle.vdb_model.specs.NameText.{name_text}
use Rattle.metadata.proofs.DeployGives.{few}
use Rattle.metadata.proofs.SoundSoFar.{good_name}
use Rattle.metadata.proofs.WellServers.{with_schema_well}
use Rattle.metadata.proofs.schemas.create_virtual_schema.Goals as goal

pub add_schema-requires : goal.add_schema-requires
add_schema-requires c =
    let catalog = c.args.s.now.catalog in
    let name = c.args.name.now.text in
    with_schema_well catalog (record { name = name; server = None }) c.requires.well refl (good_name name c.in_ok-good_name.ensures)
    (few 64 (length catalog.schemas + 1) (name_text name) c.in_ok-few_schemas.ensures)
