use Rattle.std.proofs.Common.{◌≡◌, ℕ, ◌+◌, true, Option, length, sym, subst, arith}
use Rattle.vdb_model.specs.NameText.{name_text}
use Rattle.vdb_model.specs.WellFormed.{is_below}
use Rattle.metadata.proofs.DeployGives.{few}
use Rattle.metadata.proofs.SoundSoFar.{good_name, named_below}
use Rattle.metadata.proofs.WellServers.{with_schema_well}
use Rattle.metadata.proofs.schemas.create_schema.Goals as goal

pub add_schema-requires : goal.add_schema-requires
add_schema-requires c =
    let catalog = c.args.s.now.catalog in
    let name = c.args.name.now.text in
    with_schema_well catalog (record { name = name; server = c.in_ok-server.server }) c.requires.well
    (subst (λ (n : Option ℕ). is_below (length catalog.servers) n ≡ true) (sym c.in_ok-server.ensures) (named_below (length catalog.servers) 0 catalog.servers c.args.server.now.text (omega arith)))
    (good_name name c.in_ok-good_name.ensures) (few 64 (length catalog.schemas + 1) (name_text name) c.in_ok-few_schemas.ensures)
