use Rattle.std.proofs.Common.{◌≡◌, ◌+◌, List, None, length, subst}
use Rattle.vdb_model.specs.declared.catalog.ServerDef.{ServerDef}
use Rattle.vdb_model.specs.NameText.{name_text}
use Rattle.metadata.specs.Servers.{too_many_servers}
use Rattle.metadata.proofs.DeployGives.{few}
use Rattle.metadata.proofs.SoundSoFar.{good_name}
use Rattle.metadata.proofs.WellServers.{with_server_well}
use Rattle.metadata.proofs.servers.create_server.Goals as goal

pub add_server-requires : goal.add_server-requires
add_server-requires c =
    let catalog = c.args.s.now.catalog in
    let name = c.args.name.now in
    let many = subst (λ (servers : List ServerDef). too_many_servers servers name ≡ None) c.servers-servers.ensures c.in_ok-few_servers.ensures in
    with_server_well catalog (record { name = name.text; kind = _; caps = _ }) c.requires.well (good_name name.text c.in_ok-good_name.ensures)
    (few 64 (length catalog.servers + 1) (name_text name.text) many)
