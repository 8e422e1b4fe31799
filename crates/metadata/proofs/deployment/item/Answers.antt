use Rattle.std.proofs.Common.{sym, subst}
use Rattle.vdb_ddl.specs.declared.tree.Item.{Item}
use Rattle.metadata.specs.Answers.{Becomes}
use Rattle.metadata.specs.Deployed.{item}
use Rattle.metadata.proofs.DeployGives.{becomes_holds}
use Rattle.metadata.proofs.SoundSoFar.{create_database_sound, use_database_sound, create_server_sound, create_schema_sound, create_virtual_schema_sound, set_schema_sound}
use Rattle.metadata.proofs.SoundTables.{create_table_sound}
use Rattle.metadata.proofs.deployment.item.Goals as goal

pub returns-in-CreateDatabase-clause-sound : goal.returns-in-CreateDatabase-clause-sound
returns-in-CreateDatabase-clause-sound g c =
    becomes_holds (create_database_sound c.args.s.now c.in-CreateDatabase.name c.requires) c.create_database.result c.create_database.new.s c.create_database.ensures

pub returns-in-UseDatabase-clause-sound : goal.returns-in-UseDatabase-clause-sound
returns-in-UseDatabase-clause-sound g c = becomes_holds (use_database_sound c.args.s.now c.in-UseDatabase.name c.requires) c.use_database.result c.args.s.now c.use_database.ensures

pub returns-in-CreateServer-clause-sound : goal.returns-in-CreateServer-clause-sound
returns-in-CreateServer-clause-sound g c =
    becomes_holds (create_server_sound c.args.conns.now c.args.s.now c.in-CreateServer.name c.in-CreateServer.wrapper c.in-CreateServer.options c.requires)
    c.create_server.result c.create_server.new.s c.create_server.ensures

pub returns-in-CreateSchema-clause-sound : goal.returns-in-CreateSchema-clause-sound
returns-in-CreateSchema-clause-sound g c =
    becomes_holds (create_schema_sound c.args.s.now c.in-CreateSchema.name c.in-CreateSchema.server c.requires) c.create_schema.result c.create_schema.new.s c.create_schema.ensures

pub returns-in-CreateVirtualSchema-clause-sound : goal.returns-in-CreateVirtualSchema-clause-sound
returns-in-CreateVirtualSchema-clause-sound g c =
    becomes_holds (create_virtual_schema_sound c.args.s.now c.in-CreateVirtualSchema.name c.requires) c.create_virtual_schema.result c.create_virtual_schema.new.s c.create_virtual_schema.ensures

pub returns-in-SetSchema-clause-sound : goal.returns-in-SetSchema-clause-sound
returns-in-SetSchema-clause-sound g c = becomes_holds (set_schema_sound c.args.s.now c.in-SetSchema.name c.requires) c.set_schema.result c.set_schema.new.s c.set_schema.ensures

pub returns-in-CreateTable-clause-becomes : goal.returns-in-CreateTable-clause-becomes
returns-in-CreateTable-clause-becomes g c =
    subst (λ (i : Item). Becomes (item (g.W.ViewWalk.walk c.args.walk.now) c.args.conns.now c.args.s.now i) c.create_table.result c.create_table.new.s) (sym c.in-CreateTable.is) c.create_table.ensures

pub returns-in-CreateTable-clause-sound : goal.returns-in-CreateTable-clause-sound
returns-in-CreateTable-clause-sound g c =
    becomes_holds (create_table_sound c.args.s.now c.in-CreateTable.name c.in-CreateTable.parts c.in-CreateTable.options c.requires) c.create_table.result c.create_table.new.s c.create_table.ensures
