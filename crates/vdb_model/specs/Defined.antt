-- What a catalog defines.
use Rattle.std.specs.Prelude.{List, []}
use Rattle.vdb_model.specs.declared.catalog.ServerDef.{ServerDef}
use Rattle.vdb_model.specs.declared.catalog.SchemaDef.{SchemaDef}
use Rattle.vdb_model.specs.declared.catalog.ViewDef.{ViewDef}
use Rattle.vdb_model.specs.declared.catalog.ProcedureDef.{ProcedureDef}
use Rattle.vdb_model.specs.declared.catalog.TriggerDef.{TriggerDef}
use Rattle.vdb_model.specs.declared.table.TableDef.{TableDef}

pub record Defined : Type 0 where
  pub servers : List ServerDef
  pub schemas : List SchemaDef
  pub tables : List TableDef
  pub views : List ViewDef
  pub procedures : List ProcedureDef
  pub triggers : List TriggerDef

abbrev pub nothing_defined : Defined
nothing_defined = record { servers = []; schemas = []; tables = []; views = []; procedures = []; triggers = [] }
