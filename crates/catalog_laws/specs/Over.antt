-- What is deployed over connections, besides that it is well formed, which is part of its type.
use Rattle.std.specs.Prelude.{◌≡◌, List, [], Some, Ok, All}
use Rattle.vdb_model.specs.declared.catalog.ServerDef.{ServerDef}
use Rattle.vdb_model.specs.declared.table.TableDef.{TableDef}
use Rattle.vdb_model.specs.Defined.{Defined}
use Rattle.vdb_ddl.specs.declared.tree.Item.{Item}
use Rattle.vdb_ddl.specs.declared.tree.Setting.{Setting}
use Rattle.metadata.specs.declared.connection.ConnInfo.{ConnInfo}
use Rattle.metadata.specs.Deployed.{deployed}
use Rattle.metadata.specs.Options.{lowered}
use Rattle.metadata.specs.Servers.{connection_named}
use Rattle.metadata.specs.Views.{Walk}

-- the server is the connection of its name: of its kind, and with its capabilities lowered by options
pub record IsConnected (conns : List ConnInfo) (server : ServerDef) : Type 0 where
  pub conn : ConnInfo
  pub named : connection_named conns server.name ≡ Some conn
  pub kind : server.kind ≡ conn.kind
  pub options : List Setting
  pub caps : server.caps ≡ lowered options conn.caps

abbrev pub HasNoPattern : TableDef → Type 0
HasNoPattern table = table.patterns ≡ []

-- no table has an access pattern
abbrev pub HasNoPatterns : Defined → Type 0
HasNoPatterns cat = All HasNoPattern cat.tables

-- each server is the connection of its name, and no table has an access pattern
pub record IsOver (conns : List ConnInfo) (cat : Defined) : Type 0 where
  pub servers : All (IsConnected conns) cat.servers
  pub patterns : HasNoPatterns cat

-- what is deployed is so, whatever types the queries of its views
abbrev pub DeployedIsOver : Type 0
DeployedIsOver = (walk : Walk) (conns : List ConnInfo) (items : List Item) (cat : Defined) → deployed walk conns items ≡ Ok cat → IsOver conns cat
