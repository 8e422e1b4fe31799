-- What the items of a DDL define over connections, or their first fault.
use Rattle.std.specs.Prelude.{Bool, if◌then◌else◌, List, [], ◌∷◌, Some, None, Result, Ok}
use Rattle.std.specs.List.{list_any}
use Rattle.vdb_model.specs.declared.catalog.ServerDef.{ServerDef}
use Rattle.vdb_model.specs.declared.reply.DeployFault.{DeployFault}
use Rattle.vdb_model.specs.declared.reply.DeployFault.TheVariants.{Unknown}
use Rattle.vdb_model.specs.Defined.{Defined}
use Rattle.vdb_model.specs.Defs.{same_name}
use Rattle.vdb_model.specs.NameText.{name_text}
use Rattle.vdb_ddl.specs.declared.tree.Item.{Item}
use Rattle.vdb_ddl.specs.declared.tree.Item.TheVariants.{CreateDatabase, UseDatabase, CreateServer, CreateSchema, CreateVirtualSchema, SetSchema, CreateTable, CreateView}
use Rattle.metadata.specs.declared.connection.ConnInfo.{ConnInfo}
use Rattle.metadata.specs.declared.fault.DeployRefusal.{DeployRefusal}
use Rattle.metadata.specs.Answers.{Makes}
use Rattle.metadata.specs.Databases.{create_database, use_database}
use Rattle.metadata.specs.Schemas.{create_schema, create_virtual_schema, set_schema}
use Rattle.metadata.specs.Servers.{create_server}
use Rattle.metadata.specs.declared.so_far.SoFar.{SoFar}
use Rattle.metadata.specs.SoFar.{nothing}
use Rattle.metadata.specs.Tables.{create_table}
use Rattle.metadata.specs.Tests.{Test, next, unless}
use Rattle.metadata.specs.Views.{Walk, create_view}

-- an item over what is defined so far: its first fault, or what is defined with it
abbrev pub item : Walk → List ConnInfo → SoFar → Item → Result SoFar DeployFault
item walk conns s (CreateDatabase name options) = create_database s name
item walk conns s (UseDatabase name) = use_database s name
item walk conns s (CreateServer name wrapper options) = create_server conns s name wrapper options
item walk conns s (CreateSchema name server options) = create_schema s name server
item walk conns s (CreateVirtualSchema name options) = create_virtual_schema s name
item walk conns s (SetSchema name) = set_schema s name
item walk conns s (CreateTable name parts options) = create_table s name parts options
item walk conns s (CreateView name columns options query) = create_view walk s name columns options query

-- items in turn
abbrev pub items : Walk → List ConnInfo → SoFar → List Item → Result SoFar DeployFault
items walk conns s [] = Ok s
items walk conns s (i ∷ is) = next (item walk conns s i) (λ more. items walk conns more is)

abbrev pub is_served : ConnInfo → ServerDef → Bool
is_served conn server = same_name server.name conn.name

-- 33: a connection that names no server
abbrev pub unserved : List ServerDef → List ConnInfo → Test
unserved servers [] = None
unserved servers (conn ∷ conns) = if list_any (is_served conn) servers then unserved servers conns else Some (Unknown (name_text conn.name))

-- after the last item, each connection has its server
abbrev pub whole : List ConnInfo → SoFar → Result Defined DeployFault
whole conns s = unless (unserved s.catalog.servers conns ∷ []) s.catalog

abbrev pub deployed : Walk → List ConnInfo → List Item → Result Defined DeployFault
deployed walk conns is = next (items walk conns nothing is) (whole conns)

-- what a deployment answers; memory may be wanting
abbrev pub IsDeployed : Walk → List ConnInfo → List Item → Result Defined DeployRefusal → Type 0
IsDeployed walk conns is result = Makes (deployed walk conns is) result
