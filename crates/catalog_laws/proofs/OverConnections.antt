-- What is deployed is over its connections.
use Rattle.std.proofs.Common.{◌≡◌, List, [], ◌∷◌, Option, Some, None, refl}
use Rattle.std.proofs.lemmas.List.Elements.{All-nil, All-push}
use Rattle.vdb_model.specs.declared.reply.DeployFault.TheVariants.{NoConnection}
use Rattle.vdb_model.specs.NameText.{name_text}
use Rattle.sql_reader.specs.declared.tree.name.Name.{Name}
use Rattle.sql_reader.specs.declared.tree.query.Query.{Query}
use Rattle.vdb_ddl.specs.declared.tree.Item.{Item}
use Rattle.vdb_ddl.specs.declared.tree.Item.TheVariants.{CreateDatabase, UseDatabase, CreateServer, CreateSchema, CreateVirtualSchema, SetSchema, CreateTable, CreateView}
use Rattle.vdb_ddl.specs.declared.tree.Setting.{Setting}
use Rattle.vdb_ddl.specs.declared.tree.TablePart.{TablePart}
use Rattle.vdb_ddl.specs.declared.tree.ViewColumn.{ViewColumn}
use Rattle.metadata.specs.declared.connection.ConnInfo.{ConnInfo}
use Rattle.metadata.specs.declared.options.Owner.TheVariants as owner
use Rattle.metadata.specs.declared.so_far.SoFar.{SoFar}
use Rattle.metadata.specs.Databases.{second_database, unknown_database}
use Rattle.metadata.specs.Deployed.{item, items, unserved, deployed}
use Rattle.metadata.specs.Options.{refused_option}
use Rattle.metadata.specs.Schemas.{unknown_server, unknown_schema, schema_taken, too_many_schemas, with_schema}
use Rattle.metadata.specs.Servers.{connection_named, unknown_wrapper, wrong_kind, server_taken, too_many_servers, server_of, with_server, server_over}
use Rattle.metadata.specs.SoFar.{nothing, schema_named, server_named, bad_name}
use Rattle.metadata.specs.Tables.{table_tests, table_of, with_table}
use Rattle.metadata.specs.Tests.{unless}
use Rattle.metadata.specs.Views.{Walk, walked, view_tests, query_tests, view_of, with_view, chain_of, create_view}
use Rattle.metadata.proofs.DeployGives.{Gives, gives, gives_any, gives_next, gives_unless}
use Rattle.catalog_laws.specs.Over.{IsConnected, HasNoPattern, IsOver, DeployedIsOver}

module _ (walk : Walk) (conns : List ConnInfo) where
  abbrev Over : SoFar → Type 0
  Over s = IsOver conns s.catalog

  with_server_over : (s : SoFar) (name : Name) (options : List Setting) (conn : ConnInfo) → connection_named conns name.text ≡ Some conn → Over s → Over (with_server s (server_of name options conn))
  with_server_over s name options conn is h = record {
    servers = All-push (IsConnected conns) s.catalog.servers (server_of name options conn) h.servers (record { conn = conn; named = is; kind = refl; options = options; caps = refl });
    patterns = h.patterns;
  }

  server_over_over : (found : Option ConnInfo) (s : SoFar) (name wrapper : Name) (options : List Setting) → connection_named conns name.text ≡ found → Over s → Gives (server_over found s name wrapper options) Over
  server_over_over None s name wrapper options is h = gives_unless Over (unknown_wrapper wrapper ∷ Some (NoConnection (name_text name.text)) ∷ []) s (λ pass. h)
  server_over_over (Some conn) s name wrapper options is h =
      gives_unless Over (unknown_wrapper wrapper ∷ wrong_kind conn name wrapper ∷ server_taken s.catalog.servers name ∷ refused_option owner.Server options ∷ too_many_servers s.catalog.servers name ∷ bad_name name.text ∷ [])
      (with_server s (server_of name options conn)) (λ pass. with_server_over s name options conn is h)

  with_table_over : (s : SoFar) (name : Name) (parts : List TablePart) (options : List Setting) → Over s → Over (with_table s (table_of s name parts options))
  with_table_over s name parts options h = record { servers = h.servers; patterns = All-push HasNoPattern s.catalog.tables (table_of s name parts options) h.patterns refl }

  create_view_over : (s : SoFar) (name : Name) (columns : Option (List ViewColumn)) (options : List Setting) (query : Query) → Over s → Gives (create_view walk s name columns options query) Over
  create_view_over s name columns options query h =
      gives_next (gives_any (unless (view_tests s name columns options) query)) (λ q any.
      gives_next (gives_any (walked s name (walk s.catalog q))) (λ ranked any.
      gives_next (gives_any (unless (query_tests s name columns ranked) (view_of s name columns options ranked))) (λ view any.
      gives Over (with_view s view (chain_of s ranked)) (record { servers = h.servers; patterns = h.patterns }))))

  item_over : (s : SoFar) (i : Item) → Over s → Gives (item walk conns s i) Over
  item_over s (CreateDatabase name options) h = gives_unless Over (second_database s name ∷ []) (record s { database = Some name.text }) (λ pass. h)
  item_over s (UseDatabase name) h = gives_unless Over (unknown_database s name ∷ []) s (λ pass. h)
  item_over s (CreateServer name wrapper options) h = server_over_over (connection_named conns name.text) s name wrapper options refl h
  item_over s (CreateSchema name server options) h =
      gives_unless Over (unknown_server s server ∷ schema_taken s name ∷ too_many_schemas s name ∷ bad_name name.text ∷ []) (with_schema s name (server_named 0 s.catalog.servers server.text))
      (λ pass. record { servers = h.servers; patterns = h.patterns })
  item_over s (CreateVirtualSchema name options) h =
      gives_unless Over (schema_taken s name ∷ too_many_schemas s name ∷ bad_name name.text ∷ []) (with_schema s name None) (λ pass. record { servers = h.servers; patterns = h.patterns })
  item_over s (SetSchema name) h = gives_unless Over (unknown_schema s name ∷ []) (record s { schema = schema_named s.catalog.schemas name.text }) (λ pass. h)
  item_over s (CreateTable name parts options) h = gives_unless Over (table_tests s name parts options) (with_table s (table_of s name parts options)) (λ pass. with_table_over s name parts options h)
  item_over s (CreateView name columns options query) h = create_view_over s name columns options query h

  items_over : (s : SoFar) (is : List Item) → Over s → Gives (items walk conns s is) Over
  items_over s [] h = gives Over s h
  items_over s (i ∷ is) h = gives_next (item_over s i h) (λ more over. items_over more is over)

  nothing_over : Over nothing
  nothing_over = record { servers = All-nil (IsConnected conns); patterns = All-nil HasNoPattern }

  deployed_over : (is : List Item) → Gives (deployed walk conns is) (IsOver conns)
  deployed_over is = gives_next (items_over nothing is nothing_over) (λ s h. gives_unless (IsOver conns) (unserved s.catalog.servers conns ∷ []) s.catalog (λ pass. h))

pub deployed_is_over : DeployedIsOver
deployed_is_over walk conns is cat e = (deployed_over walk conns is).each cat e
