-- CREATE SERVER: a server is the connection of its name.
use Rattle.std.specs.Prelude.{ℕ, ◌+◌, Bool, not, if◌then◌else◌, List, [], ◌∷◌, ◌++◌, length, codes, Option, Some, None, Result}
use Rattle.std.specs.List.{list_any}
use Rattle.vdb_model.specs.declared.catalog.ServerDef.{ServerDef}
use Rattle.vdb_model.specs.declared.reply.DeployFault.{DeployFault}
use Rattle.vdb_model.specs.declared.reply.DeployFault.TheVariants.{Duplicate, Unknown, NoConnection, WrongKind}
use Rattle.vdb_model.specs.declared.table.Kind.{Kind}
use Rattle.vdb_model.specs.declared.table.Kind.TheVariants.{Mem, Csv, Sqlite}
use Rattle.vdb_model.specs.Defs.{same_name}
use Rattle.vdb_model.specs.NameText.{name_text}
use Rattle.sql_reader.specs.declared.tree.name.Name.{Name}
use Rattle.vdb_ddl.specs.declared.tree.Setting.{Setting}
use Rattle.metadata.specs.declared.connection.ConnInfo.{ConnInfo}
use Rattle.metadata.specs.declared.options.Owner.TheVariants as owner
use Rattle.metadata.specs.Options.{refused_option, lowered}
use Rattle.metadata.specs.declared.so_far.SoFar.{SoFar}
use Rattle.metadata.specs.SoFar.{too_many, bad_name}
use Rattle.metadata.specs.Tests.{Test, fails_if, unless}

-- a wrapper's name is that of a kind
abbrev pub kind_name : Kind → List ℕ
kind_name Mem = codes "mem"
kind_name Csv = codes "csv"
kind_name Sqlite = codes "sqlite"

abbrev pub is_kind : List ℕ → Kind → Bool
is_kind wrapper kind = same_name wrapper (kind_name kind)

-- 33: no kind has the wrapper's name
abbrev pub unknown_wrapper : Name → Test
unknown_wrapper wrapper = fails_if (not (list_any (is_kind wrapper.text) (Mem ∷ Csv ∷ Sqlite ∷ []))) (Unknown (name_text wrapper.text))

-- the connection of the name
abbrev pub connection_named : List ConnInfo → List ℕ → Option ConnInfo
connection_named [] name = None
connection_named (conn ∷ conns) name = if same_name conn.name name then Some conn else connection_named conns name

-- 37: the server's connection has another kind
abbrev pub wrong_kind : ConnInfo → Name → Name → Test
wrong_kind conn name wrapper = fails_if (not (is_kind wrapper.text conn.kind)) (WrongKind (name_text name.text))

abbrev pub is_server : List ℕ → ServerDef → Bool
is_server name server = same_name server.name name

-- 32: a server has the name
abbrev pub server_taken : List ServerDef → Name → Test
server_taken servers name = fails_if (list_any (is_server name.text) servers) (Duplicate (name_text name.text))

-- 39: at most 64 servers
abbrev pub too_many_servers : List ServerDef → Name → Test
too_many_servers servers name = too_many 64 (length servers + 1) (name_text name.text)

-- its kind and its capabilities are its connection's, the capabilities lowered by its options
abbrev pub server_of : Name → List Setting → ConnInfo → ServerDef
server_of name options conn = record { name = name.text; kind = conn.kind; caps = lowered options conn.caps }

abbrev pub with_server : SoFar → ServerDef → SoFar
with_server s server = record s { catalog = record s.catalog { servers = s.catalog.servers ++ server ∷ [] } }

abbrev pub server_over : Option ConnInfo → SoFar → Name → Name → List Setting → Result SoFar DeployFault
server_over None s name wrapper options = unless (
    unknown_wrapper wrapper  -- 33
    ∷ Some (NoConnection (name_text name.text))  -- 36
    ∷ []) s
server_over (Some conn) s name wrapper options = unless (
    unknown_wrapper wrapper  -- 33
    ∷ wrong_kind conn name wrapper  -- 37
    ∷ server_taken s.catalog.servers name  -- 32
    ∷ refused_option owner.Server options  -- 35
    ∷ too_many_servers s.catalog.servers name  -- 39
    ∷ bad_name name.text  -- 39
    ∷ []) (with_server s (server_of name options conn))

abbrev pub create_server : List ConnInfo → SoFar → Name → Name → List Setting → Result SoFar DeployFault
create_server conns s name wrapper options = server_over (connection_named conns name.text) s name wrapper options
