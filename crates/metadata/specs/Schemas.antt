-- CREATE SCHEMA, CREATE VIRTUAL SCHEMA and SET SCHEMA. No option of a schema counts.
use Rattle.std.specs.Prelude.{ℕ, ◌+◌, [], ◌∷◌, ◌++◌, length, Option, None, Result}
use Rattle.std.specs.Option.{is_none, is_some}
use Rattle.vdb_model.specs.declared.reply.DeployFault.{DeployFault}
use Rattle.vdb_model.specs.declared.reply.DeployFault.TheVariants.{Duplicate, Unknown}
use Rattle.vdb_model.specs.NameText.{name_text}
use Rattle.sql_reader.specs.declared.tree.name.Name.{Name}
use Rattle.metadata.specs.declared.so_far.SoFar.{SoFar}
use Rattle.metadata.specs.SoFar.{schema_named, server_named, too_many, bad_name}
use Rattle.metadata.specs.Tests.{Test, fails_if, unless}

-- 33: the server isn't there
abbrev pub unknown_server : SoFar → Name → Test
unknown_server s server = fails_if (is_none (server_named 0 s.catalog.servers server.text)) (Unknown (name_text server.text))

-- 33: the schema isn't there
abbrev pub unknown_schema : SoFar → Name → Test
unknown_schema s name = fails_if (is_none (schema_named s.catalog.schemas name.text)) (Unknown (name_text name.text))

-- 32: a schema has the name
abbrev pub schema_taken : SoFar → Name → Test
schema_taken s name = fails_if (is_some (schema_named s.catalog.schemas name.text)) (Duplicate (name_text name.text))

-- 39: at most 64 schemas
abbrev pub too_many_schemas : SoFar → Name → Test
too_many_schemas s name = too_many 64 (length s.catalog.schemas + 1) (name_text name.text)

abbrev pub with_schema : SoFar → Name → Option ℕ → SoFar
with_schema s name server = record s { catalog = record s.catalog { schemas = s.catalog.schemas ++ record { name = name.text; server = server } ∷ [] } }

abbrev pub create_schema : SoFar → Name → Name → Result SoFar DeployFault
create_schema s name server = unless (
    unknown_server s server  -- 33
    ∷ schema_taken s name  -- 32
    ∷ too_many_schemas s name  -- 39
    ∷ bad_name name.text  -- 39
    ∷ []) (with_schema s name (server_named 0 s.catalog.servers server.text))

-- a virtual schema has no server
abbrev pub create_virtual_schema : SoFar → Name → Result SoFar DeployFault
create_virtual_schema s name = unless (
    schema_taken s name  -- 32
    ∷ too_many_schemas s name  -- 39
    ∷ bad_name name.text  -- 39
    ∷ []) (with_schema s name None)

abbrev pub set_schema : SoFar → Name → Result SoFar DeployFault
set_schema s name = unless (
    unknown_schema s name  -- 33
    ∷ []) (record s { schema = schema_named s.catalog.schemas name.text })
