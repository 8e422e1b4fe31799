-- CREATE FOREIGN TABLE.
use Rattle.std.specs.Prelude.{ℕ, Bool, true, false, ◌&&◌, ◌||◌, ◌==◌, List, [], ◌∷◌, ◌++◌, length, slice_index_or, Result}
use Rattle.std.specs.List.{list_any}
use Rattle.std.specs.Option.{is_none, unwrap_or}
use Rattle.vdb_model.specs.declared.catalog.ServerDef.{ServerDef}
use Rattle.vdb_model.specs.declared.reply.DeployFault.{DeployFault}
use Rattle.vdb_model.specs.declared.reply.DeployFault.TheVariants.{Duplicate, WrongKind}
use Rattle.vdb_model.specs.declared.table.Kind.{Kind}
use Rattle.vdb_model.specs.declared.table.Kind.TheVariants.{Mem, Csv, Sqlite}
use Rattle.vdb_model.specs.declared.table.TableDef.{TableDef}
use Rattle.sql_reader.specs.declared.tree.name.Name.{Name}
use Rattle.vdb_ddl.specs.declared.tree.Setting.{Setting}
use Rattle.vdb_ddl.specs.declared.tree.TablePart.{TablePart}
use Rattle.metadata.specs.Columns.{column_count, unknown_in, fractional_in, option_in, taken_in, badly_named_in, columns_of, key_of, is_one_source}
use Rattle.metadata.specs.declared.options.Owner.TheVariants as owner
use Rattle.metadata.specs.Options.{refused_option, source_of, is_updatable}
use Rattle.metadata.specs.declared.so_far.SoFar.{SoFar}
use Rattle.metadata.specs.SoFar.{schema_set, relation_text, no_schema, is_taken, too_many_relations, bad_column_count, bad_name}
use Rattle.metadata.specs.Tests.{Test, fails_if, unless}

-- where no server has the number
abbrev pub no_server : ServerDef
no_server = record { name = []; kind = Csv; caps = record { equals = false; ordered = false; in_max = 0; is_null = false; like = false; or = false; not = false; joins = false; distinct = false; order = false; limit = false; count_star = false; wide = false; writes = false } }

-- the number of the server of the schema that is set
abbrev pub server_number : SoFar → ℕ
server_number s = unwrap_or (schema_set s).server 0

abbrev pub server_set : SoFar → ServerDef
server_set s = slice_index_or s.catalog.servers (server_number s) no_server

-- 37: a foreign table in a virtual schema
abbrev pub in_virtual : SoFar → Name → Test
in_virtual s name = fails_if (is_none (schema_set s).server) (WrongKind (relation_text s name))

abbrev pub is_named_apart : Kind → Bool
is_named_apart Mem = true
is_named_apart Csv = false
is_named_apart Sqlite = true

-- source names have to differ on a server of kind mem or sqlite, or with `writes`
abbrev pub names_apart : ServerDef → Bool
names_apart server = is_named_apart server.kind || server.caps.writes

-- a table of the server has the folded source name
abbrev pub is_stored : ℕ → List ℕ → TableDef → Bool
is_stored server source table = table.server == server && is_one_source source table.source

abbrev pub has_source : SoFar → List ℕ → Bool
has_source s source = names_apart (server_set s) && list_any (is_stored (server_number s) source) s.catalog.tables

-- 32: the name or the source name of the table is taken
abbrev pub table_taken : SoFar → Name → List Setting → Test
table_taken s name options = fails_if (is_taken s name || has_source s (source_of name.text options)) (Duplicate (relation_text s name))

abbrev pub table_tests : SoFar → Name → List TablePart → List Setting → List Test
table_tests s name parts options =
    no_schema s name  -- 33
    ∷ unknown_in parts parts  -- 33
    ∷ in_virtual s name  -- 37
    ∷ table_taken s name options  -- 32
    ∷ taken_in (names_apart (server_set s)) (relation_text s name) [] false parts  -- 32
    ∷ fractional_in parts  -- 34
    ∷ option_in parts  -- 35
    ∷ refused_option owner.Table options  -- 35
    ∷ too_many_relations s name  -- 39
    ∷ bad_column_count s name (column_count parts)  -- 39
    ∷ bad_name name.text  -- 39
    ∷ badly_named_in parts  -- 39
    ∷ []

-- A table's number is its place. No part is an access pattern yet.
abbrev pub table_of : SoFar → Name → List TablePart → List Setting → TableDef
table_of s name parts options = record {
  number = length s.catalog.tables;
  server = server_number s;
  schema = (schema_set s).name;
  name = name.text;
  source = source_of name.text options;
  columns = columns_of parts parts;
  key = key_of (columns_of parts parts) parts;
  patterns = [];
  updatable = is_updatable options;
}

abbrev pub with_table : SoFar → TableDef → SoFar
with_table s table = record s { catalog = record s.catalog { tables = s.catalog.tables ++ table ∷ [] } }

abbrev pub create_table : SoFar → Name → List TablePart → List Setting → Result SoFar DeployFault
create_table s name parts options = unless (table_tests s name parts options) (with_table s (table_of s name parts options))
