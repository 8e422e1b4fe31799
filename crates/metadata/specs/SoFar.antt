-- What the items so far define, and what their names mean.
use Rattle.std.specs.Prelude.{ℕ, ◌+◌, Bool, false, not, ◌&&◌, ◌||◌, nat_le, nat_lt, if◌then◌else◌, List, [], ◌∷◌, length, Option, Some, None}
use Rattle.std.specs.List.{list_any}
use Rattle.std.specs.Option.{is_none, unwrap_or}
use Rattle.vdb_model.specs.declared.catalog.ProcedureDef.{ProcedureDef}
use Rattle.vdb_model.specs.declared.catalog.SchemaDef.{SchemaDef}
use Rattle.vdb_model.specs.declared.catalog.ServerDef.{ServerDef}
use Rattle.vdb_model.specs.declared.catalog.ViewDef.{ViewDef}
use Rattle.vdb_model.specs.declared.reply.DeployFault.TheVariants.{Duplicate, Unknown, Limit}
use Rattle.vdb_model.specs.declared.table.TableDef.{TableDef}
use Rattle.vdb_model.specs.Defined.{Defined, nothing_defined}
use Rattle.vdb_model.specs.Defs.{same_name}
use Rattle.vdb_model.specs.NameText.{name_text, dotted}
use Rattle.vdb_model.specs.WellFormed.{is_name}
use Rattle.sql_reader.specs.declared.tree.name.Name.{Name}
use Rattle.metadata.specs.declared.so_far.SoFar.{SoFar}
use Rattle.metadata.specs.Tests.{Test, fails_if}

abbrev pub nothing : SoFar
nothing = record { catalog = nothing_defined; chains = []; database = None; schema = None }

-- the schema of the name
abbrev pub schema_named : List SchemaDef → List ℕ → Option SchemaDef
schema_named [] name = None
schema_named (schema ∷ schemas) name = if same_name schema.name name then Some schema else schema_named schemas name

-- the number of the server of the name, counted on from here
abbrev pub server_named : ℕ → List ServerDef → List ℕ → Option ℕ
server_named n [] name = None
server_named n (server ∷ servers) name = if same_name server.name name then Some n else server_named (n + 1) servers name

-- the schema that is set, where one is
abbrev pub no_schema_set : SchemaDef
no_schema_set = record { name = []; server = None }

abbrev pub schema_set : SoFar → SchemaDef
schema_set s = unwrap_or s.schema no_schema_set

-- a relation of the schema that is set, as it is printed
abbrev pub relation_text : SoFar → Name → List ℕ
relation_text s name = dotted (schema_set s).name name.text

-- 33: no schema is set for a relation
abbrev pub no_schema : SoFar → Name → Test
no_schema s name = fails_if (is_none s.schema) (Unknown (name_text name.text))

-- relations and procedures of one schema are one kind

abbrev pub is_table : List ℕ → List ℕ → TableDef → Bool
is_table schema name table = same_name table.schema schema && same_name table.name name

abbrev pub is_view : List ℕ → List ℕ → ViewDef → Bool
is_view schema name view = same_name view.schema schema && same_name view.name name

abbrev pub is_procedure : List ℕ → List ℕ → ProcedureDef → Bool
is_procedure schema name procedure = same_name procedure.schema schema && same_name procedure.name name

abbrev pub has_relation : Defined → List ℕ → List ℕ → Bool
has_relation catalog schema name = list_any (is_table schema name) catalog.tables
    || list_any (is_view schema name) catalog.views
    || list_any (is_procedure schema name) catalog.procedures

abbrev pub is_taken_in : Option SchemaDef → Defined → Name → Bool
is_taken_in None catalog name = false
is_taken_in (Some schema) catalog name = has_relation catalog schema.name name.text

-- the schema that is set has a relation or a procedure of the name
abbrev pub is_taken : SoFar → Name → Bool
is_taken s name = is_taken_in s.schema s.catalog name

-- 32
abbrev pub relation_taken : SoFar → Name → Test
relation_taken s name = fails_if (is_taken s name) (Duplicate (relation_text s name))

-- 39: a count past its limit
abbrev pub too_many : ℕ → ℕ → List ℕ → Test
too_many limit count name = fails_if (nat_lt limit count) (Limit name count)

-- 39: at most 1,024 relations
abbrev pub too_many_relations : SoFar → Name → Test
too_many_relations s name = too_many 1024 (length s.catalog.tables + length s.catalog.views + 1) (relation_text s name)

-- 39: 1 to 256 columns of one relation
abbrev pub bad_column_count : SoFar → Name → ℕ → Test
bad_column_count s name count = fails_if (not (nat_le 1 count && nat_le count 256)) (Limit (relation_text s name) count)

-- 39: a name of no byte, or of more than 64
abbrev pub bad_name : List ℕ → Test
bad_name name = fails_if (not (is_name name)) (Limit (name_text name) (length name))
