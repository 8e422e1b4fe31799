-- Which relation or procedure of the catalog a name means.
use Rattle.std.specs.Prelude.{ℕ, ◌+◌, Bool, true, false, ◌&&◌, if◌then◌else◌, List, [], ◌∷◌, ◌++◌, Option, Some, None, Result, Ok, Err}
use Rattle.vdb_base.specs.declared.value.Ty.{Ty}
use Rattle.vdb_model.specs.declared.catalog.ViewDef.{ViewDef}
use Rattle.vdb_model.specs.declared.catalog.ProcedureDef.{ProcedureDef}
use Rattle.vdb_model.specs.declared.rel.Rel.{Rel}
use Rattle.vdb_model.specs.declared.rel.Rel.TheVariants as rel
use Rattle.vdb_model.specs.declared.reply.Refusal.{Refusal}
use Rattle.vdb_model.specs.declared.table.ColumnDef.{ColumnDef}
use Rattle.vdb_model.specs.declared.table.TableDef.{TableDef}
use Rattle.vdb_model.specs.declared.typed.Target.{Target}
use Rattle.vdb_model.specs.declared.typed.Target.TheVariants.{Table, View}
use Rattle.vdb_model.specs.declared.typed.VarDef.{VarDef}
use Rattle.vdb_model.specs.Defined.{Defined}
use Rattle.vdb_model.specs.Defs.{same_name}
use Rattle.vdb_model.specs.NameText.{name_text, dotted}
use Rattle.sql_reader.specs.declared.tree.name.Name.{Name}
use Rattle.sql_reader.specs.declared.tree.name.RelationName.{RelationName}
use Rattle.resolver.specs.declared.relation.Relation.{Relation}
use Rattle.expr_resolver.specs.Scope.{only}

abbrev pub is_of_schema : Option Name → List ℕ → Bool
is_of_schema None schema = true
is_of_schema (Some name) schema = same_name schema name.text

-- `s.t` is of the schema s alone, and `t` of any
abbrev pub is_meant : RelationName → List ℕ → List ℕ → Bool
is_meant r schema name = same_name name r.name.text && is_of_schema r.schema schema

abbrev pub written_in : Option Name → List ℕ → List ℕ
written_in None name = name_text name
written_in (Some schema) name = dotted schema.text name

-- the name as it is written, with its dot
abbrev pub written_relation : RelationName → List ℕ
written_relation r = written_in r.schema r.name.text

abbrev pub table_columns : List ColumnDef → List VarDef
table_columns [] = []
table_columns (c ∷ cs) = record { name = c.name; ty = c.ty } ∷ table_columns cs

abbrev pub of_table : TableDef → Relation
of_table d = record { target = Table d.number; schema = d.schema; name = d.name; columns = table_columns d.columns }

abbrev pub of_view : ℕ → ViewDef → Relation
of_view n d = record { target = View n; schema = d.schema; name = d.name; columns = d.columns }

abbrev pub tables_named : RelationName → List TableDef → List Relation
tables_named r [] = []
tables_named r (d ∷ ds) = if is_meant r d.schema d.name then of_table d ∷ tables_named r ds else tables_named r ds

-- a view's number is its place, counted on from here
abbrev pub views_named : ℕ → RelationName → List ViewDef → List Relation
views_named n r [] = []
views_named n r (d ∷ ds) = if is_meant r d.schema d.name then of_view n d ∷ views_named (n + 1) r ds else views_named (n + 1) r ds

-- the only relation of the name; tables and views are named alike
abbrev pub relation_of : Defined → RelationName → Result Relation Refusal
relation_of defined r = only (written_relation r) (tables_named r defined.tables ++ views_named 0 r defined.views)

abbrev pub rel_of : Target → Rel
rel_of (Table n) = rel.Table n
rel_of (View n) = rel.View n

abbrev pub types_of : List VarDef → List Ty
types_of [] = []
types_of (p ∷ ps) = p.ty ∷ types_of ps

-- a procedure's number, counted on from here, and the types of its parameters
abbrev pub procedures_named : ℕ → RelationName → List ProcedureDef → List (ℕ × List Ty)
procedures_named n r [] = []
procedures_named n r (d ∷ ds) = if is_meant r d.schema d.name then (n, types_of d.parameters) ∷ procedures_named (n + 1) r ds else procedures_named (n + 1) r ds

abbrev pub procedure_of : Defined → RelationName → Result (ℕ × List Ty) Refusal
procedure_of defined r = only (written_relation r) (procedures_named 0 r defined.procedures)
