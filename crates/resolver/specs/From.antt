-- What FROM gives: relations in text order, each ON after its right side.
use Rattle.std.specs.Prelude.{ℕ, Bool, true, false, ◌||◌, if◌then◌else◌, List, [], ◌∷◌, ◌++◌, Option, Some, None, Result, Ok, Err}
use Rattle.vdb_base.specs.declared.value.Value.TheVariants as value
use Rattle.vdb_model.specs.declared.expr.Expr as model
use Rattle.vdb_model.specs.declared.expr.Expr.TheVariants.{Const}
use Rattle.vdb_model.specs.declared.rel.JoinKind.{JoinKind}
use Rattle.vdb_model.specs.declared.rel.JoinKind.TheVariants.{Inner, Left}
use Rattle.vdb_model.specs.declared.rel.Agg.{Agg}
use Rattle.vdb_model.specs.declared.rel.Rel.{Rel}
use Rattle.vdb_model.specs.declared.rel.Rel.TheVariants.{One, Join}
use Rattle.vdb_model.specs.declared.reply.Refusal.{Refusal}
use Rattle.vdb_model.specs.declared.reply.Refusal.TheVariants.{Ambiguous}
use Rattle.vdb_model.specs.declared.typed.VarDef.{VarDef}
use Rattle.vdb_model.specs.Defined.{Defined}
use Rattle.vdb_model.specs.Defs.{same_name}
use Rattle.vdb_model.specs.NameText.{name_text}
use Rattle.sql_reader.specs.declared.tree.expr.Expr.{Expr}
use Rattle.sql_reader.specs.declared.tree.name.Name.{Name}
use Rattle.sql_reader.specs.declared.tree.name.RelationName.{RelationName}
use Rattle.sql_reader.specs.declared.tree.query.JoinKind as tree
use Rattle.sql_reader.specs.declared.tree.query.JoinKind.TheVariants as kind
use Rattle.expr_resolver.specs.declared.known.Known.{Known}
use Rattle.resolver.specs.declared.relation.Relation.{Relation}
use Rattle.expr_resolver.specs.declared.scope.Entry.{Entry}
use Rattle.expr_resolver.specs.declared.scope.Names.{Names}
use Rattle.expr_resolver.specs.declared.scope.Over.TheVariants.{Rows}
use Rattle.resolver.specs.declared.selected.Column.{Column}
use Rattle.resolver.specs.declared.selected.Source.{Source}
use Rattle.expr_resolver.specs.Exprs.{walk}
use Rattle.expr_resolver.specs.Operators.{condition}
use Rattle.resolver.specs.Relations.{relation_of, rel_of, written_relation}
use Rattle.expr_resolver.specs.Types.{settled}
use Rattle.expr_resolver.specs.Walking.{next, Walk, one}

-- what stands outside of items and HAVING meets no aggregate
abbrev pub alone : {A : Type 0} → Walk A → Result A Refusal
alone part = next (part []) (λ met. Ok met.0)

-- a condition over the rows of these entries
abbrev pub condition_over : List Entry → Expr → Result Known Refusal
condition_over entries e = alone (one (walk (record { entries = entries; keys = [] }) e Rows) condition)

abbrev pub visible : List Entry → List (List ℕ)
visible [] = []
visible (entry ∷ entries) = entry.name ∷ visible entries

abbrev pub is_seen : List ℕ → List (List ℕ) → Bool
is_seen name [] = false
is_seen name (other ∷ others) = same_name other name || is_seen name others

-- an entry whose visible name stands in this FROM already is ambiguous, by its name as it is written
abbrev pub enter : List (List ℕ) → List ℕ → Entry → Rel → Result Source Refusal
enter seen name entry rel = if is_seen entry.name seen then Err (Ambiguous name) else Ok (record { rel = rel; entries = entry ∷ [] })

-- without an alias it is visible by the relation's name, and by the schema's too
abbrev pub table_entry : Option Name → Relation → Entry
table_entry None r = record { name = r.name; schema = Some r.schema; columns = r.columns }
table_entry (Some alias) r = record { name = alias.text; schema = None; columns = r.columns }

abbrev pub entry_text : Option Name → RelationName → List ℕ
entry_text None r = written_relation r
entry_text (Some alias) r = name_text alias.text

abbrev pub table_source : Defined → RelationName → Option Name → List (List ℕ) → Result Source Refusal
table_source defined r alias seen = next (relation_of defined r) (λ relation. enter seen (entry_text alias r) (table_entry alias relation) (rel_of relation.target))

-- in FROM a column of NULL alone is a string
abbrev pub settled_columns : List Column → List VarDef
settled_columns [] = []
settled_columns (c ∷ cs) = record { name = c.name; ty = settled c.ty } ∷ settled_columns cs

abbrev pub derived_source : Rel → List Column → Name → List (List ℕ) → Result Source Refusal
derived_source rel columns alias seen = enter seen (name_text alias.text) (record { name = alias.text; schema = None; columns = settled_columns columns }) rel

abbrev pub joined : JoinKind → Source → Source → model.Expr → Source
joined kind left right on = record { rel = Join kind left.rel right.rel on; entries = left.entries ++ right.entries }

-- the comma and CROSS JOIN are an inner join on TRUE
abbrev pub crossed : Source → Source → Source
crossed left right = joined Inner left right (Const (value.Bool true))

-- ON sees the entries of its own two sides
abbrev pub joined_on : JoinKind → Source → Source → Expr → Result Source Refusal
joined_on kind left right on = next (condition_over (left.entries ++ right.entries) on) (λ k. Ok (joined kind left right k.expr))

abbrev pub joined_by : tree.JoinKind → Source → Source → Result Source Refusal
joined_by (kind.Inner on) left right = joined_on Inner left right on
joined_by (kind.Left on) left right = joined_on Left left right on
joined_by kind.Cross left right = Ok (crossed left right)

-- what a part of FROM gives, by the names that are visible before it
abbrev pub TablePart : Type 0
TablePart = List (List ℕ) → Result Source Refusal

abbrev pub joined_source : TablePart → TablePart → tree.JoinKind → TablePart
joined_source left right kind seen = next (left seen) (λ l. next (right (seen ++ visible l.entries)) (joined_by kind l))

-- without a FROM there is one row without columns
abbrev pub source_or_one : Option Source → Source
source_or_one None = record { rel = One; entries = [] }
source_or_one (Some source) = source

-- a table alone, or beside those before it
abbrev pub beside : Option Source → TablePart → Result Source Refusal
beside None table = table []
beside (Some source) table = next (table (visible source.entries)) (λ right. Ok (crossed source right))

abbrev pub tables_from : Option Source → List TablePart → Result Source Refusal
tables_from before [] = Ok (source_or_one before)
tables_from before (table ∷ tables) = next (beside before table) (λ source. tables_from (Some source) tables)

abbrev pub from : List TablePart → Result Source Refusal
from = tables_from None
