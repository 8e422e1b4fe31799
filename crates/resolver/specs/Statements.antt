-- What statements give.
use Rattle.std.specs.Prelude.{ℕ, if◌then◌else◌, List, [], ◌∷◌, ◌++◌, Option, Some, None, Result, Ok, Err}
use Rattle.vdb_base.specs.declared.value.Ty.{Ty}
use Rattle.vdb_model.specs.declared.catalog.ViewDef.{ViewDef}
use Rattle.vdb_model.specs.declared.expr.Expr as model
use Rattle.vdb_model.specs.declared.rel.Rel.{Rel}
use Rattle.vdb_model.specs.declared.rel.Rel.TheVariants as rel
use Rattle.vdb_model.specs.declared.reply.Refusal.{Refusal}
use Rattle.vdb_model.specs.declared.reply.Refusal.TheVariants.{TooLarge}
use Rattle.vdb_model.specs.declared.typed.Typed.{Typed}
use Rattle.vdb_model.specs.declared.typed.Typed.TheVariants as typed
use Rattle.vdb_model.specs.declared.typed.VarDef.{VarDef}
use Rattle.vdb_model.specs.Defined.{Defined}
use Rattle.vdb_model.specs.Sizes.{nodes_of, depth_of, is_within_size}
use Rattle.sql_reader.specs.declared.tree.expr.Expr.{Expr}
use Rattle.sql_reader.specs.declared.tree.query.SetQuery.{SetQuery}
use Rattle.sql_reader.specs.declared.tree.statement.Assignment.{Assignment}
use Rattle.sql_reader.specs.declared.tree.statement.Delete.{Delete}
use Rattle.sql_reader.specs.declared.tree.statement.Exec.{Exec}
use Rattle.sql_reader.specs.declared.tree.statement.Insert.{Insert}
use Rattle.sql_reader.specs.declared.tree.statement.InsertSource.{InsertSource}
use Rattle.sql_reader.specs.declared.tree.statement.InsertSource.TheVariants as source
use Rattle.sql_reader.specs.declared.tree.statement.Statement.{Statement}
use Rattle.sql_reader.specs.declared.tree.statement.Statement.TheVariants as statement
use Rattle.sql_reader.specs.declared.tree.statement.Update.{Update}
use Rattle.expr_resolver.specs.declared.known.Known.{Known}
use Rattle.resolver.specs.declared.relation.Relation.{Relation}
use Rattle.expr_resolver.specs.declared.scope.Entry.{Entry}
use Rattle.expr_resolver.specs.declared.scope.Names.{Names}
use Rattle.expr_resolver.specs.declared.scope.Over.TheVariants.{Rows}
use Rattle.resolver.specs.declared.selected.Selected.{Selected}
use Rattle.resolver.specs.declared.selected.Source.{Source}
use Rattle.resolver.specs.declared.targets.Sets.{Sets}
use Rattle.resolver.specs.Assigning.{target_column, listed_columns, of_known, of_columns, assigned, assigned_value}
use Rattle.expr_resolver.specs.Exprs.{walk}
use Rattle.resolver.specs.From.{alone, table_entry}
use Rattle.expr_resolver.specs.Operators.{exprs_of}
use Rattle.resolver.specs.Queries.{query_walk}
use Rattle.resolver.specs.Relations.{relation_of, rel_of, procedure_of}
use Rattle.resolver.specs.Selects.{set_walk, filtered, union_of}
use Rattle.expr_resolver.specs.Walking.{next}

-- no aggregate may stand in it
abbrev pub walk_alone : Names → Expr → Result Known Refusal
walk_alone names e = alone (walk names e Rows)

abbrev pub over_rows : List Entry → Names
over_rows entries = record { entries = entries; keys = [] }

-- expressions in turn that see no column
abbrev pub walks_alone : List Expr → List Known → Result (List Known) Refusal
walks_alone [] made = Ok made
walks_alone (e ∷ es) made = next (walk_alone (over_rows []) e) (λ k. walks_alone es (made ++ k ∷ []))

abbrev pub first_or : ℕ → List Known → ℕ
first_or at [] = at
first_or at (k ∷ ks) = k.first

-- the rows of a list of values are one Select over One
abbrev pub values_rows : List Ty → List Known → Result Rel Refusal
values_rows ts ks = assigned (first_or 0 ks) ts (of_known ks) (rel.Select rel.One (exprs_of ks))

abbrev pub query_rows : List Ty → Selected → Result Rel Refusal
query_rows ts s = assigned s.first ts (of_columns s.columns) (union_of s.parts)

abbrev pub insert_rows : Defined → List Ty → InsertSource → Result Rel Refusal
insert_rows defined ts (source.Values es) = next (walks_alone es []) (values_rows ts)
insert_rows defined ts (source.Query q) = next (set_walk defined q) (query_rows ts)

-- INSERT: the target, the column list, and then the values or the query
abbrev pub insert_walk : Defined → Insert → Result Typed Refusal
insert_walk defined i =
    next (relation_of defined i.target) (λ r.
    next (listed_columns r.columns i.columns) (λ columns.
    next (insert_rows defined columns.tys i.source) (λ rows.
    Ok (typed.Insert r.target columns.columns rows))))

abbrev pub target_source : Relation → Source
target_source r = record { rel = rel_of r.target; entries = table_entry None r ∷ [] }

-- UPDATE: each name and its expression in turn
abbrev pub assignment : List VarDef → Names → List ℕ → Assignment → Result (ℕ × model.Expr) Refusal
assignment columns names seen a =
    next (target_column columns seen a.column) (λ column.
    next (next (walk_alone names a.value) (assigned_value column.1)) (λ k. Ok (column.0, k.expr)))

abbrev pub with_set : Sets → ℕ × model.Expr → Sets
with_set made s = record { columns = made.columns ++ s.0 ∷ []; values = made.values ++ s.1 ∷ [] }

abbrev pub assignments : List VarDef → Names → List Assignment → Sets → Result Sets Refusal
assignments columns names [] made = Ok made
assignments columns names (a ∷ more) made = next (assignment columns names made.columns a) (λ s. assignments columns names more (with_set made s))

abbrev pub no_sets : Sets
no_sets = record { columns = []; values = [] }

-- the rows of UPDATE and DELETE are the target, under one Where where there is a WHERE
abbrev pub update_walk : Defined → Update → Result Typed Refusal
update_walk defined u =
    next (relation_of defined u.target) (λ r.
    next (assignments r.columns (over_rows (target_source r).entries) u.assignments no_sets) (λ sets.
    next (filtered u.condition (target_source r)) (λ rows.
    Ok (typed.Update r.target sets.columns sets.values rows.rel))))

abbrev pub delete_walk : Defined → Delete → Result Typed Refusal
delete_walk defined d =
    next (relation_of defined d.target) (λ r.
    next (filtered d.condition (target_source r)) (λ rows.
    Ok (typed.Delete r.target rows.rel)))

abbrev pub exec_of : ℕ → ℕ × List Ty → List Known → Result Typed Refusal
exec_of close p ks = assigned (first_or close ks) p.1 (of_known ks) (typed.Exec p.0 (exprs_of ks))

-- EXEC: the procedure, and then the arguments; too few without any are refused at the `)`
abbrev pub exec_walk : Defined → Exec → Result Typed Refusal
exec_walk defined e = next (procedure_of defined e.procedure) (λ p. next (walks_alone e.arguments []) (exec_of e.close p))

abbrev pub statement_walk : Defined → Statement → Result Typed Refusal
statement_walk defined (statement.Query q) = next (query_walk defined q) (λ r. Ok (typed.Query r))
statement_walk defined (statement.Explain q) = next (query_walk defined q) (λ r. Ok (typed.Explain r))
statement_walk defined (statement.Insert i) = insert_walk defined i
statement_walk defined (statement.Update u) = update_walk defined u
statement_walk defined (statement.Delete d) = delete_walk defined d
statement_walk defined (statement.Exec e) = exec_walk defined e
statement_walk defined statement.Start = Ok typed.Start
statement_walk defined statement.Commit = Ok typed.Commit
statement_walk defined statement.Rollback = Ok typed.Rollback

-- the relation whose size counts: a query's, or that of an update's rows
abbrev pub sized_rel : Typed → Option Rel
sized_rel (typed.Query r) = Some r.rel
sized_rel (typed.Explain r) = Some r.rel
sized_rel (typed.Insert target columns rows) = Some rows
sized_rel (typed.Update target columns values rows) = Some rows
sized_rel (typed.Delete target rows) = Some rows
sized_rel (typed.Exec procedure args) = None
sized_rel typed.Start = None
sized_rel typed.Commit = None
sized_rel typed.Rollback = None

-- more than 4,096 nodes, or more than 512 deep, with every view expanded
abbrev pub unless_large : {A : Type 0} → ℕ → ℕ → A → Result A Refusal
unless_large nodes depth x = if is_within_size nodes depth then Ok x else Err (TooLarge nodes depth)

abbrev pub within_size : List ViewDef → Option Rel → Typed → Result Typed Refusal
within_size views None statement = Ok statement
within_size views (Some r) statement = unless_large (nodes_of views r) (depth_of views r) statement

-- the size is counted last
abbrev pub resolved : Defined → Statement → Result Typed Refusal
resolved defined s = next (statement_walk defined s) (λ t. within_size defined.views (sized_rel t) t)
