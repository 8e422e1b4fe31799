-- What selects give: FROM, WHERE, GROUP BY, HAVING, the items, and then the next select of the chain.
use Rattle.std.specs.Prelude.{ℕ, ◌+◌, Bool, true, false, ◌||◌, ◌==◌, if◌then◌else◌, List, [], ◌∷◌, ◌++◌, length, Option, Some, None, is_some, Result, Ok, Err}
use Rattle.vdb_base.specs.declared.value.Ty.{Ty}
use Rattle.vdb_model.specs.declared.expr.Expr as model
use Rattle.vdb_model.specs.declared.rel.Agg.{Agg}
use Rattle.vdb_model.specs.declared.rel.Rel.{Rel}
use Rattle.vdb_model.specs.declared.rel.Rel.TheVariants as rel
use Rattle.vdb_model.specs.declared.reply.Refusal.{Refusal}
use Rattle.vdb_model.specs.declared.reply.Refusal.TheVariants.{Mismatch}
use Rattle.vdb_model.specs.Defined.{Defined}
use Rattle.sql_reader.specs.declared.tree.expr.Expr.{Expr}
use Rattle.sql_reader.specs.declared.tree.name.ColumnName.{ColumnName}
use Rattle.sql_reader.specs.declared.tree.name.Name.{Name}
use Rattle.sql_reader.specs.declared.tree.query.SelectItem.{SelectItem}
use Rattle.sql_reader.specs.declared.tree.query.Select.{Select, out-Select}
use Rattle.sql_reader.specs.declared.tree.query.SetQuery.{SetQuery}
use Rattle.sql_reader.specs.declared.tree.query.TableRef.{TableRef}
use Rattle.sql_reader.specs.declared.tree.query.SetQuery.TheOpen.{SetQuery-F, Select-F, TableRef-F}
use Rattle.sql_reader.specs.declared.tree.query.SetQuery.TheFolds.{fold-SetQuery, fold-TableRef}
use Rattle.expr_resolver.specs.declared.known.Known.{Known}
use Rattle.expr_resolver.specs.declared.scope.Entry.{Entry}
use Rattle.expr_resolver.specs.declared.scope.Names.{Names}
use Rattle.expr_resolver.specs.declared.scope.Over.{Over}
use Rattle.expr_resolver.specs.declared.scope.Over.TheVariants.{Rows, Groups}
use Rattle.resolver.specs.declared.selected.Chosen.{Chosen}
use Rattle.resolver.specs.declared.selected.Column.{Column}
use Rattle.resolver.specs.declared.selected.Selected.{Selected}
use Rattle.resolver.specs.declared.selected.Source.{Source}
use Rattle.expr_resolver.specs.Exprs.{walk}
use Rattle.resolver.specs.From.{TablePart, condition_over, table_source, derived_source, joined_source, from}
use Rattle.resolver.specs.Items.{any_aggregate, items_walk, exprs_of, columns_of, first_of}
use Rattle.expr_resolver.specs.Operators.{condition}
use Rattle.expr_resolver.specs.Scope.{column_of}
use Rattle.expr_resolver.specs.Types.{common}
use Rattle.expr_resolver.specs.Walking.{next, Walk, given, one}

-- WHERE is a Where
abbrev pub filtered : Option Expr → Source → Result Source Refusal
filtered None source = Ok source
filtered (Some e) source = next (condition_over source.entries e) (λ k. Ok (record source { rel = rel.Where source.rel k.expr }))

-- GROUP BY looks up columns, which are the keys in text order
abbrev pub keys_of : List Entry → List ColumnName → List ℕ → Result (List ℕ) Refusal
keys_of entries [] made = Ok made
keys_of entries (c ∷ cs) made = next (column_of entries c) (λ column. keys_of entries cs (made ++ column.0 ∷ []))

abbrev pub having_walk : Names → Over → Option Expr → Walk (Option Known)
having_walk names over None = given (Ok None)
having_walk names over (Some e) = one (one (walk names e over) condition) (λ k. Ok (Some k))

-- HAVING and the items are over groups where there is a GROUP BY, a HAVING or an aggregate
abbrev pub level : Bool → Over
level false = Rows
level true = Groups

abbrev pub is_grouped : List ColumnName → Option Expr → List SelectItem → Bool
is_grouped [] having items = is_some having || any_aggregate items
is_grouped (c ∷ cs) having items = true

-- a Group, and HAVING as a Where above it
abbrev pub having_rel : Option Known → Rel → Rel
having_rel None r = r
having_rel (Some k) r = rel.Where r k.expr

abbrev pub grouped_rel : Over → List ℕ → List Agg → Option Known → Rel → Rel
grouped_rel Rows keys aggs having r = r
grouped_rel Groups keys aggs having r = having_rel having (rel.Group r keys aggs)

-- the item list is a Select, and DISTINCT a Distinct above it
abbrev pub distinct_rel : Bool → Rel → Rel
distinct_rel false r = r
distinct_rel true r = rel.Distinct r

abbrev pub selected : Bool → List SelectItem → Rel → List Chosen → Selected
selected distinct items r chosen = record { parts = distinct_rel distinct (rel.Select r (exprs_of chosen)) ∷ []; columns = columns_of chosen; first = first_of items chosen }

-- HAVING comes before the items, and the aggregates of both stand in the Group
abbrev pub level_walk : Bool → List SelectItem → Option Expr → Names → Over → Rel → Result Selected Refusal
level_walk distinct items having names over r =
    next (having_walk names over having []) (λ h.
    next (items_walk names over 1 items [] h.1) (λ chosen.
    Ok (selected distinct items (grouped_rel over names.keys chosen.1 h.0 r) chosen.0)))

-- what stands after WHERE, over the rows that are left
abbrev pub grouped_walk : List ColumnName → Option Expr → List SelectItem → Bool → Source → Result Selected Refusal
grouped_walk group having items distinct source =
    next (keys_of source.entries group []) (λ keys.
    level_walk distinct items having (record { entries = source.entries; keys = keys }) (level (is_grouped group having items)) source.rel)

abbrev pub select_of : List TablePart → Option Expr → List ColumnName → Option Expr → List SelectItem → Bool → Result Selected Refusal
select_of tables condition group having items distinct = next (next (from tables) (filtered condition)) (grouped_walk group having items distinct)

abbrev pub select : Select-F (Result Selected Refusal) TablePart (Result Selected Refusal) → Result Selected Refusal
select s = select_of s.from s.condition s.group s.having s.items s.distinct

-- the relation of a query: a chain of UNION ALL is one Union
abbrev pub union_of : List Rel → Rel
union_of [] = rel.Union []
union_of (r ∷ []) = r
union_of (r ∷ s ∷ more) = rel.Union (r ∷ s ∷ more)

abbrev pub merged : Column → Column → Option (Option Ty) → Result Column Refusal
merged l r None = Err (Mismatch r.first)
merged l r (Some t) = Ok (record l { ty = t })

-- column by column, refused at the first token of the item on the right
abbrev pub merge : List Column → List Column → List Column → Result (List Column) Refusal
merge [] rs made = Ok made
merge (l ∷ ls) [] made = Ok made
merge (l ∷ ls) (r ∷ rs) made = next (merged l r (common l.ty r.ty)) (λ c. merge ls rs (made ++ c ∷ []))

-- UNION is a Distinct over the Union of its two sides
abbrev pub parts_by : Bool → List Rel → List Rel → List Rel
parts_by true ls rs = ls ++ union_of rs ∷ []
parts_by false ls rs = rel.Distinct (rel.Union (union_of ls ∷ union_of rs ∷ [])) ∷ []

abbrev pub united_as : Bool → Selected → Selected → List Column → Result Selected Refusal
united_as all l r columns = Ok (record { parts = parts_by all l.parts r.parts; columns = columns; first = l.first })

-- item lists of different length are refused at the first token of the second
abbrev pub united : Bool → Selected → Selected → Result Selected Refusal
united all l r = if length l.columns == length r.columns then next (merge l.columns r.columns []) (united_as all l r) else Err (Mismatch r.first)

abbrev pub set_step : SetQuery-F (Result Selected Refusal) TablePart (Result Selected Refusal) → Result Selected Refusal
set_step (SetQuery-F.Select s) = s
set_step (SetQuery-F.Union left all right) = next left (λ l. next right (united all l))

abbrev pub derived : Result Selected Refusal → Name → TablePart
derived query alias seen = next query (λ q. derived_source (union_of q.parts) q.columns alias seen)

abbrev pub table_step : Defined → TableRef-F (Result Selected Refusal) TablePart (Result Selected Refusal) → TablePart
table_step defined (TableRef-F.Named name alias) = table_source defined name alias
table_step defined (TableRef-F.Derived query alias) = derived query alias
table_step defined (TableRef-F.Joined left right kind) = joined_source left right kind

unfoldable pub set_walk : Defined → SetQuery → Result Selected Refusal
set_walk defined = fold-SetQuery (Result Selected Refusal) TablePart (Result Selected Refusal) set_step (table_step defined) select

unfoldable pub table_walk : Defined → TableRef → TablePart
table_walk defined = fold-TableRef (Result Selected Refusal) TablePart (Result Selected Refusal) set_step (table_step defined) select

-- the walks of parts of trees
abbrev pub tables_walk : Defined → List TableRef → List TablePart
tables_walk defined [] = []
tables_walk defined (t ∷ ts) = table_walk defined t ∷ tables_walk defined ts

abbrev pub select_walk : Defined → Select → Result Selected Refusal
select_walk defined s = select_of (tables_walk defined (out-Select s).from) (out-Select s).condition (out-Select s).group (out-Select s).having (out-Select s).items (out-Select s).distinct
