-- What an item list gives: its columns with their names, and the expressions that give them.
use Rattle.std.specs.Prelude.{ℕ, ◌+◌, Bool, true, false, ◌||◌, if◌then◌else◌, List, [], ◌∷◌, ◌++◌, length, Option, Some, None, Result, Ok, Err, codes}
use Rattle.vdb_base.specs.declared.value.Ty.{Ty}
use Rattle.vdb_model.specs.declared.expr.Expr as model
use Rattle.vdb_model.specs.declared.expr.Expr.TheVariants.{Col}
use Rattle.vdb_model.specs.declared.reply.Refusal.{Refusal}
use Rattle.vdb_model.specs.declared.typed.VarDef.{VarDef}
use Rattle.vdb_model.specs.Defs.{same_name}
use Rattle.vdb_model.specs.Lines.{number_text}
use Rattle.vdb_model.specs.NameText.{name_text}
use Rattle.sql_reader.specs.declared.tree.expr.Arm.{Arm, out-Arm}
use Rattle.sql_reader.specs.declared.tree.expr.Expr.{Expr}
use Rattle.sql_reader.specs.declared.tree.expr.Link.{Link, out-Link}
use Rattle.sql_reader.specs.declared.tree.expr.Expr.TheOpen.{Expr-F, Link-F, Arm-F}
use Rattle.sql_reader.specs.declared.tree.expr.Expr.TheFolds.{fold-Expr}
use Rattle.sql_reader.specs.declared.tree.name.Name.{Name}
use Rattle.sql_reader.specs.declared.tree.query.SelectItem.{SelectItem}
use Rattle.sql_reader.specs.declared.tree.query.SelectItem.TheVariants as item
use Rattle.expr_resolver.specs.declared.known.Known.{Known}
use Rattle.expr_resolver.specs.declared.scope.Entry.{Entry}
use Rattle.expr_resolver.specs.declared.scope.Names.{Names}
use Rattle.expr_resolver.specs.declared.scope.Over.{Over}
use Rattle.resolver.specs.declared.selected.Chosen.{Chosen}
use Rattle.resolver.specs.declared.selected.Column.{Column}
use Rattle.expr_resolver.specs.Exprs.{walk}
use Rattle.expr_resolver.specs.Scope.{only, column_over, last_name}
use Rattle.expr_resolver.specs.Walking.{next, Walk, given, one, in_turn}

-- the name of the column that an expression is, in parentheses or not
abbrev pub no_name : {A : Type 0} → A → Option (List ℕ)
no_name part = None

abbrev pub name_step : Expr-F (Option (List ℕ)) (Option (List ℕ)) (Option (List ℕ)) → Option (List ℕ)
name_step (Expr-F.Column c) = Some (last_name c)
name_step (Expr-F.Parens inner at) = inner
name_step (Expr-F.Literal literal) = None
name_step (Expr-F.Negate operand at) = None
name_step (Expr-F.Chain first rest) = None
name_step (Expr-F.Not operand at) = None
name_step (Expr-F.Compare c left right at) = None
name_step (Expr-F.IsNull operand negated) = None
name_step (Expr-F.In operand negated list at) = None
name_step (Expr-F.Like operand negated pattern at) = None
name_step (Expr-F.Between operand negated low high at) = None
name_step (Expr-F.CountAll at) = None
name_step (Expr-F.Aggregate a operand at) = None
name_step (Expr-F.Coalesce list at) = None
name_step (Expr-F.Case arms otherwise at) = None

unfoldable pub column_name : Expr → Option (List ℕ)
column_name = fold-Expr (Option (List ℕ)) (Option (List ℕ)) (Option (List ℕ)) name_step no_name no_name

-- without a name and without a column it is `expr` and the item's number from 1
abbrev pub name_or_number : Option (List ℕ) → ℕ → List ℕ
name_or_number None n = codes "expr" ++ number_text n
name_or_number (Some name) n = name

abbrev pub item_name : Option Name → ℕ → Expr → List ℕ
item_name None n e = name_or_number (column_name e) n
item_name (Some alias) n e = alias.text

abbrev pub chosen_by : List ℕ → Known → Result (List Chosen) Refusal
chosen_by name k = Ok (record { expr = k.expr; column = record { name = name; ty = k.ty; first = k.first } } ∷ [])

abbrev pub column_chosen : ℕ → List ℕ → ℕ × Ty → Result Chosen Refusal
column_chosen first name column = Ok (record { expr = Col column.0; column = record { name = name; ty = Some column.1; first = first } })

-- all columns in turn, by their places counted on from here; over groups each has to be a key
abbrev pub columns_chosen : Names → Over → ℕ → ℕ → List VarDef → List Chosen → Result (List Chosen) Refusal
columns_chosen names over first at [] made = Ok made
columns_chosen names over first at (c ∷ cs) made =
    next (next (column_over over names.keys first (at, c.ty)) (column_chosen first c.name)) (λ chosen. columns_chosen names over first (at + 1) cs (made ++ chosen ∷ []))

-- `*` is the columns of all entries in turn
abbrev pub all_columns : List Entry → List VarDef
all_columns [] = []
all_columns (entry ∷ entries) = entry.columns ++ all_columns entries

-- the columns of the entries of the name, each with the place of its first one
abbrev pub columns_named : ℕ → List ℕ → List Entry → List (ℕ × List VarDef)
columns_named at name [] = []
columns_named at name (entry ∷ entries) =
    if same_name entry.name name then (at, entry.columns) ∷ columns_named (at + length entry.columns) name entries
    else columns_named (at + length entry.columns) name entries

-- `q.*` is the columns of the only entry of the name
abbrev pub columns_of_entry : Names → Over → Name → Result (List Chosen) Refusal
columns_of_entry names over relation =
    next (only (name_text relation.text) (columns_named 0 relation.text names.entries)) (λ found. columns_chosen names over relation.at found.0 found.1 [])

-- an item by its number
abbrev pub item_walk : Names → Over → ℕ → SelectItem → Walk (List Chosen)
item_walk names over n (item.All at) = given (columns_chosen names over at 0 (all_columns names.entries) [])
item_walk names over n (item.AllOf relation) = given (columns_of_entry names over relation)
item_walk names over n (item.Expr e alias) = one (walk names e over) (chosen_by (item_name alias n e))

abbrev pub items_walk : Names → Over → ℕ → List SelectItem → List Chosen → Walk (List Chosen)
items_walk names over n [] made = given (Ok made)
items_walk names over n (i ∷ is) made = in_turn (item_walk names over n i) (λ cs. items_walk names over (n + 1) is (made ++ cs))

abbrev pub exprs_of : List Chosen → List model.Expr
exprs_of [] = []
exprs_of (c ∷ cs) = c.expr ∷ exprs_of cs

abbrev pub columns_of : List Chosen → List Column
columns_of [] = []
columns_of (c ∷ cs) = c.column ∷ columns_of cs

abbrev pub first_column : List Chosen → ℕ
first_column [] = 0
first_column (c ∷ cs) = c.column.first

-- the place of the first token of the list
abbrev pub first_of : List SelectItem → List Chosen → ℕ
first_of [] cs = 0
first_of (item.All at ∷ is) cs = at
first_of (item.AllOf relation ∷ is) cs = relation.at
first_of (item.Expr e alias ∷ is) cs = first_column cs

-- whether an aggregate stands in an expression
abbrev pub any_true : List Bool → Bool
any_true [] = false
any_true (b ∷ bs) = b || any_true bs

abbrev pub or_none : Option Bool → Bool
or_none None = false
or_none (Some b) = b

abbrev pub aggregate_step : Expr-F Bool Bool Bool → Bool
aggregate_step (Expr-F.Literal literal) = false
aggregate_step (Expr-F.Column c) = false
aggregate_step (Expr-F.Parens inner at) = inner
aggregate_step (Expr-F.Negate operand at) = operand
aggregate_step (Expr-F.Chain first rest) = first || any_true rest
aggregate_step (Expr-F.Not operand at) = operand
aggregate_step (Expr-F.Compare c left right at) = left || right
aggregate_step (Expr-F.IsNull operand negated) = operand
aggregate_step (Expr-F.In operand negated list at) = operand || any_true list
aggregate_step (Expr-F.Like operand negated pattern at) = operand
aggregate_step (Expr-F.Between operand negated low high at) = operand || low || high
aggregate_step (Expr-F.CountAll at) = true
aggregate_step (Expr-F.Aggregate a operand at) = true
aggregate_step (Expr-F.Coalesce list at) = any_true list
aggregate_step (Expr-F.Case arms otherwise at) = any_true arms || or_none otherwise

abbrev pub link_aggregate : Link-F Bool Bool Bool → Bool
link_aggregate link = link.operand

abbrev pub arm_aggregate : Arm-F Bool Bool Bool → Bool
arm_aggregate arm = arm.condition || arm.value

unfoldable pub has_aggregate : Expr → Bool
has_aggregate = fold-Expr Bool Bool Bool aggregate_step arm_aggregate link_aggregate

-- the same of parts of trees
abbrev pub any_has : List Expr → Bool
any_has [] = false
any_has (e ∷ es) = has_aggregate e || any_has es

abbrev pub any_link_has : List Link → Bool
any_link_has [] = false
any_link_has (link ∷ links) = has_aggregate (out-Link link).operand || any_link_has links

abbrev pub any_arm_has : List Arm → Bool
any_arm_has [] = false
any_arm_has (arm ∷ arms) = (has_aggregate (out-Arm arm).condition || has_aggregate (out-Arm arm).value) || any_arm_has arms

abbrev pub last_has : Option Expr → Bool
last_has None = false
last_has (Some e) = has_aggregate e

abbrev pub any_aggregate : List SelectItem → Bool
any_aggregate [] = false
any_aggregate (item.All at ∷ is) = any_aggregate is
any_aggregate (item.AllOf relation ∷ is) = any_aggregate is
any_aggregate (item.Expr e alias ∷ is) = has_aggregate e || any_aggregate is
