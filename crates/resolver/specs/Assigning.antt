-- Which columns take values, and whether the values go into them.
use Rattle.std.specs.Prelude.{ℕ, ◌+◌, Bool, true, false, ◌==◌, if◌then◌else◌, List, [], ◌∷◌, ◌++◌, length, Option, Some, None, Result, Ok, Err}
use Rattle.std.specs.List.{list_any}
use Rattle.vdb_base.specs.declared.value.Ty.{Ty}
use Rattle.vdb_model.specs.declared.reply.Refusal.{Refusal}
use Rattle.vdb_model.specs.declared.reply.Refusal.TheVariants.{Mismatch}
use Rattle.vdb_model.specs.declared.typed.VarDef.{VarDef}
use Rattle.vdb_model.specs.NameText.{name_text}
use Rattle.sql_reader.specs.declared.tree.name.Name.{Name}
use Rattle.expr_resolver.specs.declared.known.Known.{Known}
use Rattle.resolver.specs.declared.selected.Column.{Column}
use Rattle.resolver.specs.declared.targets.Given.{Given}
use Rattle.resolver.specs.declared.targets.Targets.{Targets}
use Rattle.expr_resolver.specs.Scope.{only, named}
use Rattle.expr_resolver.specs.Types.{is_assignable}
use Rattle.expr_resolver.specs.Walking.{next}

-- a target column twice is refused at the second
abbrev pub once : ℕ → List ℕ → ℕ × Ty → Result (ℕ × Ty) Refusal
once at seen column = if list_any (λ c. c == column.0) seen then Err (Mismatch at) else Ok column

-- a column of the target, by its place and type
abbrev pub target_column : List VarDef → List ℕ → Name → Result (ℕ × Ty) Refusal
target_column columns seen name = next (only (name_text name.text) (named 0 name.text columns)) (once name.at seen)

abbrev pub with_column : Targets → ℕ × Ty → Targets
with_column made c = record { columns = made.columns ++ c.0 ∷ []; tys = made.tys ++ c.1 ∷ [] }

abbrev pub target_columns : List VarDef → List Name → Targets → Result Targets Refusal
target_columns columns [] made = Ok made
target_columns columns (name ∷ names) made = next (target_column columns made.columns name) (λ c. target_columns columns names (with_column made c))

abbrev pub no_columns : Targets
no_columns = record { columns = []; tys = [] }

-- all columns in order, by their places counted on from here
abbrev pub every_column : ℕ → List VarDef → Targets → Targets
every_column at [] made = made
every_column at (c ∷ cs) made = every_column (at + 1) cs (with_column made (at, c.ty))

-- without a list it is all columns in order
abbrev pub listed_columns : List VarDef → List Name → Result Targets Refusal
listed_columns columns [] = Ok (every_column 0 columns no_columns)
listed_columns columns (name ∷ names) = target_columns columns (name ∷ names) no_columns

abbrev pub of_known : List Known → List Given
of_known [] = []
of_known (k ∷ ks) = record { ty = k.ty; first = k.first } ∷ of_known ks

abbrev pub of_columns : List Column → List Given
of_columns [] = []
of_columns (c ∷ cs) = record { ty = c.ty; first = c.first } ∷ of_columns cs

-- where the first stands that doesn't go into its column
abbrev pub first_unfit : List Ty → List Given → Option ℕ
first_unfit [] values = None
first_unfit (t ∷ ts) [] = None
first_unfit (t ∷ ts) (v ∷ vs) = if is_assignable t v.ty then first_unfit ts vs else Some v.first

-- lists of different length are refused at the second list's first token
abbrev pub unfit_at : ℕ → List Ty → List Given → Option ℕ
unfit_at at ts values = if length ts == length values then first_unfit ts values else Some at

abbrev pub unless_unfit : {A : Type 0} → Option ℕ → A → Result A Refusal
unless_unfit None x = Ok x
unless_unfit (Some at) x = Err (Mismatch at)

abbrev pub assigned : {A : Type 0} → ℕ → List Ty → List Given → A → Result A Refusal
assigned at ts values = unless_unfit (unfit_at at ts values)

abbrev pub assigned_value : Ty → Known → Result Known Refusal
assigned_value t k = if is_assignable t k.ty then Ok k else Err (Mismatch k.first)
