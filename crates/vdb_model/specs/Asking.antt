-- What has to hold of a source query before it is sent.
use Rattle.std.specs.Prelude.{ℕ, ◌+◌, Bool, true, false, ◌&&◌, ◌||◌, ◌==◌, List, [], ◌∷◌, ◌++◌, length, Option, Some, None}
use Rattle.std.specs.List.{list_any}
use Rattle.vdb_base.specs.declared.value.Ty.{Ty}
use Rattle.vdb_base.specs.declared.value.Ty.TheVariants.{Boolean}
use Rattle.vdb_model.specs.declared.expr.Expr.{Expr}
use Rattle.vdb_model.specs.declared.table.ColumnDef.{ColumnDef}
use Rattle.vdb_model.specs.declared.table.TableDef.{TableDef}
use Rattle.vdb_model.specs.declared.source.SourceQuery.{SourceQuery}
use Rattle.vdb_model.specs.declared.expr.Expr.TheOpen.{Expr-F, Arm-F}
use Rattle.vdb_model.specs.declared.expr.Expr.TheFolds.{fold-Expr}
use Rattle.vdb_model.specs.Typed.{has_type}
use Rattle.vdb_model.specs.Can.{is_equality}
use Rattle.vdb_model.specs.Defs.{def_of}

abbrev pub types_of : List ColumnDef → List Ty
types_of [] = []
types_of (c ∷ cs) = c.ty ∷ types_of cs

-- the types of the tables' columns in turn
abbrev pub query_types : List TableDef → List ℕ → List Ty
query_types defs [] = []
query_types defs (t ∷ ts) = types_of (def_of defs t).columns ++ query_types defs ts

abbrev pub all_conditions : List Ty → List Expr → Bool
all_conditions types [] = true
all_conditions types (e ∷ es) = has_type types [] e Boolean && all_conditions types es

-- each filter is a condition over the tables' columns
abbrev pub is_typed : List TableDef → SourceQuery → Bool
is_typed defs q = all_conditions (query_types defs q.tables) q.filter

-- what an operand is: a column by its number, or a constant
pub record Operand : Type 0 where
  pub column : Option ℕ
  pub is_constant : Bool
  pub gives : List ℕ

abbrev pub other : Operand
other = record { column = None; is_constant = false; gives = [] }

abbrev pub all_constant : List Operand → Bool
all_constant [] = true
all_constant (o ∷ os) = o.is_constant && all_constant os

abbrev pub given_by : Option ℕ → Bool → List ℕ
given_by (Some c) true = c ∷ []
given_by (Some c) false = []
given_by None b = []

-- the columns to which an equality or an IN gives constants
abbrev pub operand_step : Expr-F Operand Bool → Operand
operand_step (Expr-F.Col at) = record other { column = Some at }
operand_step (Expr-F.Var at) = other
operand_step (Expr-F.Const v) = record other { is_constant = true }
operand_step (Expr-F.Not e) = other
operand_step (Expr-F.And es) = other
operand_step (Expr-F.Or es) = other
operand_step (Expr-F.Cmp op a b) = record other { gives = given_by a.column (is_equality op && b.is_constant) }
operand_step (Expr-F.IsNull e) = other
operand_step (Expr-F.In e es) = record other { gives = given_by e.column (all_constant es) }
operand_step (Expr-F.Like e pattern) = other
operand_step (Expr-F.Arith op a b) = other
operand_step (Expr-F.Neg e) = other
operand_step (Expr-F.Concat es) = other
operand_step (Expr-F.Case arms last) = other
operand_step (Expr-F.Coalesce es) = other

abbrev pub no_arm : Arm-F Operand Bool → Bool
no_arm arm = false

unfoldable pub operand : Expr → Operand
operand = fold-Expr Operand Bool operand_step no_arm

abbrev pub given_columns : List Expr → List ℕ
given_columns [] = []
given_columns (e ∷ es) = (operand e).gives ++ given_columns es

-- each column of the pattern, from the first column of its table on, is given
abbrev pub is_given : ℕ → List ℕ → List ℕ → Bool
is_given from given [] = true
is_given from given (c ∷ cs) = list_any (λ g. g == from + c) given && is_given from given cs

abbrev pub any_given : ℕ → List ℕ → List (List ℕ) → Bool
any_given from given [] = false
any_given from given (pattern ∷ patterns) = is_given from given pattern || any_given from given patterns

-- a table without a pattern, or one pattern whose columns are all given
abbrev pub is_met : ℕ → List ℕ → List (List ℕ) → Bool
is_met from given [] = true
is_met from given (pattern ∷ patterns) = any_given from given (pattern ∷ patterns)

abbrev pub patterns_met : List TableDef → ℕ → List ℕ → List ℕ → Bool
patterns_met defs from given [] = true
patterns_met defs from given (t ∷ ts) = is_met from given (def_of defs t).patterns && patterns_met defs (from + length (def_of defs t).columns) given ts

-- each table's access pattern is met by the filter
abbrev pub is_bound : List TableDef → SourceQuery → Bool
is_bound defs q = patterns_met defs 0 (given_columns q.filter) q.tables
