-- What the walk of a statement gives is typed over its catalog.
use Rattle.std.specs.Prelude.{◌≡◌, ℕ, Bool, true, false, ◌&&◌, ◌||◌, List, [], ◌∷◌, length, slice_get, Option, Some, IsTrue, Ok}
use Rattle.std.specs.List.{list_any}
use Rattle.vdb_base.specs.declared.value.Ty.{Ty}
use Rattle.vdb_model.specs.declared.catalog.ProcedureDef.{ProcedureDef}
use Rattle.vdb_model.specs.declared.expr.Expr.{Expr}
use Rattle.vdb_model.specs.declared.rel.Rel.{Rel}
use Rattle.vdb_model.specs.declared.typed.Target.{Target}
use Rattle.vdb_model.specs.declared.typed.Target.TheVariants.{Table, View}
use Rattle.vdb_model.specs.declared.typed.Typed.{Typed}
use Rattle.vdb_model.specs.declared.typed.Typed.TheVariants as typed
use Rattle.vdb_model.specs.Columns.{key_types}
use Rattle.vdb_model.specs.Defined.{Defined}
use Rattle.vdb_model.specs.Defs.{all_below}
use Rattle.vdb_model.specs.Typed.{types, goes_into, has_type}
use Rattle.vdb_model.specs.WellFormed.{are_placed, table_types, view_types, variable_types}
use Rattle.sql_reader.specs.declared.tree.statement.Statement.{Statement}
use Rattle.resolver.specs.Statements.{resolved}
use Rattle.walk_laws.specs.Typed.{columns_over, AreOf, IsTypedOver}

-- a column takes values of its type, and one of numbers those of any number's type
abbrev pub can_take : Ty → Ty → Bool
can_take t u = goes_into t u || goes_into u t

-- each takes values of the type at its place
abbrev pub all_take : List Ty → List Ty → Bool
all_take [] [] = true
all_take [] (u ∷ us) = false
all_take (t ∷ ts) [] = false
all_take (t ∷ ts) (u ∷ us) = can_take t u && all_take ts us

-- over columns of these types the expression has a type that is taken
abbrev pub takes_value : List Ty → Ty → Expr → Bool
takes_value cols t e = list_any (λ u. can_take t u && has_type cols [] e u) types

abbrev pub all_take_values : List Ty → List Ty → List Expr → Bool
all_take_values cols [] [] = true
all_take_values cols [] (e ∷ es) = false
all_take_values cols (t ∷ ts) [] = false
all_take_values cols (t ∷ ts) (e ∷ es) = takes_value cols t e && all_take_values cols ts es

-- the types of the target's columns, where it is there
abbrev pub target_types : Defined → Target → Option (List Ty)
target_types defined (Table n) = slice_get (table_types defined.tables) n
target_types defined (View n) = slice_get (view_types defined.views) n

abbrev pub parameter_types : List ProcedureDef → List (List Ty)
parameter_types [] = []
parameter_types (d ∷ ds) = variable_types d.parameters ∷ parameter_types ds

-- the types of the columns at these places
abbrev pub types_at : List Ty → List ℕ → List Ty
types_at = key_types

-- The rows have a column for each of the target's that are named, which takes its values.
pub record IsTypedInsert (defined : Defined) (target : Target) (columns : List ℕ) (rel : Rel) : Type 0 where
  pub own : List Ty
  pub there : target_types defined target ≡ Some own
  pub places : IsTrue (all_below (length own) columns)
  pub given : List Ty
  pub rows : AreOf (columns_over defined rel) given
  pub taken : IsTrue (all_take (types_at own columns) given)

-- The rows are of the target's types, and each column that is set takes the value of the expression at its place over them.
pub record IsTypedUpdate (defined : Defined) (target : Target) (columns : List ℕ) (values : List Expr) (rel : Rel) : Type 0 where
  pub own : List Ty
  pub there : target_types defined target ≡ Some own
  pub places : IsTrue (all_below (length own) columns)
  pub taken : IsTrue (all_take_values own (types_at own columns) values)
  pub rows : AreOf (columns_over defined rel) own

-- the rows are of the target's types
pub record IsTypedDelete (defined : Defined) (target : Target) (rel : Rel) : Type 0 where
  pub own : List Ty
  pub there : target_types defined target ≡ Some own
  pub rows : AreOf (columns_over defined rel) own

-- each parameter takes the value of its argument
pub record IsTypedExec (defined : Defined) (procedure : ℕ) (args : List Expr) : Type 0 where
  pub own : List Ty
  pub there : slice_get (parameter_types defined.procedures) procedure ≡ Some own
  pub taken : IsTrue (all_take_values [] own args)

abbrev pub IsTypedStatement : Defined → Typed → Type 0
IsTypedStatement defined (typed.Query r) = IsTypedOver defined r
IsTypedStatement defined (typed.Explain r) = IsTypedOver defined r
IsTypedStatement defined (typed.Insert target columns rows) = IsTypedInsert defined target columns rows
IsTypedStatement defined (typed.Update target columns values rows) = IsTypedUpdate defined target columns values rows
IsTypedStatement defined (typed.Delete target rows) = IsTypedDelete defined target rows
IsTypedStatement defined (typed.Exec procedure args) = IsTypedExec defined procedure args
IsTypedStatement defined typed.Start = Unit {0}
IsTypedStatement defined typed.Commit = Unit {0}
IsTypedStatement defined typed.Rollback = Unit {0}

-- whatever the walk of statements gives is typed over the catalog, where each table's number is its place
abbrev pub StatementsAreTyped : Type 0
StatementsAreTyped = (defined : Defined) → IsTrue (are_placed 0 defined.tables) → (s : Statement) (t : Typed) → resolved defined s ≡ Ok t → IsTypedStatement defined t
