-- Which types go together, and what operators make of them. A type is none where a NULL stands alone.
use Rattle.std.specs.Prelude.{ℕ, Bool, true, ◌||◌, if◌then◌else◌, List, [], ◌∷◌, Option, Some, None, Result, Ok, Err}
use Rattle.vdb_base.specs.declared.value.Value.{Value}
use Rattle.vdb_base.specs.declared.value.Value.TheVariants.{Null, Bool as Truth, Num, Str}
use Rattle.vdb_base.specs.declared.value.Ty.{Ty}
use Rattle.vdb_base.specs.declared.value.Ty.TheVariants.{Boolean, Integer, Long, BigInteger, Str as Text}
use Rattle.vdb_model.specs.declared.reply.Refusal.{Refusal}
use Rattle.vdb_model.specs.declared.reply.Refusal.TheVariants.{Mismatch, TooWide}
use Rattle.vdb_model.specs.Typed.{is_of, same_type, goes_into}
use Rattle.sql_reader.specs.declared.tree.expr.Aggregate.{Aggregate}
use Rattle.sql_reader.specs.declared.tree.expr.Aggregate.TheVariants.{Count, Sum, Min, Max}

-- a numeral is integer, long or biginteger, the first that holds it
abbrev pub type_of : Value → Option Ty
type_of Null = None
type_of (Truth b) = Some Boolean
type_of (Num n) = Some (if is_of Integer (Num n) then Integer else if is_of Long (Num n) then Long else BigInteger)
type_of (Str s) = Some Text

-- no number past 128 bits
abbrev pub is_held : Value → Bool
is_held Null = true
is_held (Truth b) = true
is_held (Num n) = is_of BigInteger (Num n)
is_held (Str s) = true

-- NULL goes with every type
abbrev pub is_a : Ty → Option Ty → Bool
is_a t None = true
is_a t (Some u) = same_type t u

-- two numbers or one type: the wider one
abbrev pub wider : Ty → Ty → Option (Option Ty)
wider t u = if goes_into t u then Some (Some u) else if goes_into u t then Some (Some t) else None

-- the type that two go together in; NULL takes the type that stands beside it
abbrev pub common : Option Ty → Option Ty → Option (Option Ty)
common None u = Some u
common (Some t) None = Some (Some t)
common (Some t) (Some u) = wider t u

-- the type that all go together in
abbrev pub with_others : Option (Option Ty) → List (Option Ty) → Option (Option Ty)
with_others None ts = None
with_others (Some t) [] = Some t
with_others (Some t) (u ∷ us) = with_others (common t u) us

abbrev pub common_of : List (Option Ty) → Option (Option Ty)
common_of = with_others (Some None)

-- where nothing gives a NULL its type, it is an integer as the operand of arithmetic
abbrev pub as_number : Option Ty → Ty
as_number None = Integer
as_number (Some t) = t

-- and else a string
abbrev pub settled : Option Ty → Ty
settled None = Text
settled (Some t) = t

-- arithmetic needs numbers: integers give a long and longs a biginteger, which is the widest
abbrev pub widened : ℕ → Ty → Result Ty Refusal
widened at Integer = Ok Long
widened at Long = Ok BigInteger
widened at BigInteger = Err (TooWide at)
widened at Boolean = Err (Mismatch at)
widened at Text = Err (Mismatch at)

abbrev pub computed_type : ℕ → Option (Option Ty) → Result Ty Refusal
computed_type at None = Err (Mismatch at)
computed_type at (Some t) = widened at (as_number t)

-- the sum of integers or longs is a biginteger, and one of bigintegers is past it
abbrev pub summed : ℕ → Ty → Result Ty Refusal
summed at Integer = Ok BigInteger
summed at Long = Ok BigInteger
summed at BigInteger = Err (TooWide at)
summed at Boolean = Err (Mismatch at)
summed at Text = Err (Mismatch at)

abbrev pub aggregate_type : Aggregate → ℕ → Option Ty → Result Ty Refusal
aggregate_type Count at t = Ok Long
aggregate_type Sum at t = summed at (as_number t)
aggregate_type Min at t = Ok (settled t)
aggregate_type Max at t = Ok (settled t)

-- what can be assigned: two numbers or one type
abbrev pub is_assignable : Ty → Option Ty → Bool
is_assignable t None = true
is_assignable t (Some u) = goes_into t u || goes_into u t
