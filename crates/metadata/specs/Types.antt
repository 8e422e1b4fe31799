-- The types of a DDL by their names. A length in parentheses isn't kept.
use Rattle.std.specs.Prelude.{ℕ, Bool, if◌then◌else◌, List, [], ◌∷◌, codes, Option, Some, None}
use Rattle.std.specs.List.{list_any}
use Rattle.std.specs.Option.{is_none, unwrap_or}
use Rattle.vdb_base.specs.declared.value.Ty.{Ty}
use Rattle.vdb_base.specs.declared.value.Ty.TheVariants.{Boolean, Integer, Long, BigInteger, Str}
use Rattle.vdb_model.specs.declared.reply.DeployFault.TheVariants.{Unknown, FractionalType}
use Rattle.vdb_model.specs.Defs.{same_name}
use Rattle.vdb_model.specs.NameText.{name_text}
use Rattle.sql_reader.specs.declared.tree.name.Name.{Name}
use Rattle.metadata.specs.Tests.{Test, fails_if}

abbrev pub type_names : List (List ℕ × Ty)
type_names = (codes "boolean", Boolean) ∷ (codes "integer", Integer) ∷ (codes "int", Integer) ∷ (codes "long", Long) ∷ (codes "bigint", Long)
    ∷ (codes "biginteger", BigInteger) ∷ (codes "string", Str) ∷ (codes "varchar", Str) ∷ []

-- types with fractions, which are refused by name
abbrev pub fractional_names : List (List ℕ)
fractional_names = codes "float" ∷ codes "double" ∷ codes "real" ∷ codes "decimal" ∷ codes "numeric" ∷ codes "bigdecimal" ∷ []

abbrev pub named_in : List (List ℕ × Ty) → List ℕ → Option Ty
named_in [] name = None
named_in (t ∷ ts) name = if same_name name t.0 then Some t.1 else named_in ts name

-- the type of the name
abbrev pub type_named : List ℕ → Option Ty
type_named name = named_in type_names name

abbrev pub is_fractional : List ℕ → Bool
is_fractional name = list_any (same_name name) fractional_names

-- 33: no type has the name
abbrev pub unknown_type : Name → Test
unknown_type ty = if is_fractional ty.text then None else fails_if (is_none (type_named ty.text)) (Unknown (name_text ty.text))

-- 34: the type has fractions
abbrev pub fractional_type : Name → Test
fractional_type ty = fails_if (is_fractional ty.text) (FractionalType ty.at)

-- the type of a name that no test refuses
abbrev pub type_of : Name → Ty
type_of ty = unwrap_or (type_named ty.text) Boolean
