-- Which column a name means among the entries of a FROM.
use Rattle.std.specs.Prelude.{ℕ, ◌+◌, Bool, true, false, ◌&&◌, ◌==◌, if◌then◌else◌, List, [], ◌∷◌, ◌++◌, length, Option, Some, None, Result, Ok, Err}
use Rattle.vdb_base.specs.declared.value.Ty.{Ty}
use Rattle.vdb_model.specs.declared.reply.Refusal.{Refusal}
use Rattle.vdb_model.specs.declared.reply.Refusal.TheVariants.{Unknown, Ambiguous, Mismatch}
use Rattle.vdb_model.specs.declared.typed.VarDef.{VarDef}
use Rattle.vdb_model.specs.Defs.{same_name}
use Rattle.vdb_model.specs.NameText.{name_text, dotted, column_text}
use Rattle.sql_reader.specs.declared.tree.name.ColumnName.{ColumnName}
use Rattle.sql_reader.specs.declared.tree.name.ColumnName.TheVariants.{Plain, Of, InSchema}
use Rattle.expr_resolver.specs.declared.scope.Entry.{Entry}
use Rattle.expr_resolver.specs.declared.scope.Names.{Names}
use Rattle.expr_resolver.specs.declared.scope.Over.{Over}
use Rattle.expr_resolver.specs.declared.scope.Over.TheVariants.{Rows, Groups}
use Rattle.expr_resolver.specs.Walking.{next}

-- none is unknown, and two are ambiguous
abbrev pub only : {A : Type 0} → List ℕ → List A → Result A Refusal
only name [] = Err (Unknown name)
only name (x ∷ []) = Ok x
only name (x ∷ y ∷ more) = Err (Ambiguous name)

-- the name as it is written, with its dots
abbrev pub written : ColumnName → List ℕ
written (Plain name) = name_text name.text
written (Of relation name) = dotted relation.text name.text
written (InSchema schema relation name) = column_text schema.text relation.text name.text

-- the name of the column itself
abbrev pub last_name : ColumnName → List ℕ
last_name (Plain name) = name.text
last_name (Of relation name) = name.text
last_name (InSchema schema relation name) = name.text

-- the place of the first token
abbrev pub first_place : ColumnName → ℕ
first_place (Plain name) = name.at
first_place (Of relation name) = relation.at
first_place (InSchema schema relation name) = schema.at

abbrev pub is_in_schema : List ℕ → Option (List ℕ) → Bool
is_in_schema schema None = false
is_in_schema schema (Some s) = same_name s schema

-- `c` is of each entry, `q.c` of the entry of that name, and `s.t.c` of that relation without an alias
abbrev pub may_be_of : ColumnName → Entry → Bool
may_be_of (Plain name) entry = true
may_be_of (Of relation name) entry = same_name entry.name relation.text
may_be_of (InSchema schema relation name) entry = same_name entry.name relation.text && is_in_schema schema.text entry.schema

-- the columns of the name, by their places, counted on from here, and types
abbrev pub named : ℕ → List ℕ → List VarDef → List (ℕ × Ty)
named at name [] = []
named at name (column ∷ columns) = if same_name column.name name then (at, column.ty) ∷ named (at + 1) name columns else named (at + 1) name columns

abbrev pub found_in : ℕ → ColumnName → Entry → List (ℕ × Ty)
found_in at c entry = if may_be_of c entry then named at (last_name c) entry.columns else []

-- all columns that the name may mean, by their places in the joined row
abbrev pub found : ℕ → ColumnName → List Entry → List (ℕ × Ty)
found at c [] = []
found at c (entry ∷ entries) = found_in at c entry ++ found (at + length entry.columns) c entries

abbrev pub column_of : List Entry → ColumnName → Result (ℕ × Ty) Refusal
column_of entries c = only (written c) (found 0 c entries)

-- where a column stands among the keys, counted on from here
abbrev pub key_at : ℕ → List ℕ → ℕ → Option ℕ
key_at at [] column = None
key_at at (key ∷ keys) column = if key == column then Some at else key_at (at + 1) keys column

abbrev pub as_key : ℕ → Ty → Option ℕ → Result (ℕ × Ty) Refusal
as_key at t None = Err (Mismatch at)
as_key at t (Some key) = Ok (key, t)

-- over groups a column has to be a key, and is refused at its place
abbrev pub column_over : Over → List ℕ → ℕ → ℕ × Ty → Result (ℕ × Ty) Refusal
column_over Rows keys at column = Ok column
column_over Groups keys at column = as_key at column.1 (key_at 0 keys column.0)

abbrev pub column_seen : Names → Over → ColumnName → Result (ℕ × Ty) Refusal
column_seen names over c = next (column_of names.entries c) (column_over over names.keys (first_place c))
