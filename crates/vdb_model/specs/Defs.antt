-- Definitions of tables: looking one up, and which are fit for a resource.
use Rattle.std.specs.Prelude.{ℕ, Bool, true, false, not, ◌&&◌, ◌||◌, ◌==◌, nat_le, nat_lt, if◌then◌else◌, List, [], ◌∷◌, length, slice_index_or, Option, Some, None}
use Rattle.std.specs.List.{list_any}
use Rattle.std.specs.Cmp.Lexicographic.{pointwise}
use Rattle.std.specs.Str.{str_to_ascii_lowercase}
use Rattle.vdb_base.specs.declared.value.Ty.TheVariants.{Boolean}
use Rattle.vdb_model.specs.declared.source.Caps.{Caps}
use Rattle.vdb_model.specs.declared.table.ColumnDef.{ColumnDef}
use Rattle.vdb_model.specs.declared.table.TableDef.{TableDef}

abbrev pub no_column : ColumnDef
no_column = record { name = []; source = []; ty = Boolean; not_null = false }

abbrev pub no_table : TableDef
no_table = record { number = 0; server = 0; schema = []; name = []; source = []; columns = []; key = None; patterns = []; updatable = false }

-- the definition with the number
abbrev pub def_of : List TableDef → ℕ → TableDef
def_of [] n = no_table
def_of (d ∷ ds) n = if d.number == n then d else def_of ds n

abbrev pub is_defined : List TableDef → ℕ → Bool
is_defined [] n = false
is_defined (d ∷ ds) n = d.number == n || is_defined ds n

-- each number is below n
abbrev pub all_below : ℕ → List ℕ → Bool
all_below n [] = true
all_below n (x ∷ xs) = nat_lt x n && all_below n xs

abbrev pub all_required : List ColumnDef → List ℕ → Bool
all_required columns [] = true
all_required columns (at ∷ ats) = (slice_index_or columns at no_column).not_null && all_required columns ats

-- one column or more of the table
abbrev pub names_columns : List ColumnDef → List ℕ → Bool
names_columns columns ats = nat_lt 0 (length ats) && all_below (length columns) ats

abbrev pub is_fit_key : List ColumnDef → Option (List ℕ) → Bool
is_fit_key columns None = true
is_fit_key columns (Some ats) = names_columns columns ats && all_required columns ats

abbrev pub are_fit_patterns : List ColumnDef → List (List ℕ) → Bool
are_fit_patterns columns [] = true
are_fit_patterns columns (ats ∷ patterns) = names_columns columns ats && are_fit_patterns columns patterns

-- 1 to 256 columns, a source name of 1 to 64 bytes, a key of columns that are NOT NULL, and patterns of its own columns
abbrev pub is_fit : TableDef → Bool
is_fit d = nat_lt 0 (length d.columns) && nat_le (length d.columns) 256 && nat_lt 0 (length d.source) && nat_le (length d.source) 64
    && is_fit_key d.columns d.key && are_fit_patterns d.columns d.patterns

abbrev pub all_fit : List TableDef → Bool
all_fit [] = true
all_fit (d ∷ ds) = is_fit d && all_fit ds

abbrev pub are_numbered_apart : List TableDef → Bool
are_numbered_apart [] = true
are_numbered_apart (d ∷ ds) = not (is_defined ds d.number) && are_numbered_apart ds

-- two names are one
abbrev pub same_name : List ℕ → List ℕ → Bool
same_name a b = pointwise ◌==◌ a b

-- the source names are one in lower case
abbrev pub same_source : List ℕ → TableDef → Bool
same_source source d = same_name (str_to_ascii_lowercase source) (str_to_ascii_lowercase d.source)

abbrev pub are_named_apart : List TableDef → Bool
are_named_apart [] = true
are_named_apart (d ∷ ds) = not (list_any (same_source d.source) ds) && are_named_apart ds

-- definitions that a resource of these capabilities can take
abbrev pub are_fit : Caps → List TableDef → Bool
are_fit caps defs = all_fit defs && are_numbered_apart defs && (not caps.writes || are_named_apart defs)
