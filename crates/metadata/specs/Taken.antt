-- The names of columns in sets.
use Rattle.std.specs.Prelude.{◌≡◌, ℕ, Bool, false, List}
use Rattle.std.specs.List.{list_any}
use Rattle.std.specs.Str.{str_to_ascii_lowercase}
use Rattle.vdb_model.specs.declared.table.ColumnDef.{ColumnDef}
use Rattle.vdb_model.specs.Defs.{same_name}
use Rattle.vdb_ddl.specs.declared.tree.TablePart.{TablePart}
use Rattle.vdb_ddl.specs.declared.tree.TablePart.TheVariants.{Column, PrimaryKey}
use Rattle.metadata.specs.declared.taken.Taken.{Taken}
use Rattle.metadata.specs.Columns.{has_column}
use Rattle.metadata.specs.Texts.{is_among}

abbrev pub has_name : List ℕ → ColumnDef → Bool
has_name name column = same_name column.name name

-- the column has the source name, which is in lower case
abbrev pub has_folded : List ℕ → ColumnDef → Bool
has_folded source column = same_name source (str_to_ascii_lowercase column.source)

-- the sets have the names of these columns, and their source names in lower case
pub record IsOf (taken : Taken) (columns : List ColumnDef) : Type 0 where
  pub names : (q : List ℕ) → is_among taken.names.texts.keys q ≡ list_any (has_name q) columns
  pub sources : (q : List ℕ) → is_among taken.sources.texts.keys q ≡ list_any (has_folded q) columns

abbrev pub is_column : List ℕ → TablePart → Bool
is_column name (Column own ty not_null options) = same_name own.text name
is_column name (PrimaryKey columns) = false

-- the texts are the names of the columns among these parts
abbrev pub HasColumns : List (List ℕ) → List TablePart → Type 0
HasColumns texts parts = (q : List ℕ) → is_among texts q ≡ has_column q parts
