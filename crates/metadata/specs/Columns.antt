-- What stands between the commas of a foreign table: its columns, and its primary key.
use Rattle.std.specs.Prelude.{ℕ, ◌+◌, Bool, true, false, ◌&&◌, ◌||◌, ◌==◌, if◌then◌else◌, List, [], ◌∷◌, ◌++◌, length, Option, Some, None}
use Rattle.std.specs.List.{list_any}
use Rattle.std.specs.Str.{str_to_ascii_lowercase}
use Rattle.vdb_base.specs.declared.value.Ty.TheVariants.{Boolean}
use Rattle.vdb_model.specs.declared.reply.DeployFault.TheVariants.{Duplicate, Unknown}
use Rattle.vdb_model.specs.declared.table.ColumnDef.{ColumnDef}
use Rattle.vdb_model.specs.Defs.{same_name}
use Rattle.vdb_model.specs.NameText.{name_text}
use Rattle.sql_reader.specs.declared.tree.name.Name.{Name}
use Rattle.vdb_ddl.specs.declared.tree.Setting.{Setting}
use Rattle.vdb_ddl.specs.declared.tree.TablePart.{TablePart}
use Rattle.vdb_ddl.specs.declared.tree.TablePart.TheVariants.{Column, PrimaryKey}
use Rattle.metadata.specs.declared.options.Owner.TheVariants as owner
use Rattle.metadata.specs.Options.{refused_option, source_of}
use Rattle.metadata.specs.SoFar.{bad_name}
use Rattle.metadata.specs.Tests.{Test, fails_if, first}
use Rattle.metadata.specs.Types.{unknown_type, fractional_type, type_of}

-- how many columns there are
abbrev pub column_count : List TablePart → ℕ
column_count [] = 0
column_count (Column name ty not_null options ∷ parts) = column_count parts + 1
column_count (PrimaryKey columns ∷ parts) = column_count parts

-- a column has the name
abbrev pub has_column : List ℕ → List TablePart → Bool
has_column name [] = false
has_column name (Column own ty not_null options ∷ parts) = same_name own.text name || has_column name parts
has_column name (PrimaryKey columns ∷ parts) = has_column name parts

-- 33: the first of a key's columns that the table doesn't have
abbrev pub unknown_column : List TablePart → List Name → Test
unknown_column parts [] = None
unknown_column parts (column ∷ columns) = if has_column column.text parts then unknown_column parts columns else Some (Unknown (name_text column.text))

-- 33: a type or a key's column that isn't there
abbrev pub unknown_part : List TablePart → TablePart → Test
unknown_part all (Column name ty not_null options) = unknown_type ty
unknown_part all (PrimaryKey columns) = unknown_column all columns

abbrev pub unknown_in : List TablePart → List TablePart → Test
unknown_in all [] = None
unknown_in all (part ∷ parts) = first (unknown_part all part ∷ unknown_in all parts ∷ [])

-- 34: a type with fractions
abbrev pub fractional_part : TablePart → Test
fractional_part (Column name ty not_null options) = fractional_type ty
fractional_part (PrimaryKey columns) = None

abbrev pub fractional_in : List TablePart → Test
fractional_in [] = None
fractional_in (part ∷ parts) = first (fractional_part part ∷ fractional_in parts ∷ [])

-- 35: an option of a column that isn't taken
abbrev pub option_part : TablePart → Test
option_part (Column name ty not_null options) = refused_option owner.Column options
option_part (PrimaryKey columns) = None

abbrev pub option_in : List TablePart → Test
option_in [] = None
option_in (part ∷ parts) = first (option_part part ∷ option_in parts ∷ [])

-- 39: a name of a column
abbrev pub badly_named_part : TablePart → Test
badly_named_part (Column name ty not_null options) = bad_name name.text
badly_named_part (PrimaryKey columns) = None

abbrev pub badly_named_in : List TablePart → Test
badly_named_in [] = None
badly_named_in (part ∷ parts) = first (badly_named_part part ∷ badly_named_in parts ∷ [])

abbrev pub names : List ℕ → Name → Bool
names text name = same_name name.text text

-- a primary key has the column
abbrev pub is_in_key : List TablePart → List ℕ → Bool
is_in_key [] name = false
is_in_key (Column own ty not_null options ∷ parts) name = is_in_key parts name
is_in_key (PrimaryKey columns ∷ parts) name = list_any (names name) columns || is_in_key parts name

-- a column of the primary key is NOT NULL, also where that isn't written
abbrev pub columns_of : List TablePart → List TablePart → List ColumnDef
columns_of all [] = []
columns_of all (Column name ty not_null options ∷ parts) = record {
  name = name.text;
  source = source_of name.text options;
  ty = type_of ty;
  not_null = not_null || is_in_key all name.text;
} ∷ columns_of all parts
columns_of all (PrimaryKey columns ∷ parts) = columns_of all parts

-- the place of the column of the name, counted on from here
abbrev pub place_from : ℕ → List ColumnDef → List ℕ → ℕ
place_from n [] name = n
place_from n (column ∷ columns) name = if same_name column.name name then n else place_from (n + 1) columns name

abbrev pub places_of : List ColumnDef → List Name → List ℕ
places_of columns [] = []
places_of columns (name ∷ names) = place_from 0 columns name.text ∷ places_of columns names

-- the columns of the primary key by their places; one without columns is no key
abbrev pub key_of : List ColumnDef → List TablePart → Option (List ℕ)
key_of columns [] = None
key_of columns (Column name ty not_null options ∷ parts) = key_of columns parts
key_of columns (PrimaryKey names ∷ parts) = if length names == 0 then key_of columns parts else Some (places_of columns names)

-- source names are one in lower case
abbrev pub is_one_source : List ℕ → List ℕ → Bool
is_one_source a b = same_name (str_to_ascii_lowercase a) (str_to_ascii_lowercase b)

-- a column has the name, or the folded source name where these have to differ
abbrev pub takes_name : Bool → List ℕ → List ℕ → ColumnDef → Bool
takes_name apart name source column = same_name column.name name || (apart && is_one_source source column.source)

abbrev pub column_taken : Bool → List ColumnDef → ColumnDef → Test
column_taken apart before column = fails_if (list_any (takes_name apart column.name column.source) before) (Duplicate (name_text column.name))

-- a column with its names alone
abbrev pub named_column : Name → List Setting → ColumnDef
named_column name options = record { name = name.text; source = source_of name.text options; ty = Boolean; not_null = false }

abbrev pub second_key : List ℕ → Bool → Test
second_key table keyed = fails_if keyed (Duplicate table)

-- 32: a column whose name or source name one before has, or a primary key after another, by its table
abbrev pub taken_part : Bool → List ℕ → List ColumnDef → Bool → TablePart → Test
taken_part apart table before keyed (Column name ty not_null options) = column_taken apart before (named_column name options)
taken_part apart table before keyed (PrimaryKey columns) = second_key table keyed

abbrev pub before_with : List ColumnDef → TablePart → List ColumnDef
before_with before (Column name ty not_null options) = before ++ named_column name options ∷ []
before_with before (PrimaryKey columns) = before

abbrev pub keyed_with : Bool → TablePart → Bool
keyed_with keyed (Column name ty not_null options) = keyed
keyed_with keyed (PrimaryKey columns) = true

-- 32: in text order, over the columns before and whether a key stands before
abbrev pub taken_in : Bool → List ℕ → List ColumnDef → Bool → List TablePart → Test
taken_in apart table before keyed [] = None
taken_in apart table before keyed (part ∷ parts) = first (taken_part apart table before keyed part ∷ taken_in apart table (before_with before part) (keyed_with keyed part) parts ∷ [])
