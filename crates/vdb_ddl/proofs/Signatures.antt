-- What each action and symbol of items takes from the parts that wait and gives to them, the last one first.
use Rattle.std.specs.Prelude.{ℕ, List, [], ◌∷◌, ◌++◌, nat_lt, if◌then◌else◌}
use Rattle.grammar.proofs.Moves.{Signature, moves, none, nones}
use Rattle.sql_reader.specs.Build as sql
use Rattle.sql_reader.proofs.Signatures as statements
use Rattle.sql_reader.proofs.Signatures.{names, literals, queries, name_lists}
use Rattle.vdb_ddl.specs.declared.build.Action.{Action}
use Rattle.vdb_ddl.specs.declared.build.Action.TheVariants as action
use Rattle.vdb_ddl.specs.Build.{action_of}
use Rattle.vdb_ddl.specs.Symbols.{FIRST_DDL_ACTION}

-- the kinds of parts, behind those of statements

abbrev pub settings : ℕ
settings = 16

abbrev pub table_parts : ℕ
table_parts = 17

abbrev pub view_columns : ℕ
view_columns = 18

abbrev pub items : ℕ
items = 19

abbrev pub item_signature : Action → Signature
item_signature action.Nothing = none
item_signature action.Options = moves [] (settings ∷ [])
item_signature action.Setting = moves (literals ∷ names ∷ settings ∷ []) (settings ∷ [])
item_signature action.CreateDatabase = moves (settings ∷ names ∷ []) (items ∷ [])
item_signature action.UseDatabase = moves (names ∷ []) (items ∷ [])
item_signature action.CreateServer = moves (settings ∷ names ∷ names ∷ []) (items ∷ [])
item_signature action.CreateSchema = moves (settings ∷ names ∷ names ∷ []) (items ∷ [])
item_signature action.CreateVirtualSchema = moves (settings ∷ names ∷ []) (items ∷ [])
item_signature action.SetSchema = moves (names ∷ []) (items ∷ [])
item_signature action.TableParts = moves [] (table_parts ∷ [])
item_signature action.Column = moves (settings ∷ names ∷ names ∷ table_parts ∷ []) (table_parts ∷ [])
item_signature action.RequiredColumn = moves (settings ∷ names ∷ names ∷ table_parts ∷ []) (table_parts ∷ [])
item_signature action.PrimaryKey = moves (name_lists ∷ table_parts ∷ []) (table_parts ∷ [])
item_signature action.CreateTable = moves (settings ∷ table_parts ∷ names ∷ []) (items ∷ [])
item_signature action.ViewColumns = moves [] (view_columns ∷ [])
item_signature action.TypedColumn = moves (settings ∷ names ∷ names ∷ view_columns ∷ []) (view_columns ∷ [])
item_signature action.UntypedColumn = moves (settings ∷ names ∷ view_columns ∷ []) (view_columns ∷ [])
item_signature action.CreateView = moves (queries ∷ settings ∷ names ∷ []) (items ∷ [])
item_signature action.CreateViewColumns = moves (queries ∷ settings ∷ view_columns ∷ names ∷ []) (items ∷ [])

-- of an action by its number, of statements or of items
abbrev pub signature_of : ℕ → Signature
signature_of n = if nat_lt n FIRST_DDL_ACTION then statements.action_signature (sql.action_of n) else item_signature (action_of n)

-- of the symbols of statements, of the tokens of items, and of the rules in turn
abbrev pub signatures : List Signature
signatures = statements.signatures ++ nones 17 ++
    -- ddl_item
    moves [] (items ∷ []) ∷
    -- created
    moves [] (items ∷ []) ∷
    -- version_part
    moves [] [] ∷
    -- type_part
    moves [] [] ∷
    -- table_parts_rest
    moves (table_parts ∷ []) (table_parts ∷ []) ∷
    -- table_part
    moves (table_parts ∷ []) (table_parts ∷ []) ∷
    -- null_part
    moves (names ∷ names ∷ table_parts ∷ []) (table_parts ∷ []) ∷
    -- primary_key
    moves (table_parts ∷ []) (table_parts ∷ []) ∷
    -- view_end
    moves (names ∷ []) (items ∷ []) ∷
    -- view_columns_rest
    moves (view_columns ∷ []) (view_columns ∷ []) ∷
    -- view_column
    moves (view_columns ∷ []) (view_columns ∷ []) ∷
    -- view_column_end
    moves (names ∷ view_columns ∷ []) (view_columns ∷ []) ∷
    -- type
    moves [] (names ∷ []) ∷
    -- type_end
    moves [] [] ∷
    -- numerals_rest
    moves [] [] ∷
    -- options_part
    moves [] (settings ∷ []) ∷
    -- options_end
    moves (settings ∷ []) (settings ∷ []) ∷
    -- setting
    moves (settings ∷ []) (settings ∷ []) ∷
    -- settings_rest
    moves (settings ∷ []) (settings ∷ []) ∷
    []
