-- The grammar of DDL items: what each symbol stands for, by its number, behind those of statements. It is written by
-- `tools/table.py`. Before each rule stands its production: a word in capitals is a token, a word with `!` an action,
-- and `^` is before what is one level deeper.
use Rattle.std.specs.Prelude.{true, false, [], ◌∷◌, ◌++◌}
use Rattle.grammar.specs.Table.{Rules, Token, Choice}
use Rattle.sql_reader.specs.Symbols as sql
use Rattle.sql_reader.specs.Table as statements
use Rattle.sql_reader.specs.Table.{same, deeper}
use Rattle.vdb_ddl.specs.Symbols as symbol

-- the tokens of items
abbrev pub words : Rules
words =
    -- CONSTRAINT
    Token (sql.CONSTRAINT_WORD ∷ []) ∷
    -- DATA
    Token (sql.DATA_WORD ∷ []) ∷
    -- DATABASE
    Token (sql.DATABASE_WORD ∷ []) ∷
    -- FOREIGN
    Token (sql.FOREIGN_WORD ∷ []) ∷
    -- KEY
    Token (sql.KEY_WORD ∷ []) ∷
    -- OPTIONS
    Token (sql.OPTIONS_WORD ∷ []) ∷
    -- PRIMARY
    Token (sql.PRIMARY_WORD ∷ []) ∷
    -- SCHEMA
    Token (sql.SCHEMA_WORD ∷ []) ∷
    -- SERVER
    Token (sql.SERVER_WORD ∷ []) ∷
    -- TABLE
    Token (sql.TABLE_WORD ∷ []) ∷
    -- TYPE
    Token (sql.TYPE_WORD ∷ []) ∷
    -- USE
    Token (sql.USE_WORD ∷ []) ∷
    -- VERSION
    Token (sql.VERSION_WORD ∷ []) ∷
    -- VIEW
    Token (sql.VIEW_WORD ∷ []) ∷
    -- VIRTUAL
    Token (sql.VIRTUAL_WORD ∷ []) ∷
    -- WRAPPER
    Token (sql.WRAPPER_WORD ∷ []) ∷
    -- LITERAL
    Token (sql.STRING ∷ sql.NUMERAL ∷ sql.TRUE ∷ sql.FALSE ∷ []) ∷
    []

-- the rules of items
abbrev pub items : Rules
items =
    -- ddl_item = CREATE created | USE DATABASE NAME name! version_part use_database! | SET SCHEMA NAME name! set_schema!
    Choice 1 true 1
    ((same sql.CREATE ∷ same symbol.CREATED_RULE ∷ [])
    ∷ (same symbol.USE ∷ same symbol.DATABASE ∷ same sql.NAME ∷ same sql.NAME_ACTION ∷ same symbol.VERSION_PART_RULE ∷ same symbol.USE_DATABASE_ACTION ∷ [])
    ∷ (same sql.SET ∷ same symbol.SCHEMA ∷ same sql.NAME ∷ same sql.NAME_ACTION ∷ same symbol.SET_SCHEMA_ACTION ∷ [])
    ∷ []) ∷
    -- created = DATABASE NAME name! version_part options_part create_database! | SERVER NAME name! type_part version_part FOREIGN DATA WRAPPER NAME name! options_part create_server! | SCHEMA NAME name! SERVER NAME name! options_part create_schema! | VIRTUAL SCHEMA NAME name! options_part create_virtual_schema! | FOREIGN TABLE NAME name! table_parts! ^OPEN ^table_part ^table_parts_rest ^CLOSE options_part create_table! | VIEW NAME name! view_end
    Choice 1 true 3
    ((same symbol.DATABASE ∷ same sql.NAME ∷ same sql.NAME_ACTION ∷ same symbol.VERSION_PART_RULE ∷ same symbol.OPTIONS_PART_RULE ∷ same symbol.CREATE_DATABASE_ACTION ∷ [])
    ∷ (same symbol.SERVER ∷ same sql.NAME ∷ same sql.NAME_ACTION ∷ same symbol.TYPE_PART_RULE ∷ same symbol.VERSION_PART_RULE ∷ same symbol.FOREIGN ∷ same symbol.DATA ∷ same symbol.WRAPPER ∷ same sql.NAME ∷ same sql.NAME_ACTION ∷ same symbol.OPTIONS_PART_RULE ∷ same symbol.CREATE_SERVER_ACTION ∷ [])
    ∷ (same symbol.SCHEMA ∷ same sql.NAME ∷ same sql.NAME_ACTION ∷ same symbol.SERVER ∷ same sql.NAME ∷ same sql.NAME_ACTION ∷ same symbol.OPTIONS_PART_RULE ∷ same symbol.CREATE_SCHEMA_ACTION ∷ [])
    ∷ (same symbol.VIRTUAL ∷ same symbol.SCHEMA ∷ same sql.NAME ∷ same sql.NAME_ACTION ∷ same symbol.OPTIONS_PART_RULE ∷ same symbol.CREATE_VIRTUAL_SCHEMA_ACTION ∷ [])
    ∷ (same symbol.FOREIGN ∷ same symbol.TABLE ∷ same sql.NAME ∷ same sql.NAME_ACTION ∷ same symbol.TABLE_PARTS_ACTION ∷ deeper sql.OPEN ∷ deeper symbol.TABLE_PART_RULE ∷ deeper symbol.TABLE_PARTS_REST_RULE ∷ deeper sql.CLOSE ∷ same symbol.OPTIONS_PART_RULE ∷ same symbol.CREATE_TABLE_ACTION ∷ [])
    ∷ (same symbol.VIEW ∷ same sql.NAME ∷ same sql.NAME_ACTION ∷ same symbol.VIEW_END_RULE ∷ [])
    ∷ []) ∷
    -- version_part = VERSION STRING | nothing
    Choice 1 false 1
    ((same symbol.VERSION ∷ same sql.STRING ∷ [])
    ∷ ([])
    ∷ []) ∷
    -- type_part = TYPE STRING | nothing
    Choice 1 false 1
    ((same symbol.TYPE ∷ same sql.STRING ∷ [])
    ∷ ([])
    ∷ []) ∷
    -- table_parts_rest = COMMA table_part table_parts_rest | nothing
    Choice 1 false 1
    ((same sql.COMMA ∷ same symbol.TABLE_PART_RULE ∷ same symbol.TABLE_PARTS_REST_RULE ∷ [])
    ∷ ([])
    ∷ []) ∷
    -- table_part = NAME name! type null_part | CONSTRAINT NAME primary_key | primary_key
    Choice 2 true 3
    ((same sql.NAME ∷ same sql.NAME_ACTION ∷ same symbol.TYPE_RULE ∷ same symbol.NULL_PART_RULE ∷ [])
    ∷ (same symbol.CONSTRAINT ∷ same sql.NAME ∷ same symbol.PRIMARY_KEY_RULE ∷ [])
    ∷ (same symbol.PRIMARY_KEY_RULE ∷ [])
    ∷ []) ∷
    -- null_part = NOT NULL options_part required_column! | options_part column!
    Choice 5 false 3
    ((same sql.NOT ∷ same sql.NULL ∷ same symbol.OPTIONS_PART_RULE ∷ same symbol.REQUIRED_COLUMN_ACTION ∷ [])
    ∷ (same symbol.OPTIONS_PART_RULE ∷ same symbol.COLUMN_ACTION ∷ [])
    ∷ []) ∷
    -- primary_key = PRIMARY KEY names! ^OPEN ^NAME ^name! ^add_name! ^names_rest ^CLOSE primary_key!
    Choice 1 true 2
    ((same symbol.PRIMARY ∷ same symbol.KEY ∷ same sql.NAMES_ACTION ∷ deeper sql.OPEN ∷ deeper sql.NAME ∷ deeper sql.NAME_ACTION ∷ deeper sql.ADD_NAME_ACTION ∷ deeper sql.NAMES_REST_RULE ∷ deeper sql.CLOSE ∷ same symbol.PRIMARY_KEY_ACTION ∷ [])
    ∷ []) ∷
    -- view_end = view_columns! ^OPEN ^view_column ^view_columns_rest ^CLOSE options_part AS set_only create_view_columns! | options_part AS set_only create_view!
    Choice 4 true 5
    ((same symbol.VIEW_COLUMNS_ACTION ∷ deeper sql.OPEN ∷ deeper symbol.VIEW_COLUMN_RULE ∷ deeper symbol.VIEW_COLUMNS_REST_RULE ∷ deeper sql.CLOSE ∷ same symbol.OPTIONS_PART_RULE ∷ same sql.AS ∷ same sql.SET_ONLY_RULE ∷ same symbol.CREATE_VIEW_COLUMNS_ACTION ∷ [])
    ∷ (same symbol.OPTIONS_PART_RULE ∷ same sql.AS ∷ same sql.SET_ONLY_RULE ∷ same symbol.CREATE_VIEW_ACTION ∷ [])
    ∷ []) ∷
    -- view_columns_rest = COMMA view_column view_columns_rest | nothing
    Choice 1 false 1
    ((same sql.COMMA ∷ same symbol.VIEW_COLUMN_RULE ∷ same symbol.VIEW_COLUMNS_REST_RULE ∷ [])
    ∷ ([])
    ∷ []) ∷
    -- view_column = NAME name! view_column_end
    Choice 1 true 4
    ((same sql.NAME ∷ same sql.NAME_ACTION ∷ same symbol.VIEW_COLUMN_END_RULE ∷ [])
    ∷ []) ∷
    -- view_column_end = type options_part typed_column! | options_part untyped_column!
    Choice 5 false 3
    ((same symbol.TYPE_RULE ∷ same symbol.OPTIONS_PART_RULE ∷ same symbol.TYPED_COLUMN_ACTION ∷ [])
    ∷ (same symbol.OPTIONS_PART_RULE ∷ same symbol.UNTYPED_COLUMN_ACTION ∷ [])
    ∷ []) ∷
    -- type = NAME name! type_end
    Choice 1 true 2
    ((same sql.NAME ∷ same sql.NAME_ACTION ∷ same symbol.TYPE_END_RULE ∷ [])
    ∷ []) ∷
    -- type_end = ^OPEN ^NUMERAL ^numerals_rest ^CLOSE | nothing
    Choice 1 false 1
    ((deeper sql.OPEN ∷ deeper sql.NUMERAL ∷ deeper symbol.NUMERALS_REST_RULE ∷ deeper sql.CLOSE ∷ [])
    ∷ ([])
    ∷ []) ∷
    -- numerals_rest = COMMA NUMERAL numerals_rest | nothing
    Choice 1 false 1
    ((same sql.COMMA ∷ same sql.NUMERAL ∷ same symbol.NUMERALS_REST_RULE ∷ [])
    ∷ ([])
    ∷ []) ∷
    -- options_part = options! options_end
    Choice 3 false 2
    ((same symbol.OPTIONS_ACTION ∷ same symbol.OPTIONS_END_RULE ∷ [])
    ∷ []) ∷
    -- options_end = OPTIONS ^OPEN ^setting ^settings_rest ^CLOSE | nothing
    Choice 1 false 1
    ((same symbol.OPTIONS ∷ deeper sql.OPEN ∷ deeper symbol.SETTING_RULE ∷ deeper symbol.SETTINGS_REST_RULE ∷ deeper sql.CLOSE ∷ [])
    ∷ ([])
    ∷ []) ∷
    -- setting = NAME name! LITERAL literal! setting!
    Choice 1 true 1
    ((same sql.NAME ∷ same sql.NAME_ACTION ∷ same symbol.LITERAL ∷ same sql.LITERAL_ACTION ∷ same symbol.SETTING_ACTION ∷ [])
    ∷ []) ∷
    -- settings_rest = COMMA setting settings_rest | nothing
    Choice 1 false 1
    ((same sql.COMMA ∷ same symbol.SETTING_RULE ∷ same symbol.SETTINGS_REST_RULE ∷ [])
    ∷ ([])
    ∷ []) ∷
    []

-- the grammar of items
abbrev pub table : Rules
table = (statements.table ++ words) ++ items
