-- The grammar of statements: what each symbol stands for, by its number. It is written by `tools/table.py`.
-- Before each rule stands its production: a word in capitals is a token, a word with `!` an action; `^` is before what
-- is one level deeper, `1:` before the first element of a counted list, `+:` before the next, and `-X` is a guard against X.
use Rattle.std.specs.Prelude.{ℕ, true, false, List, [], ◌∷◌, ◌++◌}
use Rattle.grammar.specs.Table.{Rules, Token, Unless, Choice}
use Rattle.grammar.specs.declared.table.Item.{Item}
use Rattle.grammar.specs.declared.table.Place.TheVariants as place
use Rattle.sql_reader.specs.Symbols as symbol

-- as deep, in the same element of a counted list
abbrev pub same : ℕ → Item
same n = record { symbol = n; place = place.Same }

-- one level deeper
abbrev pub deeper : ℕ → Item
deeper n = record { symbol = n; place = place.Deeper }

-- in the first element of a counted list
abbrev pub first : ℕ → Item
first n = record { symbol = n; place = place.First }

-- in the next element
abbrev pub next : ℕ → Item
next n = record { symbol = n; place = place.Next }

-- the tokens, and the guards
abbrev pub tokens : Rules
tokens =
    -- ALL
    Token (symbol.ALL ∷ []) ∷
    -- AND
    Token (symbol.AND ∷ []) ∷
    -- AS
    Token (symbol.AS ∷ []) ∷
    -- ASC
    Token (symbol.ASC ∷ []) ∷
    -- BEGIN
    Token (symbol.BEGIN ∷ []) ∷
    -- BETWEEN
    Token (symbol.BETWEEN ∷ []) ∷
    -- BY
    Token (symbol.BY ∷ []) ∷
    -- CASE
    Token (symbol.CASE ∷ []) ∷
    -- COALESCE
    Token (symbol.COALESCE ∷ []) ∷
    -- COMMIT
    Token (symbol.COMMIT ∷ []) ∷
    -- COUNT
    Token (symbol.COUNT ∷ []) ∷
    -- CREATE
    Token (symbol.CREATE ∷ []) ∷
    -- CROSS
    Token (symbol.CROSS ∷ []) ∷
    -- DECLARE
    Token (symbol.DECLARE ∷ []) ∷
    -- DELETE
    Token (symbol.DELETE ∷ []) ∷
    -- DESC
    Token (symbol.DESC ∷ []) ∷
    -- DISTINCT
    Token (symbol.DISTINCT ∷ []) ∷
    -- ELSE
    Token (symbol.ELSE ∷ []) ∷
    -- END
    Token (symbol.END ∷ []) ∷
    -- EXEC
    Token (symbol.EXEC ∷ []) ∷
    -- EXPLAIN
    Token (symbol.EXPLAIN ∷ []) ∷
    -- FALSE
    Token (symbol.FALSE ∷ []) ∷
    -- FROM
    Token (symbol.FROM ∷ []) ∷
    -- GROUP
    Token (symbol.GROUP ∷ []) ∷
    -- HAVING
    Token (symbol.HAVING ∷ []) ∷
    -- IF
    Token (symbol.IF ∷ []) ∷
    -- IN
    Token (symbol.IN ∷ []) ∷
    -- INNER
    Token (symbol.INNER ∷ []) ∷
    -- INSERT
    Token (symbol.INSERT ∷ []) ∷
    -- INTO
    Token (symbol.INTO ∷ []) ∷
    -- IS
    Token (symbol.IS ∷ []) ∷
    -- JOIN
    Token (symbol.JOIN ∷ []) ∷
    -- LEFT
    Token (symbol.LEFT ∷ []) ∷
    -- LIKE
    Token (symbol.LIKE ∷ []) ∷
    -- LIMIT
    Token (symbol.LIMIT ∷ []) ∷
    -- LOOP
    Token (symbol.LOOP ∷ []) ∷
    -- MAX
    Token (symbol.MAX ∷ []) ∷
    -- MIN
    Token (symbol.MIN ∷ []) ∷
    -- NOT
    Token (symbol.NOT ∷ []) ∷
    -- NULL
    Token (symbol.NULL ∷ []) ∷
    -- OFFSET
    Token (symbol.OFFSET ∷ []) ∷
    -- ON
    Token (symbol.ON ∷ []) ∷
    -- OR
    Token (symbol.OR ∷ []) ∷
    -- ORDER
    Token (symbol.ORDER ∷ []) ∷
    -- OUTER
    Token (symbol.OUTER ∷ []) ∷
    -- RAISE
    Token (symbol.RAISE ∷ []) ∷
    -- ROLLBACK
    Token (symbol.ROLLBACK ∷ []) ∷
    -- SELECT
    Token (symbol.SELECT ∷ []) ∷
    -- SET
    Token (symbol.SET ∷ []) ∷
    -- START
    Token (symbol.START ∷ []) ∷
    -- SUM
    Token (symbol.SUM ∷ []) ∷
    -- THEN
    Token (symbol.THEN ∷ []) ∷
    -- TRUE
    Token (symbol.TRUE ∷ []) ∷
    -- UNION
    Token (symbol.UNION ∷ []) ∷
    -- UPDATE
    Token (symbol.UPDATE ∷ []) ∷
    -- VALUES
    Token (symbol.VALUES ∷ []) ∷
    -- WHEN
    Token (symbol.WHEN ∷ []) ∷
    -- WHERE
    Token (symbol.WHERE ∷ []) ∷
    -- WHILE
    Token (symbol.WHILE ∷ []) ∷
    -- TRANSACTION
    Token (symbol.TRANSACTION_WORD ∷ []) ∷
    -- NAME
    Token (symbol.NAME ∷ symbol.TRANSACTION_WORD ∷ symbol.ATOMIC_WORD ∷ symbol.SQLEXCEPTION_WORD ∷ symbol.ACCESSPATTERN_WORD ∷ symbol.CONSTRAINT_WORD ∷ symbol.DATA_WORD ∷ symbol.DATABASE_WORD ∷ symbol.EACH_WORD ∷ symbol.FOR_WORD ∷ symbol.FOREIGN_WORD ∷ symbol.INSTEAD_WORD ∷ symbol.KEY_WORD ∷ symbol.OF_WORD ∷ symbol.OPTIONS_WORD ∷ symbol.PRIMARY_WORD ∷ symbol.PROCEDURE_WORD ∷ symbol.RETURNS_WORD ∷ symbol.ROW_WORD ∷ symbol.SCHEMA_WORD ∷ symbol.SERVER_WORD ∷ symbol.TABLE_WORD ∷ symbol.TRIGGER_WORD ∷ symbol.TYPE_WORD ∷ symbol.USE_WORD ∷ symbol.VERSION_WORD ∷ symbol.VIEW_WORD ∷ symbol.VIRTUAL_WORD ∷ symbol.WRAPPER_WORD ∷ []) ∷
    -- NUMERAL
    Token (symbol.NUMERAL ∷ []) ∷
    -- FRACTION
    Token (symbol.FRACTION ∷ []) ∷
    -- STRING
    Token (symbol.STRING ∷ []) ∷
    -- OPEN
    Token (symbol.OPEN ∷ []) ∷
    -- CLOSE
    Token (symbol.CLOSE ∷ []) ∷
    -- COMMA
    Token (symbol.COMMA ∷ []) ∷
    -- DOT
    Token (symbol.DOT ∷ []) ∷
    -- SEMICOLON
    Token (symbol.SEMICOLON ∷ []) ∷
    -- EQUAL
    Token (symbol.EQUAL ∷ []) ∷
    -- NOT_EQUAL
    Token (symbol.NOT_EQUAL ∷ []) ∷
    -- LESS
    Token (symbol.LESS ∷ []) ∷
    -- AT_MOST
    Token (symbol.AT_MOST ∷ []) ∷
    -- GREATER
    Token (symbol.GREATER ∷ []) ∷
    -- AT_LEAST
    Token (symbol.AT_LEAST ∷ []) ∷
    -- PLUS
    Token (symbol.PLUS ∷ []) ∷
    -- MINUS
    Token (symbol.MINUS ∷ []) ∷
    -- TIMES
    Token (symbol.TIMES ∷ []) ∷
    -- BARS
    Token (symbol.BARS ∷ []) ∷
    -- CONSTANT
    Token (symbol.NUMERAL ∷ symbol.FRACTION ∷ symbol.STRING ∷ symbol.TRUE ∷ symbol.FALSE ∷ symbol.NULL ∷ []) ∷
    -- -NAME
    Unless (symbol.NAME ∷ symbol.TRANSACTION_WORD ∷ symbol.ATOMIC_WORD ∷ symbol.SQLEXCEPTION_WORD ∷ symbol.ACCESSPATTERN_WORD ∷ symbol.CONSTRAINT_WORD ∷ symbol.DATA_WORD ∷ symbol.DATABASE_WORD ∷ symbol.EACH_WORD ∷ symbol.FOR_WORD ∷ symbol.FOREIGN_WORD ∷ symbol.INSTEAD_WORD ∷ symbol.KEY_WORD ∷ symbol.OF_WORD ∷ symbol.OPTIONS_WORD ∷ symbol.PRIMARY_WORD ∷ symbol.PROCEDURE_WORD ∷ symbol.RETURNS_WORD ∷ symbol.ROW_WORD ∷ symbol.SCHEMA_WORD ∷ symbol.SERVER_WORD ∷ symbol.TABLE_WORD ∷ symbol.TRIGGER_WORD ∷ symbol.TYPE_WORD ∷ symbol.USE_WORD ∷ symbol.VERSION_WORD ∷ symbol.VIEW_WORD ∷ symbol.VIRTUAL_WORD ∷ symbol.WRAPPER_WORD ∷ []) ∷
    -- -NUMERAL
    Unless (symbol.NUMERAL ∷ []) ∷
    []

-- the rules of queries
abbrev pub queries : Rules
queries =
    -- set_only = set_query query!
    Choice 3 true 4
    ((same symbol.SET_QUERY_RULE ∷ same symbol.QUERY_ACTION ∷ [])
    ∷ []) ∷
    -- query = set_query query! order_part limit_part offset_part
    Choice 3 true 4
    ((same symbol.SET_QUERY_RULE ∷ same symbol.QUERY_ACTION ∷ same symbol.ORDER_PART_RULE ∷ same symbol.LIMIT_PART_RULE ∷ same symbol.OFFSET_PART_RULE ∷ [])
    ∷ []) ∷
    -- order_part = ORDER BY key keys_rest | nothing
    Choice 1 false 1
    ((same symbol.ORDER ∷ same symbol.BY ∷ same symbol.KEY_RULE ∷ same symbol.KEYS_REST_RULE ∷ [])
    ∷ ([])
    ∷ []) ∷
    -- keys_rest = COMMA key keys_rest | nothing
    Choice 1 false 1
    ((same symbol.COMMA ∷ same symbol.KEY_RULE ∷ same symbol.KEYS_REST_RULE ∷ [])
    ∷ ([])
    ∷ []) ∷
    -- key = NAME name! name_direction | NUMERAL literal! number_direction
    Choice 1 true 2
    ((same symbol.NAME ∷ same symbol.NAME_ACTION ∷ same symbol.NAME_DIRECTION_RULE ∷ [])
    ∷ (same symbol.NUMERAL ∷ same symbol.LITERAL_ACTION ∷ same symbol.NUMBER_DIRECTION_RULE ∷ [])
    ∷ []) ∷
    -- name_direction = key_name! | ASC key_name! | DESC key_name_down!
    Choice 2 false 1
    ((same symbol.KEY_NAME_ACTION ∷ [])
    ∷ (same symbol.ASC ∷ same symbol.KEY_NAME_ACTION ∷ [])
    ∷ (same symbol.DESC ∷ same symbol.KEY_NAME_DOWN_ACTION ∷ [])
    ∷ []) ∷
    -- number_direction = key_number! | ASC key_number! | DESC key_number_down!
    Choice 2 false 1
    ((same symbol.KEY_NUMBER_ACTION ∷ [])
    ∷ (same symbol.ASC ∷ same symbol.KEY_NUMBER_ACTION ∷ [])
    ∷ (same symbol.DESC ∷ same symbol.KEY_NUMBER_DOWN_ACTION ∷ [])
    ∷ []) ∷
    -- limit_part = LIMIT NUMERAL literal! limit! | nothing
    Choice 1 false 1
    ((same symbol.LIMIT ∷ same symbol.NUMERAL ∷ same symbol.LITERAL_ACTION ∷ same symbol.LIMIT_ACTION ∷ [])
    ∷ ([])
    ∷ []) ∷
    -- offset_part = OFFSET NUMERAL literal! offset! | nothing
    Choice 1 false 1
    ((same symbol.OFFSET ∷ same symbol.NUMERAL ∷ same symbol.LITERAL_ACTION ∷ same symbol.OFFSET_ACTION ∷ [])
    ∷ ([])
    ∷ []) ∷
    -- set_query = 1:select selects! 1:unions
    Choice 2 true 3
    ((first symbol.SELECT_RULE ∷ same symbol.SELECTS_ACTION ∷ first symbol.UNIONS_RULE ∷ [])
    ∷ []) ∷
    -- unions = UNION union_end | nothing
    Choice 1 false 1
    ((same symbol.UNION ∷ same symbol.UNION_END_RULE ∷ [])
    ∷ ([])
    ∷ []) ∷
    -- union_end = +:select union! +:unions | ALL +:select union_all! +:unions
    Choice 2 true 3
    ((next symbol.SELECT_RULE ∷ same symbol.UNION_ACTION ∷ next symbol.UNIONS_RULE ∷ [])
    ∷ (same symbol.ALL ∷ next symbol.SELECT_RULE ∷ same symbol.UNION_ALL_ACTION ∷ next symbol.UNIONS_RULE ∷ [])
    ∷ []) ∷
    -- select = SELECT select! distinct_part items from_part where_part group_part having_part
    Choice 1 true 2
    ((same symbol.SELECT ∷ same symbol.SELECT_ACTION ∷ same symbol.DISTINCT_PART_RULE ∷ same symbol.ITEMS_RULE ∷ same symbol.FROM_PART_RULE ∷ same symbol.WHERE_PART_RULE ∷ same symbol.GROUP_PART_RULE ∷ same symbol.HAVING_PART_RULE ∷ [])
    ∷ []) ∷
    -- distinct_part = DISTINCT distinct! | nothing
    Choice 1 false 1
    ((same symbol.DISTINCT ∷ same symbol.DISTINCT_ACTION ∷ [])
    ∷ ([])
    ∷ []) ∷
    -- items = TIMES all! | item items_rest
    Choice 13 true 1
    ((same symbol.TIMES ∷ same symbol.ALL_ACTION ∷ [])
    ∷ (same symbol.ITEM_RULE ∷ same symbol.ITEMS_REST_RULE ∷ [])
    ∷ []) ∷
    -- items_rest = COMMA item items_rest | nothing
    Choice 1 false 1
    ((same symbol.COMMA ∷ same symbol.ITEM_RULE ∷ same symbol.ITEMS_REST_RULE ∷ [])
    ∷ ([])
    ∷ []) ∷
    -- item = NAME name! name_item | -NAME e item_end
    Choice 12 true 3
    ((same symbol.NAME ∷ same symbol.NAME_ACTION ∷ same symbol.NAME_ITEM_RULE ∷ [])
    ∷ (same symbol.NO_NAME ∷ same symbol.E_RULE ∷ same symbol.ITEM_END_RULE ∷ [])
    ∷ []) ∷
    -- name_item = DOT dot_item | plain! operand! after_operand item_end
    Choice 22 false 2
    ((same symbol.DOT ∷ same symbol.DOT_ITEM_RULE ∷ [])
    ∷ (same symbol.PLAIN_ACTION ∷ same symbol.OPERAND_ACTION ∷ same symbol.AFTER_OPERAND_RULE ∷ same symbol.ITEM_END_RULE ∷ [])
    ∷ []) ∷
    -- dot_item = TIMES all_of! | NAME name! column_last operand! after_operand item_end
    Choice 1 true 1
    ((same symbol.TIMES ∷ same symbol.ALL_OF_ACTION ∷ [])
    ∷ (same symbol.NAME ∷ same symbol.NAME_ACTION ∷ same symbol.COLUMN_LAST_RULE ∷ same symbol.OPERAND_ACTION ∷ same symbol.AFTER_OPERAND_RULE ∷ same symbol.ITEM_END_RULE ∷ [])
    ∷ []) ∷
    -- item_end = AS NAME name! item_as! | NAME name! item_as! | item!
    Choice 2 false 1
    ((same symbol.AS ∷ same symbol.NAME ∷ same symbol.NAME_ACTION ∷ same symbol.ITEM_AS_ACTION ∷ [])
    ∷ (same symbol.NAME ∷ same symbol.NAME_ACTION ∷ same symbol.ITEM_AS_ACTION ∷ [])
    ∷ (same symbol.ITEM_ACTION ∷ [])
    ∷ []) ∷
    -- from_part = FROM 1:table 1:from_rest | nothing
    Choice 1 false 1
    ((same symbol.FROM ∷ first symbol.TABLE_RULE ∷ first symbol.FROM_REST_RULE ∷ [])
    ∷ ([])
    ∷ []) ∷
    -- from_rest = COMMA from! +:table +:from_rest | inner_join +:table ON e inner! +:from_rest | left_join +:table ON e left! +:from_rest | CROSS JOIN +:table cross! +:from_rest | from!
    Choice 2 false 1
    ((same symbol.COMMA ∷ same symbol.FROM_ACTION ∷ next symbol.TABLE_RULE ∷ next symbol.FROM_REST_RULE ∷ [])
    ∷ (same symbol.INNER_JOIN_RULE ∷ next symbol.TABLE_RULE ∷ same symbol.ON ∷ same symbol.E_RULE ∷ same symbol.INNER_ACTION ∷ next symbol.FROM_REST_RULE ∷ [])
    ∷ (same symbol.LEFT_JOIN_RULE ∷ next symbol.TABLE_RULE ∷ same symbol.ON ∷ same symbol.E_RULE ∷ same symbol.LEFT_ACTION ∷ next symbol.FROM_REST_RULE ∷ [])
    ∷ (same symbol.CROSS ∷ same symbol.JOIN ∷ next symbol.TABLE_RULE ∷ same symbol.CROSS_ACTION ∷ next symbol.FROM_REST_RULE ∷ [])
    ∷ (same symbol.FROM_ACTION ∷ [])
    ∷ []) ∷
    -- inner_join = JOIN | INNER JOIN
    Choice 1 true 1
    ((same symbol.JOIN ∷ [])
    ∷ (same symbol.INNER ∷ same symbol.JOIN ∷ [])
    ∷ []) ∷
    -- left_join = LEFT outer_part JOIN
    Choice 1 true 2
    ((same symbol.LEFT ∷ same symbol.OUTER_PART_RULE ∷ same symbol.JOIN ∷ [])
    ∷ []) ∷
    -- outer_part = OUTER | nothing
    Choice 1 false 1
    ((same symbol.OUTER ∷ [])
    ∷ ([])
    ∷ []) ∷
    -- table = relation table_end | ^OPEN ^set_query ^CLOSE optional_as NAME name! derived!
    Choice 2 true 3
    ((same symbol.RELATION_RULE ∷ same symbol.TABLE_END_RULE ∷ [])
    ∷ (deeper symbol.OPEN ∷ deeper symbol.SET_QUERY_RULE ∷ deeper symbol.CLOSE ∷ same symbol.OPTIONAL_AS_RULE ∷ same symbol.NAME ∷ same symbol.NAME_ACTION ∷ same symbol.DERIVED_ACTION ∷ [])
    ∷ []) ∷
    -- table_end = AS NAME name! table_as! | NAME name! table_as! | table!
    Choice 2 false 1
    ((same symbol.AS ∷ same symbol.NAME ∷ same symbol.NAME_ACTION ∷ same symbol.TABLE_AS_ACTION ∷ [])
    ∷ (same symbol.NAME ∷ same symbol.NAME_ACTION ∷ same symbol.TABLE_AS_ACTION ∷ [])
    ∷ (same symbol.TABLE_ACTION ∷ [])
    ∷ []) ∷
    -- optional_as = AS | nothing
    Choice 1 false 1
    ((same symbol.AS ∷ [])
    ∷ ([])
    ∷ []) ∷
    -- relation = NAME name! relation_end
    Choice 1 true 2
    ((same symbol.NAME ∷ same symbol.NAME_ACTION ∷ same symbol.RELATION_END_RULE ∷ [])
    ∷ []) ∷
    -- relation_end = DOT NAME name! relation_of! | relation!
    Choice 2 false 1
    ((same symbol.DOT ∷ same symbol.NAME ∷ same symbol.NAME_ACTION ∷ same symbol.RELATION_OF_ACTION ∷ [])
    ∷ (same symbol.RELATION_ACTION ∷ [])
    ∷ []) ∷
    -- where_part = WHERE e where! | nothing
    Choice 1 false 1
    ((same symbol.WHERE ∷ same symbol.E_RULE ∷ same symbol.WHERE_ACTION ∷ [])
    ∷ ([])
    ∷ []) ∷
    -- group_part = GROUP BY column group_key! group_rest | nothing
    Choice 1 false 1
    ((same symbol.GROUP ∷ same symbol.BY ∷ same symbol.COLUMN_RULE ∷ same symbol.GROUP_KEY_ACTION ∷ same symbol.GROUP_REST_RULE ∷ [])
    ∷ ([])
    ∷ []) ∷
    -- group_rest = COMMA column group_key! group_rest | nothing
    Choice 1 false 1
    ((same symbol.COMMA ∷ same symbol.COLUMN_RULE ∷ same symbol.GROUP_KEY_ACTION ∷ same symbol.GROUP_REST_RULE ∷ [])
    ∷ ([])
    ∷ []) ∷
    -- having_part = HAVING e having! | nothing
    Choice 1 false 1
    ((same symbol.HAVING ∷ same symbol.E_RULE ∷ same symbol.HAVING_ACTION ∷ [])
    ∷ ([])
    ∷ []) ∷
    -- column = NAME name! column_end
    Choice 1 true 2
    ((same symbol.NAME ∷ same symbol.NAME_ACTION ∷ same symbol.COLUMN_END_RULE ∷ [])
    ∷ []) ∷
    -- column_end = DOT NAME name! column_last | plain!
    Choice 2 false 1
    ((same symbol.DOT ∷ same symbol.NAME ∷ same symbol.NAME_ACTION ∷ same symbol.COLUMN_LAST_RULE ∷ [])
    ∷ (same symbol.PLAIN_ACTION ∷ [])
    ∷ []) ∷
    -- column_last = DOT NAME name! in_schema! | of!
    Choice 2 false 1
    ((same symbol.DOT ∷ same symbol.NAME ∷ same symbol.NAME_ACTION ∷ same symbol.IN_SCHEMA_ACTION ∷ [])
    ∷ (same symbol.OF_ACTION ∷ [])
    ∷ []) ∷
    []

-- the rules of statements
abbrev pub statements : Rules
statements =
    -- statement = query run! | EXPLAIN query explain! | insert | update | delete | exec | START TRANSACTION start! | COMMIT commit! | ROLLBACK rollback!
    Choice 4 true 1
    ((same symbol.QUERY_RULE ∷ same symbol.RUN_ACTION ∷ [])
    ∷ (same symbol.EXPLAIN ∷ same symbol.QUERY_RULE ∷ same symbol.EXPLAIN_ACTION ∷ [])
    ∷ (same symbol.INSERT_RULE ∷ [])
    ∷ (same symbol.UPDATE_RULE ∷ [])
    ∷ (same symbol.DELETE_RULE ∷ [])
    ∷ (same symbol.EXEC_RULE ∷ [])
    ∷ (same symbol.START ∷ same symbol.TRANSACTION ∷ same symbol.START_ACTION ∷ [])
    ∷ (same symbol.COMMIT ∷ same symbol.COMMIT_ACTION ∷ [])
    ∷ (same symbol.ROLLBACK ∷ same symbol.ROLLBACK_ACTION ∷ [])
    ∷ []) ∷
    -- insert = INSERT INTO relation names! columns_part insert_source
    Choice 1 true 5
    ((same symbol.INSERT ∷ same symbol.INTO ∷ same symbol.RELATION_RULE ∷ same symbol.NAMES_ACTION ∷ same symbol.COLUMNS_PART_RULE ∷ same symbol.INSERT_SOURCE_RULE ∷ [])
    ∷ []) ∷
    -- columns_part = ^OPEN ^NAME ^name! ^add_name! ^names_rest ^CLOSE | nothing
    Choice 1 false 1
    ((deeper symbol.OPEN ∷ deeper symbol.NAME ∷ deeper symbol.NAME_ACTION ∷ deeper symbol.ADD_NAME_ACTION ∷ deeper symbol.NAMES_REST_RULE ∷ deeper symbol.CLOSE ∷ [])
    ∷ ([])
    ∷ []) ∷
    -- names_rest = COMMA NAME name! add_name! names_rest | nothing
    Choice 1 false 1
    ((same symbol.COMMA ∷ same symbol.NAME ∷ same symbol.NAME_ACTION ∷ same symbol.ADD_NAME_ACTION ∷ same symbol.NAMES_REST_RULE ∷ [])
    ∷ ([])
    ∷ []) ∷
    -- insert_source = VALUES ^OPEN ^list ^CLOSE insert_values! | set_query insert_query!
    Choice 3 true 4
    ((same symbol.VALUES ∷ deeper symbol.OPEN ∷ deeper symbol.LIST_RULE ∷ deeper symbol.CLOSE ∷ same symbol.INSERT_VALUES_ACTION ∷ [])
    ∷ (same symbol.SET_QUERY_RULE ∷ same symbol.INSERT_QUERY_ACTION ∷ [])
    ∷ []) ∷
    -- update = UPDATE relation SET assignments! assignment assignments_rest update_end
    Choice 1 true 11
    ((same symbol.UPDATE ∷ same symbol.RELATION_RULE ∷ same symbol.SET ∷ same symbol.ASSIGNMENTS_ACTION ∷ same symbol.ASSIGNMENT_RULE ∷ same symbol.ASSIGNMENTS_REST_RULE ∷ same symbol.UPDATE_END_RULE ∷ [])
    ∷ []) ∷
    -- assignment = NAME name! EQUAL e assign!
    Choice 1 true 10
    ((same symbol.NAME ∷ same symbol.NAME_ACTION ∷ same symbol.EQUAL ∷ same symbol.E_RULE ∷ same symbol.ASSIGN_ACTION ∷ [])
    ∷ []) ∷
    -- assignments_rest = COMMA assignment assignments_rest | nothing
    Choice 1 false 1
    ((same symbol.COMMA ∷ same symbol.ASSIGNMENT_RULE ∷ same symbol.ASSIGNMENTS_REST_RULE ∷ [])
    ∷ ([])
    ∷ []) ∷
    -- update_end = WHERE e update_where! | update!
    Choice 2 false 1
    ((same symbol.WHERE ∷ same symbol.E_RULE ∷ same symbol.UPDATE_WHERE_ACTION ∷ [])
    ∷ (same symbol.UPDATE_ACTION ∷ [])
    ∷ []) ∷
    -- delete = DELETE FROM relation delete_end
    Choice 1 true 3
    ((same symbol.DELETE ∷ same symbol.FROM ∷ same symbol.RELATION_RULE ∷ same symbol.DELETE_END_RULE ∷ [])
    ∷ []) ∷
    -- delete_end = WHERE e delete_where! | delete!
    Choice 2 false 1
    ((same symbol.WHERE ∷ same symbol.E_RULE ∷ same symbol.DELETE_WHERE_ACTION ∷ [])
    ∷ (same symbol.DELETE_ACTION ∷ [])
    ∷ []) ∷
    -- exec = EXEC relation ^OPEN ^arguments ^CLOSE exec!
    Choice 1 true 3
    ((same symbol.EXEC ∷ same symbol.RELATION_RULE ∷ deeper symbol.OPEN ∷ deeper symbol.ARGUMENTS_RULE ∷ deeper symbol.CLOSE ∷ same symbol.EXEC_ACTION ∷ [])
    ∷ []) ∷
    -- arguments = list | list!
    Choice 13 false 1
    ((same symbol.LIST_RULE ∷ [])
    ∷ (same symbol.LIST_ACTION ∷ [])
    ∷ []) ∷
    []

-- the rules of expressions
abbrev pub expressions : Rules
expressions =
    -- list = list! e add! list_rest
    Choice 12 true 10
    ((same symbol.LIST_ACTION ∷ same symbol.E_RULE ∷ same symbol.ADD_ACTION ∷ same symbol.LIST_REST_RULE ∷ [])
    ∷ []) ∷
    -- list_rest = COMMA e add! list_rest | nothing
    Choice 1 false 1
    ((same symbol.COMMA ∷ same symbol.E_RULE ∷ same symbol.ADD_ACTION ∷ same symbol.LIST_REST_RULE ∷ [])
    ∷ ([])
    ∷ []) ∷
    -- e = conjunction or_tail
    Choice 10 true 9
    ((same symbol.CONJUNCTION_RULE ∷ same symbol.OR_TAIL_RULE ∷ [])
    ∷ []) ∷
    -- or_tail = links! or_link chain! | nothing
    Choice 3 false 1
    ((same symbol.LINKS_ACTION ∷ same symbol.OR_LINK_RULE ∷ same symbol.CHAIN_ACTION ∷ [])
    ∷ ([])
    ∷ []) ∷
    -- or_link = OR place! conjunction or! or_rest
    Choice 1 true 9
    ((same symbol.OR ∷ same symbol.PLACE_ACTION ∷ same symbol.CONJUNCTION_RULE ∷ same symbol.OR_ACTION ∷ same symbol.OR_REST_RULE ∷ [])
    ∷ []) ∷
    -- or_rest = or_link | nothing
    Choice 2 false 1
    ((same symbol.OR_LINK_RULE ∷ [])
    ∷ ([])
    ∷ []) ∷
    -- conjunction = negation and_tail
    Choice 9 true 8
    ((same symbol.NEGATION_RULE ∷ same symbol.AND_TAIL_RULE ∷ [])
    ∷ []) ∷
    -- and_tail = links! and_link chain! | nothing
    Choice 3 false 1
    ((same symbol.LINKS_ACTION ∷ same symbol.AND_LINK_RULE ∷ same symbol.CHAIN_ACTION ∷ [])
    ∷ ([])
    ∷ []) ∷
    -- and_link = AND place! negation and! and_rest
    Choice 1 true 8
    ((same symbol.AND ∷ same symbol.PLACE_ACTION ∷ same symbol.NEGATION_RULE ∷ same symbol.AND_ACTION ∷ same symbol.AND_REST_RULE ∷ [])
    ∷ []) ∷
    -- and_rest = and_link | nothing
    Choice 2 false 1
    ((same symbol.AND_LINK_RULE ∷ [])
    ∷ ([])
    ∷ []) ∷
    -- negation = ^NOT ^place! ^negation not! | predicate
    Choice 8 true 7
    ((deeper symbol.NOT ∷ deeper symbol.PLACE_ACTION ∷ deeper symbol.NEGATION_RULE ∷ same symbol.NOT_ACTION ∷ [])
    ∷ (same symbol.PREDICATE_RULE ∷ [])
    ∷ []) ∷
    -- predicate = concat predicate_end
    Choice 7 true 6
    ((same symbol.CONCAT_RULE ∷ same symbol.PREDICATE_END_RULE ∷ [])
    ∷ []) ∷
    -- predicate_end = EQUAL place! concat equal! | NOT_EQUAL place! concat not_equal! | LESS place! concat less! | AT_MOST place! concat at_most! | GREATER place! concat greater! | AT_LEAST place! concat at_least! | IS is_end | IN place! ^OPEN ^list ^CLOSE in! | LIKE place! STRING literal! like! | BETWEEN place! concat AND concat between! | NOT not_end | nothing
    Choice 1 false 1
    ((same symbol.EQUAL ∷ same symbol.PLACE_ACTION ∷ same symbol.CONCAT_RULE ∷ same symbol.EQUAL_ACTION ∷ [])
    ∷ (same symbol.NOT_EQUAL ∷ same symbol.PLACE_ACTION ∷ same symbol.CONCAT_RULE ∷ same symbol.NOT_EQUAL_ACTION ∷ [])
    ∷ (same symbol.LESS ∷ same symbol.PLACE_ACTION ∷ same symbol.CONCAT_RULE ∷ same symbol.LESS_ACTION ∷ [])
    ∷ (same symbol.AT_MOST ∷ same symbol.PLACE_ACTION ∷ same symbol.CONCAT_RULE ∷ same symbol.AT_MOST_ACTION ∷ [])
    ∷ (same symbol.GREATER ∷ same symbol.PLACE_ACTION ∷ same symbol.CONCAT_RULE ∷ same symbol.GREATER_ACTION ∷ [])
    ∷ (same symbol.AT_LEAST ∷ same symbol.PLACE_ACTION ∷ same symbol.CONCAT_RULE ∷ same symbol.AT_LEAST_ACTION ∷ [])
    ∷ (same symbol.IS ∷ same symbol.IS_END_RULE ∷ [])
    ∷ (same symbol.IN ∷ same symbol.PLACE_ACTION ∷ deeper symbol.OPEN ∷ deeper symbol.LIST_RULE ∷ deeper symbol.CLOSE ∷ same symbol.IN_ACTION ∷ [])
    ∷ (same symbol.LIKE ∷ same symbol.PLACE_ACTION ∷ same symbol.STRING ∷ same symbol.LITERAL_ACTION ∷ same symbol.LIKE_ACTION ∷ [])
    ∷ (same symbol.BETWEEN ∷ same symbol.PLACE_ACTION ∷ same symbol.CONCAT_RULE ∷ same symbol.AND ∷ same symbol.CONCAT_RULE ∷ same symbol.BETWEEN_ACTION ∷ [])
    ∷ (same symbol.NOT ∷ same symbol.NOT_END_RULE ∷ [])
    ∷ ([])
    ∷ []) ∷
    -- is_end = NULL is_null! | NOT NULL is_not_null!
    Choice 1 true 1
    ((same symbol.NULL ∷ same symbol.IS_NULL_ACTION ∷ [])
    ∷ (same symbol.NOT ∷ same symbol.NULL ∷ same symbol.IS_NOT_NULL_ACTION ∷ [])
    ∷ []) ∷
    -- not_end = IN place! ^OPEN ^list ^CLOSE not_in! | LIKE place! STRING literal! not_like! | BETWEEN place! concat AND concat not_between!
    Choice 1 true 1
    ((same symbol.IN ∷ same symbol.PLACE_ACTION ∷ deeper symbol.OPEN ∷ deeper symbol.LIST_RULE ∷ deeper symbol.CLOSE ∷ same symbol.NOT_IN_ACTION ∷ [])
    ∷ (same symbol.LIKE ∷ same symbol.PLACE_ACTION ∷ same symbol.STRING ∷ same symbol.LITERAL_ACTION ∷ same symbol.NOT_LIKE_ACTION ∷ [])
    ∷ (same symbol.BETWEEN ∷ same symbol.PLACE_ACTION ∷ same symbol.CONCAT_RULE ∷ same symbol.AND ∷ same symbol.CONCAT_RULE ∷ same symbol.NOT_BETWEEN_ACTION ∷ [])
    ∷ []) ∷
    -- concat = sum concat_tail
    Choice 6 true 5
    ((same symbol.SUM_RULE ∷ same symbol.CONCAT_TAIL_RULE ∷ [])
    ∷ []) ∷
    -- concat_tail = links! concat_link chain! | nothing
    Choice 3 false 1
    ((same symbol.LINKS_ACTION ∷ same symbol.CONCAT_LINK_RULE ∷ same symbol.CHAIN_ACTION ∷ [])
    ∷ ([])
    ∷ []) ∷
    -- concat_link = BARS place! sum concat! concat_rest
    Choice 1 true 5
    ((same symbol.BARS ∷ same symbol.PLACE_ACTION ∷ same symbol.SUM_RULE ∷ same symbol.CONCAT_ACTION ∷ same symbol.CONCAT_REST_RULE ∷ [])
    ∷ []) ∷
    -- concat_rest = concat_link | nothing
    Choice 2 false 1
    ((same symbol.CONCAT_LINK_RULE ∷ [])
    ∷ ([])
    ∷ []) ∷
    -- sum = product sum_tail
    Choice 5 true 4
    ((same symbol.PRODUCT_RULE ∷ same symbol.SUM_TAIL_RULE ∷ [])
    ∷ []) ∷
    -- sum_tail = links! sum_link chain! | nothing
    Choice 3 false 1
    ((same symbol.LINKS_ACTION ∷ same symbol.SUM_LINK_RULE ∷ same symbol.CHAIN_ACTION ∷ [])
    ∷ ([])
    ∷ []) ∷
    -- sum_link = PLUS place! product plus! sum_rest | MINUS place! product minus! sum_rest
    Choice 1 true 4
    ((same symbol.PLUS ∷ same symbol.PLACE_ACTION ∷ same symbol.PRODUCT_RULE ∷ same symbol.PLUS_ACTION ∷ same symbol.SUM_REST_RULE ∷ [])
    ∷ (same symbol.MINUS ∷ same symbol.PLACE_ACTION ∷ same symbol.PRODUCT_RULE ∷ same symbol.MINUS_ACTION ∷ same symbol.SUM_REST_RULE ∷ [])
    ∷ []) ∷
    -- sum_rest = sum_link | nothing
    Choice 2 false 1
    ((same symbol.SUM_LINK_RULE ∷ [])
    ∷ ([])
    ∷ []) ∷
    -- product = unary product_tail
    Choice 4 true 3
    ((same symbol.UNARY_RULE ∷ same symbol.PRODUCT_TAIL_RULE ∷ [])
    ∷ []) ∷
    -- product_tail = links! product_link chain! | nothing
    Choice 3 false 1
    ((same symbol.LINKS_ACTION ∷ same symbol.PRODUCT_LINK_RULE ∷ same symbol.CHAIN_ACTION ∷ [])
    ∷ ([])
    ∷ []) ∷
    -- product_link = TIMES place! unary times! product_rest
    Choice 1 true 3
    ((same symbol.TIMES ∷ same symbol.PLACE_ACTION ∷ same symbol.UNARY_RULE ∷ same symbol.TIMES_ACTION ∷ same symbol.PRODUCT_REST_RULE ∷ [])
    ∷ []) ∷
    -- product_rest = product_link | nothing
    Choice 2 false 1
    ((same symbol.PRODUCT_LINK_RULE ∷ [])
    ∷ ([])
    ∷ []) ∷
    -- unary = MINUS minus_end | atom
    Choice 3 true 2
    ((same symbol.MINUS ∷ same symbol.MINUS_END_RULE ∷ [])
    ∷ (same symbol.ATOM_RULE ∷ [])
    ∷ []) ∷
    -- minus_end = NUMERAL negative! constant! | place! -NUMERAL ^unary negate!
    Choice 6 true 1
    ((same symbol.NUMERAL ∷ same symbol.NEGATIVE_ACTION ∷ same symbol.CONSTANT_ACTION ∷ [])
    ∷ (same symbol.PLACE_ACTION ∷ same symbol.NO_NUMERAL ∷ deeper symbol.UNARY_RULE ∷ same symbol.NEGATE_ACTION ∷ [])
    ∷ []) ∷
    -- after_operand = product_tail sum_tail concat_tail predicate_end and_tail or_tail
    Choice 17 false 2
    ((same symbol.PRODUCT_TAIL_RULE ∷ same symbol.SUM_TAIL_RULE ∷ same symbol.CONCAT_TAIL_RULE ∷ same symbol.PREDICATE_END_RULE ∷ same symbol.AND_TAIL_RULE ∷ same symbol.OR_TAIL_RULE ∷ [])
    ∷ []) ∷
    -- atom = CONSTANT literal! constant! | column operand! | ^OPEN ^place! ^e ^CLOSE parens! | COUNT place! ^OPEN ^count_end | SUM place! ^OPEN ^e ^CLOSE sum! | MIN place! ^OPEN ^e ^CLOSE min! | MAX place! ^OPEN ^e ^CLOSE max! | COALESCE place! ^OPEN ^list ^CLOSE coalesce! | ^CASE ^place! ^arms! ^arm ^arms_rest ^case_end
    Choice 2 true 1
    ((same symbol.CONSTANT ∷ same symbol.LITERAL_ACTION ∷ same symbol.CONSTANT_ACTION ∷ [])
    ∷ (same symbol.COLUMN_RULE ∷ same symbol.OPERAND_ACTION ∷ [])
    ∷ (deeper symbol.OPEN ∷ deeper symbol.PLACE_ACTION ∷ deeper symbol.E_RULE ∷ deeper symbol.CLOSE ∷ same symbol.PARENS_ACTION ∷ [])
    ∷ (same symbol.COUNT ∷ same symbol.PLACE_ACTION ∷ deeper symbol.OPEN ∷ deeper symbol.COUNT_END_RULE ∷ [])
    ∷ (same symbol.SUM ∷ same symbol.PLACE_ACTION ∷ deeper symbol.OPEN ∷ deeper symbol.E_RULE ∷ deeper symbol.CLOSE ∷ same symbol.SUM_ACTION ∷ [])
    ∷ (same symbol.MIN ∷ same symbol.PLACE_ACTION ∷ deeper symbol.OPEN ∷ deeper symbol.E_RULE ∷ deeper symbol.CLOSE ∷ same symbol.MIN_ACTION ∷ [])
    ∷ (same symbol.MAX ∷ same symbol.PLACE_ACTION ∷ deeper symbol.OPEN ∷ deeper symbol.E_RULE ∷ deeper symbol.CLOSE ∷ same symbol.MAX_ACTION ∷ [])
    ∷ (same symbol.COALESCE ∷ same symbol.PLACE_ACTION ∷ deeper symbol.OPEN ∷ deeper symbol.LIST_RULE ∷ deeper symbol.CLOSE ∷ same symbol.COALESCE_ACTION ∷ [])
    ∷ (deeper symbol.CASE ∷ deeper symbol.PLACE_ACTION ∷ deeper symbol.ARMS_ACTION ∷ deeper symbol.ARM_RULE ∷ deeper symbol.ARMS_REST_RULE ∷ deeper symbol.CASE_END_RULE ∷ [])
    ∷ []) ∷
    -- count_end = TIMES CLOSE count_all! | e CLOSE count!
    Choice 11 true 1
    ((same symbol.TIMES ∷ same symbol.CLOSE ∷ same symbol.COUNT_ALL_ACTION ∷ [])
    ∷ (same symbol.E_RULE ∷ same symbol.CLOSE ∷ same symbol.COUNT_ACTION ∷ [])
    ∷ []) ∷
    -- arm = WHEN e THEN e arm!
    Choice 1 true 10
    ((same symbol.WHEN ∷ same symbol.E_RULE ∷ same symbol.THEN ∷ same symbol.E_RULE ∷ same symbol.ARM_ACTION ∷ [])
    ∷ []) ∷
    -- arms_rest = arm arms_rest | nothing
    Choice 2 false 1
    ((same symbol.ARM_RULE ∷ same symbol.ARMS_REST_RULE ∷ [])
    ∷ ([])
    ∷ []) ∷
    -- case_end = END case! | ELSE e END case_else!
    Choice 1 true 1
    ((same symbol.END ∷ same symbol.CASE_ACTION ∷ [])
    ∷ (same symbol.ELSE ∷ same symbol.E_RULE ∷ same symbol.END ∷ same symbol.CASE_ELSE_ACTION ∷ [])
    ∷ []) ∷
    []

-- the grammar of statements
abbrev pub table : Rules
table = tokens ++ queries ++ statements ++ expressions
