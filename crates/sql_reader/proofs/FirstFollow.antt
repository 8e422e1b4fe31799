-- With what the text of each rule begins, and what may come after it.
use Rattle.std.specs.Prelude.{ℕ, true, false, List, [], ◌∷◌, ◌++◌, replicate}
use Rattle.grammar.specs.Predictive.{Certificate, unknown}
use Rattle.sql_reader.specs.Symbols as symbol

-- what may stand as a name
abbrev names : List ℕ
names = symbol.ACCESSPATTERN_WORD ∷ symbol.ATOMIC_WORD ∷ symbol.CONSTRAINT_WORD ∷ symbol.DATABASE_WORD ∷ symbol.DATA_WORD ∷ symbol.EACH_WORD ∷ symbol.FOREIGN_WORD ∷ symbol.FOR_WORD ∷ symbol.INSTEAD_WORD ∷ symbol.KEY_WORD ∷ symbol.NAME ∷ symbol.OF_WORD ∷ symbol.OPTIONS_WORD ∷ symbol.PRIMARY_WORD ∷ symbol.PROCEDURE_WORD ∷ symbol.RETURNS_WORD ∷ symbol.ROW_WORD ∷ symbol.SCHEMA_WORD ∷ symbol.SERVER_WORD ∷ symbol.SQLEXCEPTION_WORD ∷ symbol.TABLE_WORD ∷ symbol.TRANSACTION_WORD ∷ symbol.TRIGGER_WORD ∷ symbol.TYPE_WORD ∷ symbol.USE_WORD ∷ symbol.VERSION_WORD ∷ symbol.VIEW_WORD ∷ symbol.VIRTUAL_WORD ∷ symbol.WRAPPER_WORD ∷ []

abbrev key_first : List ℕ
key_first = symbol.NUMERAL ∷ names

abbrev set_query_follow : List ℕ
set_query_follow = symbol.CLOSE ∷ symbol.LIMIT ∷ symbol.OFFSET ∷ symbol.ORDER ∷ []

abbrev select_follow : List ℕ
select_follow = symbol.CLOSE ∷ symbol.LIMIT ∷ symbol.OFFSET ∷ symbol.ORDER ∷ symbol.UNION ∷ []

abbrev distinct_part_follow : List ℕ
distinct_part_follow = symbol.CASE ∷ symbol.COALESCE ∷ symbol.COUNT ∷ symbol.FALSE ∷ symbol.FRACTION ∷ symbol.MAX ∷ symbol.MIN ∷ symbol.MINUS ∷ symbol.NOT ∷ symbol.NULL ∷ symbol.NUMERAL ∷ symbol.OPEN ∷ symbol.STRING ∷ symbol.SUM ∷ symbol.TIMES ∷ symbol.TRUE ∷ names

abbrev items_follow : List ℕ
items_follow = symbol.CLOSE ∷ symbol.FROM ∷ symbol.GROUP ∷ symbol.HAVING ∷ symbol.LIMIT ∷ symbol.OFFSET ∷ symbol.ORDER ∷ symbol.UNION ∷ symbol.WHERE ∷ []

abbrev item_first : List ℕ
item_first = symbol.CASE ∷ symbol.COALESCE ∷ symbol.COUNT ∷ symbol.FALSE ∷ symbol.FRACTION ∷ symbol.MAX ∷ symbol.MIN ∷ symbol.MINUS ∷ symbol.NOT ∷ symbol.NULL ∷ symbol.NUMERAL ∷ symbol.OPEN ∷ symbol.STRING ∷ symbol.SUM ∷ symbol.TRUE ∷ names

abbrev item_follow : List ℕ
item_follow = symbol.CLOSE ∷ symbol.COMMA ∷ symbol.FROM ∷ symbol.GROUP ∷ symbol.HAVING ∷ symbol.LIMIT ∷ symbol.OFFSET ∷ symbol.ORDER ∷ symbol.UNION ∷ symbol.WHERE ∷ []

abbrev name_item_first : List ℕ
name_item_first = symbol.AND ∷ symbol.AS ∷ symbol.AT_LEAST ∷ symbol.AT_MOST ∷ symbol.BARS ∷ symbol.BETWEEN ∷ symbol.DOT ∷ symbol.EQUAL ∷ symbol.GREATER ∷ symbol.IN ∷ symbol.IS ∷ symbol.LESS ∷ symbol.LIKE ∷ symbol.MINUS ∷ symbol.NOT ∷ symbol.NOT_EQUAL ∷ symbol.OR ∷ symbol.PLUS ∷ symbol.TIMES ∷ names

abbrev dot_item_first : List ℕ
dot_item_first = symbol.TIMES ∷ names

abbrev item_end_first : List ℕ
item_end_first = symbol.AS ∷ names

abbrev from_part_follow : List ℕ
from_part_follow = symbol.CLOSE ∷ symbol.GROUP ∷ symbol.HAVING ∷ symbol.LIMIT ∷ symbol.OFFSET ∷ symbol.ORDER ∷ symbol.UNION ∷ symbol.WHERE ∷ []

abbrev from_rest_first : List ℕ
from_rest_first = symbol.COMMA ∷ symbol.CROSS ∷ symbol.INNER ∷ symbol.JOIN ∷ symbol.LEFT ∷ []

abbrev inner_join_follow : List ℕ
inner_join_follow = symbol.OPEN ∷ names

abbrev table_follow : List ℕ
table_follow = symbol.CLOSE ∷ symbol.COMMA ∷ symbol.CROSS ∷ symbol.GROUP ∷ symbol.HAVING ∷ symbol.INNER ∷ symbol.JOIN ∷ symbol.LEFT ∷ symbol.LIMIT ∷ symbol.OFFSET ∷ symbol.ON ∷ symbol.ORDER ∷ symbol.UNION ∷ symbol.WHERE ∷ []

abbrev optional_as_follow : List ℕ
optional_as_follow = names

abbrev relation_follow : List ℕ
relation_follow = symbol.AS ∷ symbol.CLOSE ∷ symbol.COMMA ∷ symbol.CROSS ∷ symbol.GROUP ∷ symbol.HAVING ∷ symbol.INNER ∷ symbol.JOIN ∷ symbol.LEFT ∷ symbol.LIMIT ∷ symbol.OFFSET ∷ symbol.ON ∷ symbol.OPEN ∷ symbol.ORDER ∷ symbol.SELECT ∷ symbol.SET ∷ symbol.UNION ∷ symbol.VALUES ∷ symbol.WHERE ∷ names

abbrev where_part_follow : List ℕ
where_part_follow = symbol.CLOSE ∷ symbol.GROUP ∷ symbol.HAVING ∷ symbol.LIMIT ∷ symbol.OFFSET ∷ symbol.ORDER ∷ symbol.UNION ∷ []

abbrev group_part_follow : List ℕ
group_part_follow = symbol.CLOSE ∷ symbol.HAVING ∷ symbol.LIMIT ∷ symbol.OFFSET ∷ symbol.ORDER ∷ symbol.UNION ∷ []

abbrev column_follow : List ℕ
column_follow = symbol.AND ∷ symbol.AS ∷ symbol.AT_LEAST ∷ symbol.AT_MOST ∷ symbol.BARS ∷ symbol.BETWEEN ∷ symbol.CLOSE ∷ symbol.COMMA ∷ symbol.CROSS ∷ symbol.ELSE ∷ symbol.END ∷ symbol.EQUAL ∷ symbol.FROM ∷ symbol.GREATER ∷ symbol.GROUP ∷ symbol.HAVING ∷ symbol.IN ∷ symbol.INNER ∷ symbol.IS ∷ symbol.JOIN ∷ symbol.LEFT ∷ symbol.LESS ∷ symbol.LIKE ∷ symbol.LIMIT ∷ symbol.MINUS ∷ symbol.NOT ∷ symbol.NOT_EQUAL ∷ symbol.OFFSET ∷ symbol.OR ∷ symbol.ORDER ∷ symbol.PLUS ∷ symbol.THEN ∷ symbol.TIMES ∷ symbol.UNION ∷ symbol.WHEN ∷ symbol.WHERE ∷ names

abbrev statement_first : List ℕ
statement_first = symbol.COMMIT ∷ symbol.DELETE ∷ symbol.EXEC ∷ symbol.EXPLAIN ∷ symbol.INSERT ∷ symbol.ROLLBACK ∷ symbol.SELECT ∷ symbol.START ∷ symbol.UPDATE ∷ []

abbrev e_follow : List ℕ
e_follow = symbol.AS ∷ symbol.CLOSE ∷ symbol.COMMA ∷ symbol.CROSS ∷ symbol.ELSE ∷ symbol.END ∷ symbol.FROM ∷ symbol.GROUP ∷ symbol.HAVING ∷ symbol.INNER ∷ symbol.JOIN ∷ symbol.LEFT ∷ symbol.LIMIT ∷ symbol.OFFSET ∷ symbol.ORDER ∷ symbol.THEN ∷ symbol.UNION ∷ symbol.WHEN ∷ symbol.WHERE ∷ names

abbrev conjunction_follow : List ℕ
conjunction_follow = symbol.AS ∷ symbol.CLOSE ∷ symbol.COMMA ∷ symbol.CROSS ∷ symbol.ELSE ∷ symbol.END ∷ symbol.FROM ∷ symbol.GROUP ∷ symbol.HAVING ∷ symbol.INNER ∷ symbol.JOIN ∷ symbol.LEFT ∷ symbol.LIMIT ∷ symbol.OFFSET ∷ symbol.OR ∷ symbol.ORDER ∷ symbol.THEN ∷ symbol.UNION ∷ symbol.WHEN ∷ symbol.WHERE ∷ names

abbrev negation_follow : List ℕ
negation_follow = symbol.AND ∷ symbol.AS ∷ symbol.CLOSE ∷ symbol.COMMA ∷ symbol.CROSS ∷ symbol.ELSE ∷ symbol.END ∷ symbol.FROM ∷ symbol.GROUP ∷ symbol.HAVING ∷ symbol.INNER ∷ symbol.JOIN ∷ symbol.LEFT ∷ symbol.LIMIT ∷ symbol.OFFSET ∷ symbol.OR ∷ symbol.ORDER ∷ symbol.THEN ∷ symbol.UNION ∷ symbol.WHEN ∷ symbol.WHERE ∷ names

abbrev predicate_first : List ℕ
predicate_first = symbol.CASE ∷ symbol.COALESCE ∷ symbol.COUNT ∷ symbol.FALSE ∷ symbol.FRACTION ∷ symbol.MAX ∷ symbol.MIN ∷ symbol.MINUS ∷ symbol.NULL ∷ symbol.NUMERAL ∷ symbol.OPEN ∷ symbol.STRING ∷ symbol.SUM ∷ symbol.TRUE ∷ names

abbrev predicate_end_first : List ℕ
predicate_end_first = symbol.AT_LEAST ∷ symbol.AT_MOST ∷ symbol.BETWEEN ∷ symbol.EQUAL ∷ symbol.GREATER ∷ symbol.IN ∷ symbol.IS ∷ symbol.LESS ∷ symbol.LIKE ∷ symbol.NOT ∷ symbol.NOT_EQUAL ∷ []

abbrev concat_follow : List ℕ
concat_follow = symbol.AND ∷ symbol.AS ∷ symbol.AT_LEAST ∷ symbol.AT_MOST ∷ symbol.BETWEEN ∷ symbol.CLOSE ∷ symbol.COMMA ∷ symbol.CROSS ∷ symbol.ELSE ∷ symbol.END ∷ symbol.EQUAL ∷ symbol.FROM ∷ symbol.GREATER ∷ symbol.GROUP ∷ symbol.HAVING ∷ symbol.IN ∷ symbol.INNER ∷ symbol.IS ∷ symbol.JOIN ∷ symbol.LEFT ∷ symbol.LESS ∷ symbol.LIKE ∷ symbol.LIMIT ∷ symbol.NOT ∷ symbol.NOT_EQUAL ∷ symbol.OFFSET ∷ symbol.OR ∷ symbol.ORDER ∷ symbol.THEN ∷ symbol.UNION ∷ symbol.WHEN ∷ symbol.WHERE ∷ names

abbrev sum_follow : List ℕ
sum_follow = symbol.AND ∷ symbol.AS ∷ symbol.AT_LEAST ∷ symbol.AT_MOST ∷ symbol.BARS ∷ symbol.BETWEEN ∷ symbol.CLOSE ∷ symbol.COMMA ∷ symbol.CROSS ∷ symbol.ELSE ∷ symbol.END ∷ symbol.EQUAL ∷ symbol.FROM ∷ symbol.GREATER ∷ symbol.GROUP ∷ symbol.HAVING ∷ symbol.IN ∷ symbol.INNER ∷ symbol.IS ∷ symbol.JOIN ∷ symbol.LEFT ∷ symbol.LESS ∷ symbol.LIKE ∷ symbol.LIMIT ∷ symbol.NOT ∷ symbol.NOT_EQUAL ∷ symbol.OFFSET ∷ symbol.OR ∷ symbol.ORDER ∷ symbol.THEN ∷ symbol.UNION ∷ symbol.WHEN ∷ symbol.WHERE ∷ names

abbrev product_follow : List ℕ
product_follow = symbol.AND ∷ symbol.AS ∷ symbol.AT_LEAST ∷ symbol.AT_MOST ∷ symbol.BARS ∷ symbol.BETWEEN ∷ symbol.CLOSE ∷ symbol.COMMA ∷ symbol.CROSS ∷ symbol.ELSE ∷ symbol.END ∷ symbol.EQUAL ∷ symbol.FROM ∷ symbol.GREATER ∷ symbol.GROUP ∷ symbol.HAVING ∷ symbol.IN ∷ symbol.INNER ∷ symbol.IS ∷ symbol.JOIN ∷ symbol.LEFT ∷ symbol.LESS ∷ symbol.LIKE ∷ symbol.LIMIT ∷ symbol.MINUS ∷ symbol.NOT ∷ symbol.NOT_EQUAL ∷ symbol.OFFSET ∷ symbol.OR ∷ symbol.ORDER ∷ symbol.PLUS ∷ symbol.THEN ∷ symbol.UNION ∷ symbol.WHEN ∷ symbol.WHERE ∷ names

abbrev after_operand_first : List ℕ
after_operand_first = symbol.AND ∷ symbol.AT_LEAST ∷ symbol.AT_MOST ∷ symbol.BARS ∷ symbol.BETWEEN ∷ symbol.EQUAL ∷ symbol.GREATER ∷ symbol.IN ∷ symbol.IS ∷ symbol.LESS ∷ symbol.LIKE ∷ symbol.MINUS ∷ symbol.NOT ∷ symbol.NOT_EQUAL ∷ symbol.OR ∷ symbol.PLUS ∷ symbol.TIMES ∷ []

abbrev after_operand_follow : List ℕ
after_operand_follow = symbol.AS ∷ symbol.CLOSE ∷ symbol.COMMA ∷ symbol.FROM ∷ symbol.GROUP ∷ symbol.HAVING ∷ symbol.LIMIT ∷ symbol.OFFSET ∷ symbol.ORDER ∷ symbol.UNION ∷ symbol.WHERE ∷ names

abbrev atom_first : List ℕ
atom_first = symbol.CASE ∷ symbol.COALESCE ∷ symbol.COUNT ∷ symbol.FALSE ∷ symbol.FRACTION ∷ symbol.MAX ∷ symbol.MIN ∷ symbol.NULL ∷ symbol.NUMERAL ∷ symbol.OPEN ∷ symbol.STRING ∷ symbol.SUM ∷ symbol.TRUE ∷ names

-- the rules of queries
abbrev pub queries : Certificate
queries =
    -- set_only
    record { first = symbol.SELECT ∷ []; follow = record { kinds = []; at_end = true } } ∷
    -- query
    record { first = symbol.SELECT ∷ []; follow = record { kinds = []; at_end = true } } ∷
    -- order_part
    record { first = symbol.ORDER ∷ []; follow = record { kinds = symbol.LIMIT ∷ symbol.OFFSET ∷ []; at_end = true } } ∷
    -- keys_rest
    record { first = symbol.COMMA ∷ []; follow = record { kinds = symbol.LIMIT ∷ symbol.OFFSET ∷ []; at_end = true } } ∷
    -- key
    record { first = key_first; follow = record { kinds = symbol.COMMA ∷ symbol.LIMIT ∷ symbol.OFFSET ∷ []; at_end = true } } ∷
    -- name_direction
    record { first = symbol.ASC ∷ symbol.DESC ∷ []; follow = record { kinds = symbol.COMMA ∷ symbol.LIMIT ∷ symbol.OFFSET ∷ []; at_end = true } } ∷
    -- number_direction
    record { first = symbol.ASC ∷ symbol.DESC ∷ []; follow = record { kinds = symbol.COMMA ∷ symbol.LIMIT ∷ symbol.OFFSET ∷ []; at_end = true } } ∷
    -- limit_part
    record { first = symbol.LIMIT ∷ []; follow = record { kinds = symbol.OFFSET ∷ []; at_end = true } } ∷
    -- offset_part
    record { first = symbol.OFFSET ∷ []; follow = record { kinds = []; at_end = true } } ∷
    -- set_query
    record { first = symbol.SELECT ∷ []; follow = record { kinds = set_query_follow; at_end = true } } ∷
    -- unions
    record { first = symbol.UNION ∷ []; follow = record { kinds = set_query_follow; at_end = true } } ∷
    -- union_end
    record { first = symbol.ALL ∷ symbol.SELECT ∷ []; follow = record { kinds = set_query_follow; at_end = true } } ∷
    -- select
    record { first = symbol.SELECT ∷ []; follow = record { kinds = select_follow; at_end = true } } ∷
    -- distinct_part
    record { first = symbol.DISTINCT ∷ []; follow = record { kinds = distinct_part_follow; at_end = false } } ∷
    -- items
    record { first = distinct_part_follow; follow = record { kinds = items_follow; at_end = true } } ∷
    -- items_rest
    record { first = symbol.COMMA ∷ []; follow = record { kinds = items_follow; at_end = true } } ∷
    -- item
    record { first = item_first; follow = record { kinds = item_follow; at_end = true } } ∷
    -- name_item
    record { first = name_item_first; follow = record { kinds = item_follow; at_end = true } } ∷
    -- dot_item
    record { first = dot_item_first; follow = record { kinds = item_follow; at_end = true } } ∷
    -- item_end
    record { first = item_end_first; follow = record { kinds = item_follow; at_end = true } } ∷
    -- from_part
    record { first = symbol.FROM ∷ []; follow = record { kinds = from_part_follow; at_end = true } } ∷
    -- from_rest
    record { first = from_rest_first; follow = record { kinds = from_part_follow; at_end = true } } ∷
    -- inner_join
    record { first = symbol.INNER ∷ symbol.JOIN ∷ []; follow = record { kinds = inner_join_follow; at_end = false } } ∷
    -- left_join
    record { first = symbol.LEFT ∷ []; follow = record { kinds = inner_join_follow; at_end = false } } ∷
    -- outer_part
    record { first = symbol.OUTER ∷ []; follow = record { kinds = symbol.JOIN ∷ []; at_end = false } } ∷
    -- table
    record { first = inner_join_follow; follow = record { kinds = table_follow; at_end = true } } ∷
    -- table_end
    record { first = item_end_first; follow = record { kinds = table_follow; at_end = true } } ∷
    -- optional_as
    record { first = symbol.AS ∷ []; follow = record { kinds = optional_as_follow; at_end = false } } ∷
    -- relation
    record { first = optional_as_follow; follow = record { kinds = relation_follow; at_end = true } } ∷
    -- relation_end
    record { first = symbol.DOT ∷ []; follow = record { kinds = relation_follow; at_end = true } } ∷
    -- where_part
    record { first = symbol.WHERE ∷ []; follow = record { kinds = where_part_follow; at_end = true } } ∷
    -- group_part
    record { first = symbol.GROUP ∷ []; follow = record { kinds = group_part_follow; at_end = true } } ∷
    -- group_rest
    record { first = symbol.COMMA ∷ []; follow = record { kinds = group_part_follow; at_end = true } } ∷
    -- having_part
    record { first = symbol.HAVING ∷ []; follow = record { kinds = select_follow; at_end = true } } ∷
    -- column
    record { first = optional_as_follow; follow = record { kinds = column_follow; at_end = true } } ∷
    -- column_end
    record { first = symbol.DOT ∷ []; follow = record { kinds = column_follow; at_end = true } } ∷
    -- column_last
    record { first = symbol.DOT ∷ []; follow = record { kinds = column_follow; at_end = true } } ∷
    []

-- the rules of statements
abbrev pub statements : Certificate
statements =
    -- statement
    record { first = statement_first; follow = record { kinds = []; at_end = true } } ∷
    -- insert
    record { first = symbol.INSERT ∷ []; follow = record { kinds = []; at_end = true } } ∷
    -- columns_part
    record { first = symbol.OPEN ∷ []; follow = record { kinds = symbol.SELECT ∷ symbol.VALUES ∷ []; at_end = false } } ∷
    -- names_rest
    record { first = symbol.COMMA ∷ []; follow = record { kinds = symbol.CLOSE ∷ []; at_end = false } } ∷
    -- insert_source
    record { first = symbol.SELECT ∷ symbol.VALUES ∷ []; follow = record { kinds = []; at_end = true } } ∷
    -- update
    record { first = symbol.UPDATE ∷ []; follow = record { kinds = []; at_end = true } } ∷
    -- assignment
    record { first = optional_as_follow; follow = record { kinds = symbol.COMMA ∷ symbol.WHERE ∷ []; at_end = true } } ∷
    -- assignments_rest
    record { first = symbol.COMMA ∷ []; follow = record { kinds = symbol.WHERE ∷ []; at_end = true } } ∷
    -- update_end
    record { first = symbol.WHERE ∷ []; follow = record { kinds = []; at_end = true } } ∷
    -- delete
    record { first = symbol.DELETE ∷ []; follow = record { kinds = []; at_end = true } } ∷
    -- delete_end
    record { first = symbol.WHERE ∷ []; follow = record { kinds = []; at_end = true } } ∷
    -- exec
    record { first = symbol.EXEC ∷ []; follow = record { kinds = []; at_end = true } } ∷
    -- arguments
    record { first = item_first; follow = record { kinds = symbol.CLOSE ∷ []; at_end = false } } ∷
    []

-- the rules of expressions
abbrev pub expressions : Certificate
expressions =
    -- list
    record { first = item_first; follow = record { kinds = symbol.CLOSE ∷ []; at_end = false } } ∷
    -- list_rest
    record { first = symbol.COMMA ∷ []; follow = record { kinds = symbol.CLOSE ∷ []; at_end = false } } ∷
    -- e
    record { first = item_first; follow = record { kinds = e_follow; at_end = true } } ∷
    -- or_tail
    record { first = symbol.OR ∷ []; follow = record { kinds = e_follow; at_end = true } } ∷
    -- or_link
    record { first = symbol.OR ∷ []; follow = record { kinds = e_follow; at_end = true } } ∷
    -- or_rest
    record { first = symbol.OR ∷ []; follow = record { kinds = e_follow; at_end = true } } ∷
    -- conjunction
    record { first = item_first; follow = record { kinds = conjunction_follow; at_end = true } } ∷
    -- and_tail
    record { first = symbol.AND ∷ []; follow = record { kinds = conjunction_follow; at_end = true } } ∷
    -- and_link
    record { first = symbol.AND ∷ []; follow = record { kinds = conjunction_follow; at_end = true } } ∷
    -- and_rest
    record { first = symbol.AND ∷ []; follow = record { kinds = conjunction_follow; at_end = true } } ∷
    -- negation
    record { first = item_first; follow = record { kinds = negation_follow; at_end = true } } ∷
    -- predicate
    record { first = predicate_first; follow = record { kinds = negation_follow; at_end = true } } ∷
    -- predicate_end
    record { first = predicate_end_first; follow = record { kinds = negation_follow; at_end = true } } ∷
    -- is_end
    record { first = symbol.NOT ∷ symbol.NULL ∷ []; follow = record { kinds = negation_follow; at_end = true } } ∷
    -- not_end
    record { first = symbol.BETWEEN ∷ symbol.IN ∷ symbol.LIKE ∷ []; follow = record { kinds = negation_follow; at_end = true } } ∷
    -- concat
    record { first = predicate_first; follow = record { kinds = concat_follow; at_end = true } } ∷
    -- concat_tail
    record { first = symbol.BARS ∷ []; follow = record { kinds = concat_follow; at_end = true } } ∷
    -- concat_link
    record { first = symbol.BARS ∷ []; follow = record { kinds = concat_follow; at_end = true } } ∷
    -- concat_rest
    record { first = symbol.BARS ∷ []; follow = record { kinds = concat_follow; at_end = true } } ∷
    -- sum
    record { first = predicate_first; follow = record { kinds = sum_follow; at_end = true } } ∷
    -- sum_tail
    record { first = symbol.MINUS ∷ symbol.PLUS ∷ []; follow = record { kinds = sum_follow; at_end = true } } ∷
    -- sum_link
    record { first = symbol.MINUS ∷ symbol.PLUS ∷ []; follow = record { kinds = sum_follow; at_end = true } } ∷
    -- sum_rest
    record { first = symbol.MINUS ∷ symbol.PLUS ∷ []; follow = record { kinds = sum_follow; at_end = true } } ∷
    -- product
    record { first = predicate_first; follow = record { kinds = product_follow; at_end = true } } ∷
    -- product_tail
    record { first = symbol.TIMES ∷ []; follow = record { kinds = product_follow; at_end = true } } ∷
    -- product_link
    record { first = symbol.TIMES ∷ []; follow = record { kinds = product_follow; at_end = true } } ∷
    -- product_rest
    record { first = symbol.TIMES ∷ []; follow = record { kinds = product_follow; at_end = true } } ∷
    -- unary
    record { first = predicate_first; follow = record { kinds = column_follow; at_end = true } } ∷
    -- minus_end
    record { first = predicate_first; follow = record { kinds = column_follow; at_end = true } } ∷
    -- after_operand
    record { first = after_operand_first; follow = record { kinds = after_operand_follow; at_end = true } } ∷
    -- atom
    record { first = atom_first; follow = record { kinds = column_follow; at_end = true } } ∷
    -- count_end
    record { first = distinct_part_follow; follow = record { kinds = column_follow; at_end = true } } ∷
    -- arm
    record { first = symbol.WHEN ∷ []; follow = record { kinds = symbol.ELSE ∷ symbol.END ∷ symbol.WHEN ∷ []; at_end = false } } ∷
    -- arms_rest
    record { first = symbol.WHEN ∷ []; follow = record { kinds = symbol.ELSE ∷ symbol.END ∷ []; at_end = false } } ∷
    -- case_end
    record { first = symbol.ELSE ∷ symbol.END ∷ []; follow = record { kinds = column_follow; at_end = true } } ∷
    []

-- nothing need be known of the tokens and guards
abbrev pub tokens : Certificate
tokens = replicate 82 unknown

abbrev pub certificate : Certificate
certificate = tokens ++ queries ++ statements ++ expressions
