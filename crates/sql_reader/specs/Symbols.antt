-- The numbers of the grammar: kinds of tokens, symbols and actions. It is written by `tools/table.py`.
-- A kind of tokens has the number of its own symbol; the words that may stand as names have kinds of their own.
use Rattle.std.specs.Prelude.{ℕ}

-- the kind of the first word that the grammars know and that may stand as a name
abbrev pub FIRST_WORD : ℕ
FIRST_WORD = 448

-- the kind of a token that stands nowhere
abbrev pub NOWHERE : ℕ
NOWHERE = 511

abbrev pub FIRST_ACTION : ℕ
FIRST_ACTION = 512

abbrev pub ALL : ℕ
ALL = 0

abbrev pub AND : ℕ
AND = 1

abbrev pub AS : ℕ
AS = 2

abbrev pub ASC : ℕ
ASC = 3

abbrev pub BEGIN : ℕ
BEGIN = 4

abbrev pub BETWEEN : ℕ
BETWEEN = 5

abbrev pub BY : ℕ
BY = 6

abbrev pub CASE : ℕ
CASE = 7

abbrev pub COALESCE : ℕ
COALESCE = 8

abbrev pub COMMIT : ℕ
COMMIT = 9

abbrev pub COUNT : ℕ
COUNT = 10

abbrev pub CREATE : ℕ
CREATE = 11

abbrev pub CROSS : ℕ
CROSS = 12

abbrev pub DECLARE : ℕ
DECLARE = 13

abbrev pub DELETE : ℕ
DELETE = 14

abbrev pub DESC : ℕ
DESC = 15

abbrev pub DISTINCT : ℕ
DISTINCT = 16

abbrev pub ELSE : ℕ
ELSE = 17

abbrev pub END : ℕ
END = 18

abbrev pub EXEC : ℕ
EXEC = 19

abbrev pub EXPLAIN : ℕ
EXPLAIN = 20

abbrev pub FALSE : ℕ
FALSE = 21

abbrev pub FROM : ℕ
FROM = 22

abbrev pub GROUP : ℕ
GROUP = 23

abbrev pub HAVING : ℕ
HAVING = 24

abbrev pub IF : ℕ
IF = 25

abbrev pub IN : ℕ
IN = 26

abbrev pub INNER : ℕ
INNER = 27

abbrev pub INSERT : ℕ
INSERT = 28

abbrev pub INTO : ℕ
INTO = 29

abbrev pub IS : ℕ
IS = 30

abbrev pub JOIN : ℕ
JOIN = 31

abbrev pub LEFT : ℕ
LEFT = 32

abbrev pub LIKE : ℕ
LIKE = 33

abbrev pub LIMIT : ℕ
LIMIT = 34

abbrev pub LOOP : ℕ
LOOP = 35

abbrev pub MAX : ℕ
MAX = 36

abbrev pub MIN : ℕ
MIN = 37

abbrev pub NOT : ℕ
NOT = 38

abbrev pub NULL : ℕ
NULL = 39

abbrev pub OFFSET : ℕ
OFFSET = 40

abbrev pub ON : ℕ
ON = 41

abbrev pub OR : ℕ
OR = 42

abbrev pub ORDER : ℕ
ORDER = 43

abbrev pub OUTER : ℕ
OUTER = 44

abbrev pub RAISE : ℕ
RAISE = 45

abbrev pub ROLLBACK : ℕ
ROLLBACK = 46

abbrev pub SELECT : ℕ
SELECT = 47

abbrev pub SET : ℕ
SET = 48

abbrev pub START : ℕ
START = 49

abbrev pub SUM : ℕ
SUM = 50

abbrev pub THEN : ℕ
THEN = 51

abbrev pub TRUE : ℕ
TRUE = 52

abbrev pub UNION : ℕ
UNION = 53

abbrev pub UPDATE : ℕ
UPDATE = 54

abbrev pub VALUES : ℕ
VALUES = 55

abbrev pub WHEN : ℕ
WHEN = 56

abbrev pub WHERE : ℕ
WHERE = 57

abbrev pub WHILE : ℕ
WHILE = 58

abbrev pub TRANSACTION : ℕ
TRANSACTION = 59

abbrev pub NAME : ℕ
NAME = 60

abbrev pub NUMERAL : ℕ
NUMERAL = 61

abbrev pub FRACTION : ℕ
FRACTION = 62

abbrev pub STRING : ℕ
STRING = 63

abbrev pub OPEN : ℕ
OPEN = 64

abbrev pub CLOSE : ℕ
CLOSE = 65

abbrev pub COMMA : ℕ
COMMA = 66

abbrev pub DOT : ℕ
DOT = 67

abbrev pub SEMICOLON : ℕ
SEMICOLON = 68

abbrev pub EQUAL : ℕ
EQUAL = 69

abbrev pub NOT_EQUAL : ℕ
NOT_EQUAL = 70

abbrev pub LESS : ℕ
LESS = 71

abbrev pub AT_MOST : ℕ
AT_MOST = 72

abbrev pub GREATER : ℕ
GREATER = 73

abbrev pub AT_LEAST : ℕ
AT_LEAST = 74

abbrev pub PLUS : ℕ
PLUS = 75

abbrev pub MINUS : ℕ
MINUS = 76

abbrev pub TIMES : ℕ
TIMES = 77

abbrev pub BARS : ℕ
BARS = 78

abbrev pub CONSTANT : ℕ
CONSTANT = 79

abbrev pub NO_NAME : ℕ
NO_NAME = 80

abbrev pub NO_NUMERAL : ℕ
NO_NUMERAL = 81

abbrev pub SET_ONLY_RULE : ℕ
SET_ONLY_RULE = 82

abbrev pub QUERY_RULE : ℕ
QUERY_RULE = 83

abbrev pub ORDER_PART_RULE : ℕ
ORDER_PART_RULE = 84

abbrev pub KEYS_REST_RULE : ℕ
KEYS_REST_RULE = 85

abbrev pub KEY_RULE : ℕ
KEY_RULE = 86

abbrev pub NAME_DIRECTION_RULE : ℕ
NAME_DIRECTION_RULE = 87

abbrev pub NUMBER_DIRECTION_RULE : ℕ
NUMBER_DIRECTION_RULE = 88

abbrev pub LIMIT_PART_RULE : ℕ
LIMIT_PART_RULE = 89

abbrev pub OFFSET_PART_RULE : ℕ
OFFSET_PART_RULE = 90

abbrev pub SET_QUERY_RULE : ℕ
SET_QUERY_RULE = 91

abbrev pub UNIONS_RULE : ℕ
UNIONS_RULE = 92

abbrev pub UNION_END_RULE : ℕ
UNION_END_RULE = 93

abbrev pub SELECT_RULE : ℕ
SELECT_RULE = 94

abbrev pub DISTINCT_PART_RULE : ℕ
DISTINCT_PART_RULE = 95

abbrev pub ITEMS_RULE : ℕ
ITEMS_RULE = 96

abbrev pub ITEMS_REST_RULE : ℕ
ITEMS_REST_RULE = 97

abbrev pub ITEM_RULE : ℕ
ITEM_RULE = 98

abbrev pub NAME_ITEM_RULE : ℕ
NAME_ITEM_RULE = 99

abbrev pub DOT_ITEM_RULE : ℕ
DOT_ITEM_RULE = 100

abbrev pub ITEM_END_RULE : ℕ
ITEM_END_RULE = 101

abbrev pub FROM_PART_RULE : ℕ
FROM_PART_RULE = 102

abbrev pub FROM_REST_RULE : ℕ
FROM_REST_RULE = 103

abbrev pub INNER_JOIN_RULE : ℕ
INNER_JOIN_RULE = 104

abbrev pub LEFT_JOIN_RULE : ℕ
LEFT_JOIN_RULE = 105

abbrev pub OUTER_PART_RULE : ℕ
OUTER_PART_RULE = 106

abbrev pub TABLE_RULE : ℕ
TABLE_RULE = 107

abbrev pub TABLE_END_RULE : ℕ
TABLE_END_RULE = 108

abbrev pub OPTIONAL_AS_RULE : ℕ
OPTIONAL_AS_RULE = 109

abbrev pub RELATION_RULE : ℕ
RELATION_RULE = 110

abbrev pub RELATION_END_RULE : ℕ
RELATION_END_RULE = 111

abbrev pub WHERE_PART_RULE : ℕ
WHERE_PART_RULE = 112

abbrev pub GROUP_PART_RULE : ℕ
GROUP_PART_RULE = 113

abbrev pub GROUP_REST_RULE : ℕ
GROUP_REST_RULE = 114

abbrev pub HAVING_PART_RULE : ℕ
HAVING_PART_RULE = 115

abbrev pub COLUMN_RULE : ℕ
COLUMN_RULE = 116

abbrev pub COLUMN_END_RULE : ℕ
COLUMN_END_RULE = 117

abbrev pub COLUMN_LAST_RULE : ℕ
COLUMN_LAST_RULE = 118

abbrev pub STATEMENT_RULE : ℕ
STATEMENT_RULE = 119

abbrev pub INSERT_RULE : ℕ
INSERT_RULE = 120

abbrev pub COLUMNS_PART_RULE : ℕ
COLUMNS_PART_RULE = 121

abbrev pub NAMES_REST_RULE : ℕ
NAMES_REST_RULE = 122

abbrev pub INSERT_SOURCE_RULE : ℕ
INSERT_SOURCE_RULE = 123

abbrev pub UPDATE_RULE : ℕ
UPDATE_RULE = 124

abbrev pub ASSIGNMENT_RULE : ℕ
ASSIGNMENT_RULE = 125

abbrev pub ASSIGNMENTS_REST_RULE : ℕ
ASSIGNMENTS_REST_RULE = 126

abbrev pub UPDATE_END_RULE : ℕ
UPDATE_END_RULE = 127

abbrev pub DELETE_RULE : ℕ
DELETE_RULE = 128

abbrev pub DELETE_END_RULE : ℕ
DELETE_END_RULE = 129

abbrev pub EXEC_RULE : ℕ
EXEC_RULE = 130

abbrev pub ARGUMENTS_RULE : ℕ
ARGUMENTS_RULE = 131

abbrev pub LIST_RULE : ℕ
LIST_RULE = 132

abbrev pub LIST_REST_RULE : ℕ
LIST_REST_RULE = 133

abbrev pub E_RULE : ℕ
E_RULE = 134

abbrev pub OR_TAIL_RULE : ℕ
OR_TAIL_RULE = 135

abbrev pub OR_LINK_RULE : ℕ
OR_LINK_RULE = 136

abbrev pub OR_REST_RULE : ℕ
OR_REST_RULE = 137

abbrev pub CONJUNCTION_RULE : ℕ
CONJUNCTION_RULE = 138

abbrev pub AND_TAIL_RULE : ℕ
AND_TAIL_RULE = 139

abbrev pub AND_LINK_RULE : ℕ
AND_LINK_RULE = 140

abbrev pub AND_REST_RULE : ℕ
AND_REST_RULE = 141

abbrev pub NEGATION_RULE : ℕ
NEGATION_RULE = 142

abbrev pub PREDICATE_RULE : ℕ
PREDICATE_RULE = 143

abbrev pub PREDICATE_END_RULE : ℕ
PREDICATE_END_RULE = 144

abbrev pub IS_END_RULE : ℕ
IS_END_RULE = 145

abbrev pub NOT_END_RULE : ℕ
NOT_END_RULE = 146

abbrev pub CONCAT_RULE : ℕ
CONCAT_RULE = 147

abbrev pub CONCAT_TAIL_RULE : ℕ
CONCAT_TAIL_RULE = 148

abbrev pub CONCAT_LINK_RULE : ℕ
CONCAT_LINK_RULE = 149

abbrev pub CONCAT_REST_RULE : ℕ
CONCAT_REST_RULE = 150

abbrev pub SUM_RULE : ℕ
SUM_RULE = 151

abbrev pub SUM_TAIL_RULE : ℕ
SUM_TAIL_RULE = 152

abbrev pub SUM_LINK_RULE : ℕ
SUM_LINK_RULE = 153

abbrev pub SUM_REST_RULE : ℕ
SUM_REST_RULE = 154

abbrev pub PRODUCT_RULE : ℕ
PRODUCT_RULE = 155

abbrev pub PRODUCT_TAIL_RULE : ℕ
PRODUCT_TAIL_RULE = 156

abbrev pub PRODUCT_LINK_RULE : ℕ
PRODUCT_LINK_RULE = 157

abbrev pub PRODUCT_REST_RULE : ℕ
PRODUCT_REST_RULE = 158

abbrev pub UNARY_RULE : ℕ
UNARY_RULE = 159

abbrev pub MINUS_END_RULE : ℕ
MINUS_END_RULE = 160

abbrev pub AFTER_OPERAND_RULE : ℕ
AFTER_OPERAND_RULE = 161

abbrev pub ATOM_RULE : ℕ
ATOM_RULE = 162

abbrev pub COUNT_END_RULE : ℕ
COUNT_END_RULE = 163

abbrev pub ARM_RULE : ℕ
ARM_RULE = 164

abbrev pub ARMS_REST_RULE : ℕ
ARMS_REST_RULE = 165

abbrev pub CASE_END_RULE : ℕ
CASE_END_RULE = 166

abbrev pub QUERY_ACTION : ℕ
QUERY_ACTION = 512

abbrev pub NAME_ACTION : ℕ
NAME_ACTION = 513

abbrev pub LITERAL_ACTION : ℕ
LITERAL_ACTION = 514

abbrev pub KEY_NAME_ACTION : ℕ
KEY_NAME_ACTION = 515

abbrev pub KEY_NAME_DOWN_ACTION : ℕ
KEY_NAME_DOWN_ACTION = 516

abbrev pub KEY_NUMBER_ACTION : ℕ
KEY_NUMBER_ACTION = 517

abbrev pub KEY_NUMBER_DOWN_ACTION : ℕ
KEY_NUMBER_DOWN_ACTION = 518

abbrev pub LIMIT_ACTION : ℕ
LIMIT_ACTION = 519

abbrev pub OFFSET_ACTION : ℕ
OFFSET_ACTION = 520

abbrev pub SELECTS_ACTION : ℕ
SELECTS_ACTION = 521

abbrev pub UNION_ACTION : ℕ
UNION_ACTION = 522

abbrev pub UNION_ALL_ACTION : ℕ
UNION_ALL_ACTION = 523

abbrev pub SELECT_ACTION : ℕ
SELECT_ACTION = 524

abbrev pub DISTINCT_ACTION : ℕ
DISTINCT_ACTION = 525

abbrev pub ALL_ACTION : ℕ
ALL_ACTION = 526

abbrev pub PLAIN_ACTION : ℕ
PLAIN_ACTION = 527

abbrev pub OPERAND_ACTION : ℕ
OPERAND_ACTION = 528

abbrev pub ALL_OF_ACTION : ℕ
ALL_OF_ACTION = 529

abbrev pub ITEM_AS_ACTION : ℕ
ITEM_AS_ACTION = 530

abbrev pub ITEM_ACTION : ℕ
ITEM_ACTION = 531

abbrev pub FROM_ACTION : ℕ
FROM_ACTION = 532

abbrev pub INNER_ACTION : ℕ
INNER_ACTION = 533

abbrev pub LEFT_ACTION : ℕ
LEFT_ACTION = 534

abbrev pub CROSS_ACTION : ℕ
CROSS_ACTION = 535

abbrev pub DERIVED_ACTION : ℕ
DERIVED_ACTION = 536

abbrev pub TABLE_AS_ACTION : ℕ
TABLE_AS_ACTION = 537

abbrev pub TABLE_ACTION : ℕ
TABLE_ACTION = 538

abbrev pub RELATION_OF_ACTION : ℕ
RELATION_OF_ACTION = 539

abbrev pub RELATION_ACTION : ℕ
RELATION_ACTION = 540

abbrev pub WHERE_ACTION : ℕ
WHERE_ACTION = 541

abbrev pub GROUP_KEY_ACTION : ℕ
GROUP_KEY_ACTION = 542

abbrev pub HAVING_ACTION : ℕ
HAVING_ACTION = 543

abbrev pub IN_SCHEMA_ACTION : ℕ
IN_SCHEMA_ACTION = 544

abbrev pub OF_ACTION : ℕ
OF_ACTION = 545

abbrev pub RUN_ACTION : ℕ
RUN_ACTION = 546

abbrev pub EXPLAIN_ACTION : ℕ
EXPLAIN_ACTION = 547

abbrev pub START_ACTION : ℕ
START_ACTION = 548

abbrev pub COMMIT_ACTION : ℕ
COMMIT_ACTION = 549

abbrev pub ROLLBACK_ACTION : ℕ
ROLLBACK_ACTION = 550

abbrev pub NAMES_ACTION : ℕ
NAMES_ACTION = 551

abbrev pub ADD_NAME_ACTION : ℕ
ADD_NAME_ACTION = 552

abbrev pub INSERT_VALUES_ACTION : ℕ
INSERT_VALUES_ACTION = 553

abbrev pub INSERT_QUERY_ACTION : ℕ
INSERT_QUERY_ACTION = 554

abbrev pub ASSIGNMENTS_ACTION : ℕ
ASSIGNMENTS_ACTION = 555

abbrev pub ASSIGN_ACTION : ℕ
ASSIGN_ACTION = 556

abbrev pub UPDATE_WHERE_ACTION : ℕ
UPDATE_WHERE_ACTION = 557

abbrev pub UPDATE_ACTION : ℕ
UPDATE_ACTION = 558

abbrev pub DELETE_WHERE_ACTION : ℕ
DELETE_WHERE_ACTION = 559

abbrev pub DELETE_ACTION : ℕ
DELETE_ACTION = 560

abbrev pub EXEC_ACTION : ℕ
EXEC_ACTION = 561

abbrev pub LIST_ACTION : ℕ
LIST_ACTION = 562

abbrev pub ADD_ACTION : ℕ
ADD_ACTION = 563

abbrev pub LINKS_ACTION : ℕ
LINKS_ACTION = 564

abbrev pub CHAIN_ACTION : ℕ
CHAIN_ACTION = 565

abbrev pub PLACE_ACTION : ℕ
PLACE_ACTION = 566

abbrev pub OR_ACTION : ℕ
OR_ACTION = 567

abbrev pub AND_ACTION : ℕ
AND_ACTION = 568

abbrev pub NOT_ACTION : ℕ
NOT_ACTION = 569

abbrev pub EQUAL_ACTION : ℕ
EQUAL_ACTION = 570

abbrev pub NOT_EQUAL_ACTION : ℕ
NOT_EQUAL_ACTION = 571

abbrev pub LESS_ACTION : ℕ
LESS_ACTION = 572

abbrev pub AT_MOST_ACTION : ℕ
AT_MOST_ACTION = 573

abbrev pub GREATER_ACTION : ℕ
GREATER_ACTION = 574

abbrev pub AT_LEAST_ACTION : ℕ
AT_LEAST_ACTION = 575

abbrev pub IN_ACTION : ℕ
IN_ACTION = 576

abbrev pub LIKE_ACTION : ℕ
LIKE_ACTION = 577

abbrev pub BETWEEN_ACTION : ℕ
BETWEEN_ACTION = 578

abbrev pub IS_NULL_ACTION : ℕ
IS_NULL_ACTION = 579

abbrev pub IS_NOT_NULL_ACTION : ℕ
IS_NOT_NULL_ACTION = 580

abbrev pub NOT_IN_ACTION : ℕ
NOT_IN_ACTION = 581

abbrev pub NOT_LIKE_ACTION : ℕ
NOT_LIKE_ACTION = 582

abbrev pub NOT_BETWEEN_ACTION : ℕ
NOT_BETWEEN_ACTION = 583

abbrev pub CONCAT_ACTION : ℕ
CONCAT_ACTION = 584

abbrev pub PLUS_ACTION : ℕ
PLUS_ACTION = 585

abbrev pub MINUS_ACTION : ℕ
MINUS_ACTION = 586

abbrev pub TIMES_ACTION : ℕ
TIMES_ACTION = 587

abbrev pub NEGATIVE_ACTION : ℕ
NEGATIVE_ACTION = 588

abbrev pub CONSTANT_ACTION : ℕ
CONSTANT_ACTION = 589

abbrev pub NEGATE_ACTION : ℕ
NEGATE_ACTION = 590

abbrev pub PARENS_ACTION : ℕ
PARENS_ACTION = 591

abbrev pub SUM_ACTION : ℕ
SUM_ACTION = 592

abbrev pub MIN_ACTION : ℕ
MIN_ACTION = 593

abbrev pub MAX_ACTION : ℕ
MAX_ACTION = 594

abbrev pub COALESCE_ACTION : ℕ
COALESCE_ACTION = 595

abbrev pub ARMS_ACTION : ℕ
ARMS_ACTION = 596

abbrev pub COUNT_ALL_ACTION : ℕ
COUNT_ALL_ACTION = 597

abbrev pub COUNT_ACTION : ℕ
COUNT_ACTION = 598

abbrev pub ARM_ACTION : ℕ
ARM_ACTION = 599

abbrev pub CASE_ACTION : ℕ
CASE_ACTION = 600

abbrev pub CASE_ELSE_ACTION : ℕ
CASE_ELSE_ACTION = 601

abbrev pub TRANSACTION_WORD : ℕ
TRANSACTION_WORD = 448

abbrev pub ATOMIC_WORD : ℕ
ATOMIC_WORD = 449

abbrev pub SQLEXCEPTION_WORD : ℕ
SQLEXCEPTION_WORD = 450

abbrev pub ACCESSPATTERN_WORD : ℕ
ACCESSPATTERN_WORD = 451

abbrev pub CONSTRAINT_WORD : ℕ
CONSTRAINT_WORD = 452

abbrev pub DATA_WORD : ℕ
DATA_WORD = 453

abbrev pub DATABASE_WORD : ℕ
DATABASE_WORD = 454

abbrev pub EACH_WORD : ℕ
EACH_WORD = 455

abbrev pub FOR_WORD : ℕ
FOR_WORD = 456

abbrev pub FOREIGN_WORD : ℕ
FOREIGN_WORD = 457

abbrev pub INSTEAD_WORD : ℕ
INSTEAD_WORD = 458

abbrev pub KEY_WORD : ℕ
KEY_WORD = 459

abbrev pub OF_WORD : ℕ
OF_WORD = 460

abbrev pub OPTIONS_WORD : ℕ
OPTIONS_WORD = 461

abbrev pub PRIMARY_WORD : ℕ
PRIMARY_WORD = 462

abbrev pub PROCEDURE_WORD : ℕ
PROCEDURE_WORD = 463

abbrev pub RETURNS_WORD : ℕ
RETURNS_WORD = 464

abbrev pub ROW_WORD : ℕ
ROW_WORD = 465

abbrev pub SCHEMA_WORD : ℕ
SCHEMA_WORD = 466

abbrev pub SERVER_WORD : ℕ
SERVER_WORD = 467

abbrev pub TABLE_WORD : ℕ
TABLE_WORD = 468

abbrev pub TRIGGER_WORD : ℕ
TRIGGER_WORD = 469

abbrev pub TYPE_WORD : ℕ
TYPE_WORD = 470

abbrev pub USE_WORD : ℕ
USE_WORD = 471

abbrev pub VERSION_WORD : ℕ
VERSION_WORD = 472

abbrev pub VIEW_WORD : ℕ
VIEW_WORD = 473

abbrev pub VIRTUAL_WORD : ℕ
VIRTUAL_WORD = 474

abbrev pub WRAPPER_WORD : ℕ
WRAPPER_WORD = 475
