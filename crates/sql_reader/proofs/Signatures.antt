-- What each symbol takes from the parts that wait and gives to them, the last one first.
use Rattle.std.specs.Prelude.{ℕ, List, [], ◌∷◌, ◌++◌}
use Rattle.grammar.proofs.Moves.{Signature, moves, none, nones}
use Rattle.sql_reader.specs.declared.build.Action.{Action}
use Rattle.sql_reader.specs.declared.build.Action.TheVariants as action
use Rattle.sql_reader.specs.declared.build.TokenAction.{TokenAction}
use Rattle.sql_reader.specs.declared.build.TokenAction.TheVariants as token
use Rattle.sql_reader.specs.declared.build.ExprAction.{ExprAction}
use Rattle.sql_reader.specs.declared.build.ExprAction.TheVariants as expr
use Rattle.sql_reader.specs.declared.build.QueryAction.{QueryAction}
use Rattle.sql_reader.specs.declared.build.QueryAction.TheVariants as query
use Rattle.sql_reader.specs.declared.build.StatementAction.{StatementAction}
use Rattle.sql_reader.specs.declared.build.StatementAction.TheVariants as statement

-- the kinds of parts

abbrev pub places : ℕ
places = 0

abbrev pub names : ℕ
names = 1

abbrev pub literals : ℕ
literals = 2

abbrev pub columns : ℕ
columns = 3

abbrev pub relations : ℕ
relations = 4

abbrev pub exprs : ℕ
exprs = 5

abbrev pub lists : ℕ
lists = 6

abbrev pub links : ℕ
links = 7

abbrev pub arms : ℕ
arms = 8

abbrev pub selects : ℕ
selects = 9

abbrev pub sets : ℕ
sets = 10

abbrev pub tables : ℕ
tables = 11

abbrev pub queries : ℕ
queries = 12

abbrev pub name_lists : ℕ
name_lists = 13

abbrev pub assignments : ℕ
assignments = 14

abbrev pub statements : ℕ
statements = 15

abbrev pub token_signature : TokenAction → Signature
token_signature token.Place = moves [] (places ∷ [])
token_signature token.Name = moves [] (names ∷ [])
token_signature token.Literal = moves [] (literals ∷ [])
token_signature token.Negative = moves [] (literals ∷ [])
token_signature token.Plain = moves (names ∷ []) (columns ∷ [])
token_signature token.Of = moves (names ∷ names ∷ []) (columns ∷ [])
token_signature token.InSchema = moves (names ∷ names ∷ names ∷ []) (columns ∷ [])
token_signature token.Relation = moves (names ∷ []) (relations ∷ [])
token_signature token.RelationOf = moves (names ∷ names ∷ []) (relations ∷ [])

abbrev pub expr_signature : ExprAction → Signature
expr_signature expr.Constant = moves (literals ∷ []) (exprs ∷ [])
expr_signature expr.Column = moves (columns ∷ []) (exprs ∷ [])
expr_signature expr.Parens = moves (exprs ∷ places ∷ []) (exprs ∷ [])
expr_signature expr.Negate = moves (exprs ∷ places ∷ []) (exprs ∷ [])
expr_signature expr.Not = moves (exprs ∷ places ∷ []) (exprs ∷ [])
expr_signature expr.Links = moves [] (links ∷ [])
expr_signature (expr.Link op) = moves (exprs ∷ places ∷ links ∷ []) (links ∷ [])
expr_signature expr.Chain = moves (links ∷ exprs ∷ []) (exprs ∷ [])
expr_signature (expr.Compare c) = moves (exprs ∷ places ∷ exprs ∷ []) (exprs ∷ [])
expr_signature (expr.IsNull negated) = moves (exprs ∷ []) (exprs ∷ [])
expr_signature expr.List = moves [] (lists ∷ [])
expr_signature expr.Add = moves (exprs ∷ lists ∷ []) (lists ∷ [])
expr_signature (expr.In negated) = moves (lists ∷ places ∷ exprs ∷ []) (exprs ∷ [])
expr_signature (expr.Like negated) = moves (literals ∷ places ∷ exprs ∷ []) (exprs ∷ [])
expr_signature (expr.Between negated) = moves (exprs ∷ exprs ∷ places ∷ exprs ∷ []) (exprs ∷ [])
expr_signature expr.CountAll = moves (places ∷ []) (exprs ∷ [])
expr_signature (expr.Aggregate a) = moves (exprs ∷ places ∷ []) (exprs ∷ [])
expr_signature expr.Coalesce = moves (lists ∷ places ∷ []) (exprs ∷ [])
expr_signature expr.Arms = moves [] (arms ∷ [])
expr_signature expr.Arm = moves (exprs ∷ exprs ∷ arms ∷ []) (arms ∷ [])
expr_signature expr.Case = moves (arms ∷ places ∷ []) (exprs ∷ [])
expr_signature expr.CaseElse = moves (exprs ∷ arms ∷ places ∷ []) (exprs ∷ [])

abbrev pub query_signature : QueryAction → Signature
query_signature query.Select = moves [] (selects ∷ [])
query_signature query.Distinct = moves (selects ∷ []) (selects ∷ [])
query_signature query.All = moves (selects ∷ []) (selects ∷ [])
query_signature query.AllOf = moves (names ∷ selects ∷ []) (selects ∷ [])
query_signature query.Item = moves (exprs ∷ selects ∷ []) (selects ∷ [])
query_signature query.ItemAs = moves (names ∷ exprs ∷ selects ∷ []) (selects ∷ [])
query_signature query.From = moves (tables ∷ selects ∷ []) (selects ∷ [])
query_signature query.Where = moves (exprs ∷ selects ∷ []) (selects ∷ [])
query_signature query.GroupKey = moves (columns ∷ selects ∷ []) (selects ∷ [])
query_signature query.Having = moves (exprs ∷ selects ∷ []) (selects ∷ [])
query_signature query.Selects = moves (selects ∷ []) (sets ∷ [])
query_signature (query.Union all) = moves (selects ∷ sets ∷ []) (sets ∷ [])
query_signature query.Table = moves (relations ∷ []) (tables ∷ [])
query_signature query.TableAs = moves (names ∷ relations ∷ []) (tables ∷ [])
query_signature query.Derived = moves (names ∷ sets ∷ []) (tables ∷ [])
query_signature query.Inner = moves (exprs ∷ tables ∷ tables ∷ []) (tables ∷ [])
query_signature query.Left = moves (exprs ∷ tables ∷ tables ∷ []) (tables ∷ [])
query_signature query.Cross = moves (tables ∷ tables ∷ []) (tables ∷ [])
query_signature query.Query = moves (sets ∷ []) (queries ∷ [])
query_signature (query.KeyName descending) = moves (names ∷ queries ∷ []) (queries ∷ [])
query_signature (query.KeyNumber descending) = moves (literals ∷ queries ∷ []) (queries ∷ [])
query_signature query.Limit = moves (literals ∷ queries ∷ []) (queries ∷ [])
query_signature query.Offset = moves (literals ∷ queries ∷ []) (queries ∷ [])

abbrev pub statement_signature : StatementAction → Signature
statement_signature statement.Query = moves (queries ∷ []) (statements ∷ [])
statement_signature statement.Explain = moves (queries ∷ []) (statements ∷ [])
statement_signature statement.Names = moves [] (name_lists ∷ [])
statement_signature statement.AddName = moves (names ∷ name_lists ∷ []) (name_lists ∷ [])
statement_signature statement.InsertValues = moves (lists ∷ name_lists ∷ relations ∷ []) (statements ∷ [])
statement_signature statement.InsertQuery = moves (sets ∷ name_lists ∷ relations ∷ []) (statements ∷ [])
statement_signature statement.Assignments = moves [] (assignments ∷ [])
statement_signature statement.Assign = moves (exprs ∷ names ∷ assignments ∷ []) (assignments ∷ [])
statement_signature statement.Update = moves (assignments ∷ relations ∷ []) (statements ∷ [])
statement_signature statement.UpdateWhere = moves (exprs ∷ assignments ∷ relations ∷ []) (statements ∷ [])
statement_signature statement.Delete = moves (relations ∷ []) (statements ∷ [])
statement_signature statement.DeleteWhere = moves (exprs ∷ relations ∷ []) (statements ∷ [])
statement_signature statement.Exec = moves (lists ∷ relations ∷ []) (statements ∷ [])
statement_signature statement.Start = moves [] (statements ∷ [])
statement_signature statement.Commit = moves [] (statements ∷ [])
statement_signature statement.Rollback = moves [] (statements ∷ [])

abbrev pub action_signature : Action → Signature
action_signature action.Nothing = none
action_signature (action.Token a) = token_signature a
action_signature (action.Expr a) = expr_signature a
action_signature (action.Query a) = query_signature a
action_signature (action.Statement a) = statement_signature a

-- of the tokens and guards, and then of the rules in turn
abbrev pub signatures : List Signature
signatures = nones 82 ++
    -- set_only
    moves [] (queries ∷ []) ∷
    -- query
    moves [] (queries ∷ []) ∷
    -- order_part
    moves (queries ∷ []) (queries ∷ []) ∷
    -- keys_rest
    moves (queries ∷ []) (queries ∷ []) ∷
    -- key
    moves (queries ∷ []) (queries ∷ []) ∷
    -- name_direction
    moves (names ∷ queries ∷ []) (queries ∷ []) ∷
    -- number_direction
    moves (literals ∷ queries ∷ []) (queries ∷ []) ∷
    -- limit_part
    moves (queries ∷ []) (queries ∷ []) ∷
    -- offset_part
    moves (queries ∷ []) (queries ∷ []) ∷
    -- set_query
    moves [] (sets ∷ []) ∷
    -- unions
    moves (sets ∷ []) (sets ∷ []) ∷
    -- union_end
    moves (sets ∷ []) (sets ∷ []) ∷
    -- select
    moves [] (selects ∷ []) ∷
    -- distinct_part
    moves (selects ∷ []) (selects ∷ []) ∷
    -- items
    moves (selects ∷ []) (selects ∷ []) ∷
    -- items_rest
    moves (selects ∷ []) (selects ∷ []) ∷
    -- item
    moves (selects ∷ []) (selects ∷ []) ∷
    -- name_item
    moves (names ∷ selects ∷ []) (selects ∷ []) ∷
    -- dot_item
    moves (names ∷ selects ∷ []) (selects ∷ []) ∷
    -- item_end
    moves (exprs ∷ selects ∷ []) (selects ∷ []) ∷
    -- from_part
    moves (selects ∷ []) (selects ∷ []) ∷
    -- from_rest
    moves (tables ∷ selects ∷ []) (selects ∷ []) ∷
    -- inner_join
    moves [] [] ∷
    -- left_join
    moves [] [] ∷
    -- outer_part
    moves [] [] ∷
    -- table
    moves [] (tables ∷ []) ∷
    -- table_end
    moves (relations ∷ []) (tables ∷ []) ∷
    -- optional_as
    moves [] [] ∷
    -- relation
    moves [] (relations ∷ []) ∷
    -- relation_end
    moves (names ∷ []) (relations ∷ []) ∷
    -- where_part
    moves (selects ∷ []) (selects ∷ []) ∷
    -- group_part
    moves (selects ∷ []) (selects ∷ []) ∷
    -- group_rest
    moves (selects ∷ []) (selects ∷ []) ∷
    -- having_part
    moves (selects ∷ []) (selects ∷ []) ∷
    -- column
    moves [] (columns ∷ []) ∷
    -- column_end
    moves (names ∷ []) (columns ∷ []) ∷
    -- column_last
    moves (names ∷ names ∷ []) (columns ∷ []) ∷
    -- statement
    moves [] (statements ∷ []) ∷
    -- insert
    moves [] (statements ∷ []) ∷
    -- columns_part
    moves (name_lists ∷ []) (name_lists ∷ []) ∷
    -- names_rest
    moves (name_lists ∷ []) (name_lists ∷ []) ∷
    -- insert_source
    moves (name_lists ∷ relations ∷ []) (statements ∷ []) ∷
    -- update
    moves [] (statements ∷ []) ∷
    -- assignment
    moves (assignments ∷ []) (assignments ∷ []) ∷
    -- assignments_rest
    moves (assignments ∷ []) (assignments ∷ []) ∷
    -- update_end
    moves (assignments ∷ relations ∷ []) (statements ∷ []) ∷
    -- delete
    moves [] (statements ∷ []) ∷
    -- delete_end
    moves (relations ∷ []) (statements ∷ []) ∷
    -- exec
    moves [] (statements ∷ []) ∷
    -- arguments
    moves [] (lists ∷ []) ∷
    -- list
    moves [] (lists ∷ []) ∷
    -- list_rest
    moves (lists ∷ []) (lists ∷ []) ∷
    -- e
    moves [] (exprs ∷ []) ∷
    -- or_tail
    moves (exprs ∷ []) (exprs ∷ []) ∷
    -- or_link
    moves (links ∷ []) (links ∷ []) ∷
    -- or_rest
    moves (links ∷ []) (links ∷ []) ∷
    -- conjunction
    moves [] (exprs ∷ []) ∷
    -- and_tail
    moves (exprs ∷ []) (exprs ∷ []) ∷
    -- and_link
    moves (links ∷ []) (links ∷ []) ∷
    -- and_rest
    moves (links ∷ []) (links ∷ []) ∷
    -- negation
    moves [] (exprs ∷ []) ∷
    -- predicate
    moves [] (exprs ∷ []) ∷
    -- predicate_end
    moves (exprs ∷ []) (exprs ∷ []) ∷
    -- is_end
    moves (exprs ∷ []) (exprs ∷ []) ∷
    -- not_end
    moves (exprs ∷ []) (exprs ∷ []) ∷
    -- concat
    moves [] (exprs ∷ []) ∷
    -- concat_tail
    moves (exprs ∷ []) (exprs ∷ []) ∷
    -- concat_link
    moves (links ∷ []) (links ∷ []) ∷
    -- concat_rest
    moves (links ∷ []) (links ∷ []) ∷
    -- sum
    moves [] (exprs ∷ []) ∷
    -- sum_tail
    moves (exprs ∷ []) (exprs ∷ []) ∷
    -- sum_link
    moves (links ∷ []) (links ∷ []) ∷
    -- sum_rest
    moves (links ∷ []) (links ∷ []) ∷
    -- product
    moves [] (exprs ∷ []) ∷
    -- product_tail
    moves (exprs ∷ []) (exprs ∷ []) ∷
    -- product_link
    moves (links ∷ []) (links ∷ []) ∷
    -- product_rest
    moves (links ∷ []) (links ∷ []) ∷
    -- unary
    moves [] (exprs ∷ []) ∷
    -- minus_end
    moves [] (exprs ∷ []) ∷
    -- after_operand
    moves (exprs ∷ []) (exprs ∷ []) ∷
    -- atom
    moves [] (exprs ∷ []) ∷
    -- count_end
    moves (places ∷ []) (exprs ∷ []) ∷
    -- arm
    moves (arms ∷ []) (arms ∷ []) ∷
    -- arms_rest
    moves (arms ∷ []) (arms ∷ []) ∷
    -- case_end
    moves (arms ∷ places ∷ []) (exprs ∷ []) ∷
    []
