-- What each rule and each action of a query takes from what stands before it, and gives, the last one first.
use Rattle.std.specs.Prelude.{ℕ, true, false, List, [], ◌∷◌, ◌++◌}
use Rattle.std.proofs.Common.{zero, suc}
use Rattle.sql_reader.specs.declared.build.Action.{Action}
use Rattle.sql_reader.specs.declared.build.Action.TheVariants as act
use Rattle.sql_reader.specs.declared.build.TokenAction.{TokenAction}
use Rattle.sql_reader.specs.declared.build.TokenAction.TheVariants as token
use Rattle.sql_reader.specs.declared.build.ExprAction.{ExprAction}
use Rattle.sql_reader.specs.declared.build.ExprAction.TheVariants as action
use Rattle.sql_reader.specs.declared.build.QueryAction.{QueryAction}
use Rattle.sql_reader.specs.declared.build.QueryAction.TheVariants as query
use Rattle.sql_reader.specs.declared.build.StatementAction.{StatementAction}
use Rattle.sql_reader.specs.declared.build.StatementAction.TheVariants as statement
use Rattle.sql_reader.specs.Symbols as symbol
use Rattle.sql_printer.specs.Exprs.{operator_kind, comparison_kind, aggregate_kind}
use Rattle.sql_printer.proofs.Held.{Kind, Word, Special, Place, AName, ALiteral, AColumn, ARelation, AnExpr, NoList, AList, Links, Arms, Begun, Distinct, Items, SomeTables, Tables, Condition, SomeGroup, Group, ASelect, ASet, ATable, Unordered, SomeKeys, Keys, Limited, AQuery, AStatement}
use Rattle.grammar.proofs.Stages.{Signature, moves}

abbrev nones : ℕ → List (List (Signature Kind))
nones zero = []
nones (suc n) = [] ∷ nones n

abbrev pub token_stages : TokenAction → List (Signature Kind)
token_stages token.Name = moves (Special symbol.NAME ∷ []) (AName ∷ []) ∷ []
token_stages token.Literal = moves (Special symbol.NUMERAL ∷ []) (ALiteral ∷ []) ∷ moves (Special symbol.STRING ∷ []) (ALiteral ∷ []) ∷ moves (Special symbol.CONSTANT ∷ []) (ALiteral ∷ []) ∷ []
token_stages token.Negative = moves (Special symbol.NUMERAL ∷ Word symbol.MINUS ∷ []) (ALiteral ∷ []) ∷ []
token_stages token.Place = moves [] (Place ∷ []) ∷ []
token_stages token.Plain = moves (AName ∷ []) (AColumn ∷ []) ∷ []
token_stages token.Of = moves (AName ∷ Word symbol.DOT ∷ AName ∷ []) (AColumn ∷ []) ∷ []
token_stages token.InSchema = moves (AName ∷ Word symbol.DOT ∷ AName ∷ Word symbol.DOT ∷ AName ∷ []) (AColumn ∷ []) ∷ []
token_stages token.Relation = moves (AName ∷ []) (ARelation ∷ []) ∷ []
token_stages token.RelationOf = moves (AName ∷ Word symbol.DOT ∷ AName ∷ []) (ARelation ∷ []) ∷ []

abbrev pub expr_stages : ExprAction → List (Signature Kind)
expr_stages action.Constant = moves (ALiteral ∷ []) (AnExpr ∷ []) ∷ []
expr_stages action.Column = moves (AColumn ∷ []) (AnExpr ∷ []) ∷ []
expr_stages action.Parens = moves (Word symbol.CLOSE ∷ AnExpr ∷ Place ∷ Word symbol.OPEN ∷ []) (AnExpr ∷ []) ∷ []
expr_stages action.Negate = moves (AnExpr ∷ Place ∷ Word symbol.MINUS ∷ []) (AnExpr ∷ []) ∷ []
expr_stages action.Not = moves (AnExpr ∷ Place ∷ Word symbol.NOT ∷ []) (AnExpr ∷ []) ∷ []
expr_stages action.Links = moves [] (Links ∷ []) ∷ []
expr_stages (action.Link op) = moves (AnExpr ∷ Place ∷ Word (operator_kind op) ∷ Links ∷ []) (Links ∷ []) ∷ []
expr_stages action.Chain = moves (Links ∷ AnExpr ∷ []) (AnExpr ∷ []) ∷ []
expr_stages (action.Compare c) = moves (AnExpr ∷ Place ∷ Word (comparison_kind c) ∷ AnExpr ∷ []) (AnExpr ∷ []) ∷ []
expr_stages (action.IsNull false) = moves (Word symbol.NULL ∷ Word symbol.IS ∷ AnExpr ∷ []) (AnExpr ∷ []) ∷ []
expr_stages (action.IsNull true) = moves (Word symbol.NULL ∷ Word symbol.NOT ∷ Word symbol.IS ∷ AnExpr ∷ []) (AnExpr ∷ []) ∷ []
expr_stages action.List = moves [] (NoList ∷ []) ∷ []
expr_stages action.Add = moves (AnExpr ∷ NoList ∷ []) (AList ∷ []) ∷ moves (AnExpr ∷ Word symbol.COMMA ∷ AList ∷ []) (AList ∷ []) ∷ []
expr_stages (action.In false) = moves (Word symbol.CLOSE ∷ AList ∷ Word symbol.OPEN ∷ Place ∷ Word symbol.IN ∷ AnExpr ∷ []) (AnExpr ∷ []) ∷ []
expr_stages (action.In true) = moves (Word symbol.CLOSE ∷ AList ∷ Word symbol.OPEN ∷ Place ∷ Word symbol.IN ∷ Word symbol.NOT ∷ AnExpr ∷ []) (AnExpr ∷ []) ∷ []
expr_stages (action.Like false) = moves (ALiteral ∷ Place ∷ Word symbol.LIKE ∷ AnExpr ∷ []) (AnExpr ∷ []) ∷ []
expr_stages (action.Like true) = moves (ALiteral ∷ Place ∷ Word symbol.LIKE ∷ Word symbol.NOT ∷ AnExpr ∷ []) (AnExpr ∷ []) ∷ []
expr_stages (action.Between false) = moves (AnExpr ∷ Word symbol.AND ∷ AnExpr ∷ Place ∷ Word symbol.BETWEEN ∷ AnExpr ∷ []) (AnExpr ∷ []) ∷ []
expr_stages (action.Between true) = moves (AnExpr ∷ Word symbol.AND ∷ AnExpr ∷ Place ∷ Word symbol.BETWEEN ∷ Word symbol.NOT ∷ AnExpr ∷ []) (AnExpr ∷ []) ∷ []
expr_stages action.CountAll = moves (Word symbol.CLOSE ∷ Word symbol.TIMES ∷ Word symbol.OPEN ∷ Place ∷ Word symbol.COUNT ∷ []) (AnExpr ∷ []) ∷ []
expr_stages (action.Aggregate g) = moves (Word symbol.CLOSE ∷ AnExpr ∷ Word symbol.OPEN ∷ Place ∷ Word (aggregate_kind g) ∷ []) (AnExpr ∷ []) ∷ []
expr_stages action.Coalesce = moves (Word symbol.CLOSE ∷ AList ∷ Word symbol.OPEN ∷ Place ∷ Word symbol.COALESCE ∷ []) (AnExpr ∷ []) ∷ []
expr_stages action.Arms = moves [] (Arms ∷ []) ∷ []
expr_stages action.Arm = moves (AnExpr ∷ Word symbol.THEN ∷ AnExpr ∷ Word symbol.WHEN ∷ Arms ∷ []) (Arms ∷ []) ∷ []
expr_stages action.Case = moves (Word symbol.END ∷ Arms ∷ Place ∷ Word symbol.CASE ∷ []) (AnExpr ∷ []) ∷ []
expr_stages action.CaseElse = moves (Word symbol.END ∷ AnExpr ∷ Word symbol.ELSE ∷ Arms ∷ Place ∷ Word symbol.CASE ∷ []) (AnExpr ∷ []) ∷ []

abbrev pub query_stages : QueryAction → List (Signature Kind)
query_stages query.Select = moves (Word symbol.SELECT ∷ []) (Begun ∷ []) ∷ []
query_stages query.Distinct = moves (Word symbol.DISTINCT ∷ Begun ∷ []) (Distinct ∷ []) ∷ []
query_stages query.All = moves (Word symbol.TIMES ∷ Distinct ∷ []) (Items ∷ []) ∷ []
query_stages query.AllOf = moves (Word symbol.TIMES ∷ Word symbol.DOT ∷ AName ∷ Distinct ∷ []) (Items ∷ []) ∷ moves (Word symbol.TIMES ∷ Word symbol.DOT ∷ AName ∷ Word symbol.COMMA ∷ Items ∷ []) (Items ∷ []) ∷ []
query_stages query.Item = moves (AnExpr ∷ Distinct ∷ []) (Items ∷ []) ∷ moves (AnExpr ∷ Word symbol.COMMA ∷ Items ∷ []) (Items ∷ []) ∷ []
query_stages query.ItemAs = moves (AName ∷ AnExpr ∷ Distinct ∷ []) (Items ∷ []) ∷ moves (AName ∷ AnExpr ∷ Word symbol.COMMA ∷ Items ∷ []) (Items ∷ []) ∷ []
query_stages query.From = moves (Word symbol.COMMA ∷ ATable ∷ Word symbol.FROM ∷ Items ∷ []) (Word symbol.COMMA ∷ SomeTables ∷ []) ∷ moves (Word symbol.COMMA ∷ ATable ∷ Word symbol.COMMA ∷ SomeTables ∷ []) (Word symbol.COMMA ∷ SomeTables ∷ []) ∷ moves (ATable ∷ Word symbol.FROM ∷ Items ∷ []) (SomeTables ∷ []) ∷ moves (ATable ∷ Word symbol.COMMA ∷ SomeTables ∷ []) (SomeTables ∷ []) ∷ []
query_stages query.Inner = moves (AnExpr ∷ Word symbol.ON ∷ ATable ∷ Word symbol.JOIN ∷ ATable ∷ []) (ATable ∷ []) ∷ []
query_stages query.Left = moves (AnExpr ∷ Word symbol.ON ∷ ATable ∷ Word symbol.JOIN ∷ Word symbol.LEFT ∷ ATable ∷ []) (ATable ∷ []) ∷ []
query_stages query.Cross = moves (ATable ∷ Word symbol.JOIN ∷ Word symbol.CROSS ∷ ATable ∷ []) (ATable ∷ []) ∷ []
query_stages query.Where = moves (AnExpr ∷ Word symbol.WHERE ∷ Tables ∷ []) (Condition ∷ []) ∷ []
query_stages query.GroupKey = moves (AColumn ∷ Word symbol.BY ∷ Word symbol.GROUP ∷ Condition ∷ []) (SomeGroup ∷ []) ∷ moves (AColumn ∷ Word symbol.COMMA ∷ SomeGroup ∷ []) (SomeGroup ∷ []) ∷ []
query_stages query.Having = moves (AnExpr ∷ Word symbol.HAVING ∷ Group ∷ []) (ASelect ∷ []) ∷ []
query_stages query.Selects = moves (ASelect ∷ []) (ASet ∷ []) ∷ []
query_stages (query.Union false) = moves (ASelect ∷ Word symbol.UNION ∷ ASet ∷ []) (ASet ∷ []) ∷ []
query_stages (query.Union true) = moves (ASelect ∷ Word symbol.ALL ∷ Word symbol.UNION ∷ ASet ∷ []) (ASet ∷ []) ∷ []
query_stages query.Table = moves (ARelation ∷ []) (ATable ∷ []) ∷ []
query_stages query.TableAs = moves (AName ∷ ARelation ∷ []) (ATable ∷ []) ∷ []
query_stages query.Derived = moves (AName ∷ Word symbol.CLOSE ∷ ASet ∷ Word symbol.OPEN ∷ []) (ATable ∷ []) ∷ []
query_stages query.Query = moves (ASet ∷ []) (Unordered ∷ []) ∷ []
query_stages (query.KeyName false) = moves (AName ∷ Word symbol.BY ∷ Word symbol.ORDER ∷ Unordered ∷ []) (SomeKeys ∷ []) ∷ moves (AName ∷ Word symbol.COMMA ∷ SomeKeys ∷ []) (SomeKeys ∷ []) ∷ []
query_stages (query.KeyName true) = moves (Word symbol.DESC ∷ AName ∷ Word symbol.BY ∷ Word symbol.ORDER ∷ Unordered ∷ []) (SomeKeys ∷ []) ∷ moves (Word symbol.DESC ∷ AName ∷ Word symbol.COMMA ∷ SomeKeys ∷ []) (SomeKeys ∷ []) ∷ []
query_stages (query.KeyNumber false) = moves (ALiteral ∷ Word symbol.BY ∷ Word symbol.ORDER ∷ Unordered ∷ []) (SomeKeys ∷ []) ∷ moves (ALiteral ∷ Word symbol.COMMA ∷ SomeKeys ∷ []) (SomeKeys ∷ []) ∷ []
query_stages (query.KeyNumber true) = moves (Word symbol.DESC ∷ ALiteral ∷ Word symbol.BY ∷ Word symbol.ORDER ∷ Unordered ∷ []) (SomeKeys ∷ []) ∷ moves (Word symbol.DESC ∷ ALiteral ∷ Word symbol.COMMA ∷ SomeKeys ∷ []) (SomeKeys ∷ []) ∷ []
query_stages query.Limit = moves (ALiteral ∷ Word symbol.LIMIT ∷ Keys ∷ []) (Limited ∷ []) ∷ []
query_stages query.Offset = moves (ALiteral ∷ Word symbol.OFFSET ∷ Limited ∷ []) (AQuery ∷ []) ∷ []

abbrev pub statement_stages : StatementAction → List (Signature Kind)
statement_stages statement.Query = moves (AQuery ∷ []) (AStatement ∷ []) ∷ []
statement_stages _ = []

abbrev pub action_stages : Action → List (Signature Kind)
action_stages act.Nothing = []
action_stages (act.Token a) = token_stages a
action_stages (act.Expr a) = expr_stages a
action_stages (act.Query a) = query_stages a
action_stages (act.Statement a) = statement_stages a

-- of the tokens and guards, and then of the rules in turn
abbrev pub rule_stages : List (List (Signature Kind))
rule_stages = nones 82 ++
    -- set_only
    (moves [] (AQuery ∷ []) ∷ []) ∷
    -- query
    (moves [] (AQuery ∷ []) ∷ []) ∷
    -- order_part
    (moves (Unordered ∷ []) (Keys ∷ []) ∷ []) ∷
    -- keys_rest
    (moves (SomeKeys ∷ []) (SomeKeys ∷ []) ∷ []) ∷
    -- key
    (moves (Word symbol.BY ∷ Word symbol.ORDER ∷ Unordered ∷ []) (SomeKeys ∷ []) ∷ moves (Word symbol.COMMA ∷ SomeKeys ∷ []) (SomeKeys ∷ []) ∷ []) ∷
    -- name_direction
    (moves (AName ∷ Word symbol.BY ∷ Word symbol.ORDER ∷ Unordered ∷ []) (SomeKeys ∷ []) ∷ moves (AName ∷ Word symbol.COMMA ∷ SomeKeys ∷ []) (SomeKeys ∷ []) ∷ []) ∷
    -- number_direction
    (moves (ALiteral ∷ Word symbol.BY ∷ Word symbol.ORDER ∷ Unordered ∷ []) (SomeKeys ∷ []) ∷ moves (ALiteral ∷ Word symbol.COMMA ∷ SomeKeys ∷ []) (SomeKeys ∷ []) ∷ []) ∷
    -- limit_part
    (moves (Keys ∷ []) (Limited ∷ []) ∷ []) ∷
    -- offset_part
    (moves (Limited ∷ []) (AQuery ∷ []) ∷ []) ∷
    -- set_query
    (moves [] (ASet ∷ []) ∷ []) ∷
    -- unions
    (moves (ASet ∷ []) (ASet ∷ []) ∷ []) ∷
    -- union_end
    (moves (Word symbol.UNION ∷ ASet ∷ []) (ASet ∷ []) ∷ []) ∷
    -- select
    (moves [] (ASelect ∷ []) ∷ []) ∷
    -- distinct_part
    (moves (Begun ∷ []) (Distinct ∷ []) ∷ []) ∷
    -- items
    (moves (Distinct ∷ []) (Items ∷ []) ∷ []) ∷
    -- items_rest
    (moves (Items ∷ []) (Items ∷ []) ∷ []) ∷
    -- item
    (moves (Distinct ∷ []) (Items ∷ []) ∷ moves (Word symbol.COMMA ∷ Items ∷ []) (Items ∷ []) ∷ []) ∷
    -- name_item
    (moves (AName ∷ Distinct ∷ []) (Items ∷ []) ∷ moves (AName ∷ Word symbol.COMMA ∷ Items ∷ []) (Items ∷ []) ∷ []) ∷
    -- dot_item
    (moves (Word symbol.DOT ∷ AName ∷ Distinct ∷ []) (Items ∷ []) ∷ moves (Word symbol.DOT ∷ AName ∷ Word symbol.COMMA ∷ Items ∷ []) (Items ∷ []) ∷ []) ∷
    -- item_end
    (moves (AnExpr ∷ Distinct ∷ []) (Items ∷ []) ∷ moves (AnExpr ∷ Word symbol.COMMA ∷ Items ∷ []) (Items ∷ []) ∷ []) ∷
    -- from_part
    (moves (Items ∷ []) (Tables ∷ []) ∷ []) ∷
    -- from_rest
    (moves (ATable ∷ Word symbol.FROM ∷ Items ∷ []) (SomeTables ∷ []) ∷ moves (ATable ∷ Word symbol.COMMA ∷ SomeTables ∷ []) (SomeTables ∷ []) ∷ []) ∷
    -- inner_join
    (moves [] (Word symbol.JOIN ∷ []) ∷ []) ∷
    -- left_join
    (moves [] (Word symbol.JOIN ∷ Word symbol.LEFT ∷ []) ∷ []) ∷
    -- outer_part
    (moves [] [] ∷ []) ∷
    -- table
    (moves [] (ATable ∷ []) ∷ []) ∷
    -- table_end
    (moves (ARelation ∷ []) (ATable ∷ []) ∷ []) ∷
    -- optional_as
    (moves [] [] ∷ []) ∷
    -- relation
    (moves [] (ARelation ∷ []) ∷ []) ∷
    -- relation_end
    (moves (AName ∷ []) (ARelation ∷ []) ∷ []) ∷
    -- where_part
    (moves (Tables ∷ []) (Condition ∷ []) ∷ []) ∷
    -- group_part
    (moves (Condition ∷ []) (Group ∷ []) ∷ []) ∷
    -- group_rest
    (moves (SomeGroup ∷ []) (SomeGroup ∷ []) ∷ []) ∷
    -- having_part
    (moves (Group ∷ []) (ASelect ∷ []) ∷ []) ∷
    -- column
    (moves [] (AColumn ∷ []) ∷ []) ∷
    -- column_end
    (moves (AName ∷ []) (AColumn ∷ []) ∷ []) ∷
    -- column_last
    (moves (AName ∷ Word symbol.DOT ∷ AName ∷ []) (AColumn ∷ []) ∷ []) ∷
    -- statements other than queries
    [] ∷
    [] ∷
    [] ∷
    [] ∷
    [] ∷
    [] ∷
    [] ∷
    [] ∷
    [] ∷
    [] ∷
    [] ∷
    [] ∷
    [] ∷
    -- list
    (moves [] (AList ∷ []) ∷ []) ∷
    -- list_rest
    (moves (AList ∷ []) (AList ∷ []) ∷ []) ∷
    -- e
    (moves [] (AnExpr ∷ []) ∷ []) ∷
    -- or_tail
    (moves (AnExpr ∷ []) (AnExpr ∷ []) ∷ []) ∷
    -- or_link
    (moves (Links ∷ []) (Links ∷ []) ∷ []) ∷
    -- or_rest
    (moves (Links ∷ []) (Links ∷ []) ∷ []) ∷
    -- conjunction
    (moves [] (AnExpr ∷ []) ∷ []) ∷
    -- and_tail
    (moves (AnExpr ∷ []) (AnExpr ∷ []) ∷ []) ∷
    -- and_link
    (moves (Links ∷ []) (Links ∷ []) ∷ []) ∷
    -- and_rest
    (moves (Links ∷ []) (Links ∷ []) ∷ []) ∷
    -- negation
    (moves [] (AnExpr ∷ []) ∷ []) ∷
    -- predicate
    (moves [] (AnExpr ∷ []) ∷ []) ∷
    -- predicate_end
    (moves (AnExpr ∷ []) (AnExpr ∷ []) ∷ []) ∷
    -- is_end
    (moves (Word symbol.IS ∷ AnExpr ∷ []) (AnExpr ∷ []) ∷ []) ∷
    -- not_end
    (moves (Word symbol.NOT ∷ AnExpr ∷ []) (AnExpr ∷ []) ∷ []) ∷
    -- concat
    (moves [] (AnExpr ∷ []) ∷ []) ∷
    -- concat_tail
    (moves (AnExpr ∷ []) (AnExpr ∷ []) ∷ []) ∷
    -- concat_link
    (moves (Links ∷ []) (Links ∷ []) ∷ []) ∷
    -- concat_rest
    (moves (Links ∷ []) (Links ∷ []) ∷ []) ∷
    -- sum
    (moves [] (AnExpr ∷ []) ∷ []) ∷
    -- sum_tail
    (moves (AnExpr ∷ []) (AnExpr ∷ []) ∷ []) ∷
    -- sum_link
    (moves (Links ∷ []) (Links ∷ []) ∷ []) ∷
    -- sum_rest
    (moves (Links ∷ []) (Links ∷ []) ∷ []) ∷
    -- product
    (moves [] (AnExpr ∷ []) ∷ []) ∷
    -- product_tail
    (moves (AnExpr ∷ []) (AnExpr ∷ []) ∷ []) ∷
    -- product_link
    (moves (Links ∷ []) (Links ∷ []) ∷ []) ∷
    -- product_rest
    (moves (Links ∷ []) (Links ∷ []) ∷ []) ∷
    -- unary
    (moves [] (AnExpr ∷ []) ∷ []) ∷
    -- minus_end
    (moves (Word symbol.MINUS ∷ []) (AnExpr ∷ []) ∷ []) ∷
    -- after_operand
    (moves (AnExpr ∷ []) (AnExpr ∷ []) ∷ []) ∷
    -- atom
    (moves [] (AnExpr ∷ []) ∷ []) ∷
    -- count_end
    (moves (Word symbol.OPEN ∷ Place ∷ Word symbol.COUNT ∷ []) (AnExpr ∷ []) ∷ []) ∷
    -- arm
    (moves (Arms ∷ []) (Arms ∷ []) ∷ []) ∷
    -- arms_rest
    (moves (Arms ∷ []) (Arms ∷ []) ∷ []) ∷
    -- case_end
    (moves (Arms ∷ Place ∷ Word symbol.CASE ∷ []) (AnExpr ∷ []) ∷ []) ∷
    []
