-- What each action of the grammar builds, in the order of their numbers. It is written by `tools/table.py`.
use Rattle.std.specs.Prelude.{true, false, List, [], ◌∷◌}
use Rattle.sql_reader.specs.declared.build.Action.{Action}
use Rattle.sql_reader.specs.declared.build.Action.TheVariants as action
use Rattle.sql_reader.specs.declared.build.TokenAction.TheVariants as token
use Rattle.sql_reader.specs.declared.build.ExprAction.TheVariants as expr
use Rattle.sql_reader.specs.declared.build.QueryAction.TheVariants as query
use Rattle.sql_reader.specs.declared.build.StatementAction.TheVariants as statement
use Rattle.sql_reader.specs.declared.tree.expr.Operator.TheVariants as operator
use Rattle.sql_reader.specs.declared.tree.expr.Comparison.TheVariants as comparison
use Rattle.sql_reader.specs.declared.tree.expr.Aggregate.TheVariants as aggregate

abbrev pub actions : List Action
actions =
    -- query!
    action.Query query.Query ∷
    -- name!
    action.Token token.Name ∷
    -- literal!
    action.Token token.Literal ∷
    -- key_name!
    action.Query (query.KeyName false) ∷
    -- key_name_down!
    action.Query (query.KeyName true) ∷
    -- key_number!
    action.Query (query.KeyNumber false) ∷
    -- key_number_down!
    action.Query (query.KeyNumber true) ∷
    -- limit!
    action.Query query.Limit ∷
    -- offset!
    action.Query query.Offset ∷
    -- selects!
    action.Query query.Selects ∷
    -- union!
    action.Query (query.Union false) ∷
    -- union_all!
    action.Query (query.Union true) ∷
    -- select!
    action.Query query.Select ∷
    -- distinct!
    action.Query query.Distinct ∷
    -- all!
    action.Query query.All ∷
    -- plain!
    action.Token token.Plain ∷
    -- operand!
    action.Expr expr.Column ∷
    -- all_of!
    action.Query query.AllOf ∷
    -- item_as!
    action.Query query.ItemAs ∷
    -- item!
    action.Query query.Item ∷
    -- from!
    action.Query query.From ∷
    -- inner!
    action.Query query.Inner ∷
    -- left!
    action.Query query.Left ∷
    -- cross!
    action.Query query.Cross ∷
    -- derived!
    action.Query query.Derived ∷
    -- table_as!
    action.Query query.TableAs ∷
    -- table!
    action.Query query.Table ∷
    -- relation_of!
    action.Token token.RelationOf ∷
    -- relation!
    action.Token token.Relation ∷
    -- where!
    action.Query query.Where ∷
    -- group_key!
    action.Query query.GroupKey ∷
    -- having!
    action.Query query.Having ∷
    -- in_schema!
    action.Token token.InSchema ∷
    -- of!
    action.Token token.Of ∷
    -- run!
    action.Statement statement.Query ∷
    -- explain!
    action.Statement statement.Explain ∷
    -- start!
    action.Statement statement.Start ∷
    -- commit!
    action.Statement statement.Commit ∷
    -- rollback!
    action.Statement statement.Rollback ∷
    -- names!
    action.Statement statement.Names ∷
    -- add_name!
    action.Statement statement.AddName ∷
    -- insert_values!
    action.Statement statement.InsertValues ∷
    -- insert_query!
    action.Statement statement.InsertQuery ∷
    -- assignments!
    action.Statement statement.Assignments ∷
    -- assign!
    action.Statement statement.Assign ∷
    -- update_where!
    action.Statement statement.UpdateWhere ∷
    -- update!
    action.Statement statement.Update ∷
    -- delete_where!
    action.Statement statement.DeleteWhere ∷
    -- delete!
    action.Statement statement.Delete ∷
    -- exec!
    action.Statement statement.Exec ∷
    -- list!
    action.Expr expr.List ∷
    -- add!
    action.Expr expr.Add ∷
    -- links!
    action.Expr expr.Links ∷
    -- chain!
    action.Expr expr.Chain ∷
    -- place!
    action.Token token.Place ∷
    -- or!
    action.Expr (expr.Link operator.Or) ∷
    -- and!
    action.Expr (expr.Link operator.And) ∷
    -- not!
    action.Expr expr.Not ∷
    -- equal!
    action.Expr (expr.Compare comparison.Equal) ∷
    -- not_equal!
    action.Expr (expr.Compare comparison.NotEqual) ∷
    -- less!
    action.Expr (expr.Compare comparison.Less) ∷
    -- at_most!
    action.Expr (expr.Compare comparison.AtMost) ∷
    -- greater!
    action.Expr (expr.Compare comparison.Greater) ∷
    -- at_least!
    action.Expr (expr.Compare comparison.AtLeast) ∷
    -- in!
    action.Expr (expr.In false) ∷
    -- like!
    action.Expr (expr.Like false) ∷
    -- between!
    action.Expr (expr.Between false) ∷
    -- is_null!
    action.Expr (expr.IsNull false) ∷
    -- is_not_null!
    action.Expr (expr.IsNull true) ∷
    -- not_in!
    action.Expr (expr.In true) ∷
    -- not_like!
    action.Expr (expr.Like true) ∷
    -- not_between!
    action.Expr (expr.Between true) ∷
    -- concat!
    action.Expr (expr.Link operator.Concat) ∷
    -- plus!
    action.Expr (expr.Link operator.Add) ∷
    -- minus!
    action.Expr (expr.Link operator.Subtract) ∷
    -- times!
    action.Expr (expr.Link operator.Multiply) ∷
    -- negative!
    action.Token token.Negative ∷
    -- constant!
    action.Expr expr.Constant ∷
    -- negate!
    action.Expr expr.Negate ∷
    -- parens!
    action.Expr expr.Parens ∷
    -- sum!
    action.Expr (expr.Aggregate aggregate.Sum) ∷
    -- min!
    action.Expr (expr.Aggregate aggregate.Min) ∷
    -- max!
    action.Expr (expr.Aggregate aggregate.Max) ∷
    -- coalesce!
    action.Expr expr.Coalesce ∷
    -- arms!
    action.Expr expr.Arms ∷
    -- count_all!
    action.Expr expr.CountAll ∷
    -- count!
    action.Expr (expr.Aggregate aggregate.Count) ∷
    -- arm!
    action.Expr expr.Arm ∷
    -- case!
    action.Expr expr.Case ∷
    -- case_else!
    action.Expr expr.CaseElse ∷
    []
