-- What is built of statements.
use Rattle.std.specs.Prelude.{ℕ, List, [], ◌∷◌, ◌++◌, Option, Some, None}
use Rattle.sql_reader.specs.declared.build.StatementAction.{StatementAction}
use Rattle.sql_reader.specs.declared.build.StatementAction.TheVariants as action
use Rattle.sql_reader.specs.declared.tree.expr.Expr.{Expr}
use Rattle.sql_reader.specs.declared.tree.name.Name.{Name}
use Rattle.sql_reader.specs.declared.tree.name.RelationName.{RelationName}
use Rattle.sql_reader.specs.declared.tree.query.Query.{Query}
use Rattle.sql_reader.specs.declared.tree.query.SetQuery.{SetQuery}
use Rattle.sql_reader.specs.declared.tree.statement.Assignment.{Assignment}
use Rattle.sql_reader.specs.declared.tree.statement.InsertSource.TheVariants as source
use Rattle.sql_reader.specs.declared.tree.statement.Statement.{Statement}
use Rattle.sql_reader.specs.declared.tree.statement.Statement.TheVariants as statement
use Rattle.sql_reader.specs.Source.{Source, place_at}
use Rattle.sql_reader.specs.Waiting.{Waiting, rest, made, made2, made3, put, put2}

abbrev pub run : Query → Statement
run query = statement.Query query

abbrev pub explain : Query → Statement
explain query = statement.Explain query

abbrev pub add_name : Name → List Name → List Name
add_name name names = names ++ name ∷ []

abbrev pub insert_values : RelationName → List Name → List Expr → Statement
insert_values target columns values = statement.Insert (record { target = target; columns = columns; source = source.Values values })

abbrev pub insert_query : RelationName → List Name → SetQuery → Statement
insert_query target columns query = statement.Insert (record { target = target; columns = columns; source = source.Query query })

abbrev pub assign : Name → Expr → List Assignment → List Assignment
assign column value assignments = assignments ++ record { column = column; value = value } ∷ []

abbrev pub update : Option Expr → RelationName → List Assignment → Statement
update condition target assignments = statement.Update (record { target = target; assignments = assignments; condition = condition })

abbrev pub update_where : Expr → RelationName → List Assignment → Statement
update_where condition = update (Some condition)

abbrev pub delete : Option Expr → RelationName → Statement
delete condition target = statement.Delete (record { target = target; condition = condition })

abbrev pub delete_where : Expr → RelationName → Statement
delete_where condition = delete (Some condition)

abbrev pub exec : ℕ → RelationName → List Expr → Statement
exec close procedure arguments = statement.Exec (record { procedure = procedure; arguments = arguments; close = close })

-- after so many tokens
abbrev pub statement_on : Source → ℕ → StatementAction → Waiting → Waiting
statement_on s n action.Query w = record w { queries = rest w.queries; statements = made run w.queries w.statements }
statement_on s n action.Explain w = record w { queries = rest w.queries; statements = made explain w.queries w.statements }
statement_on s n action.Names w = record w { name_lists = [] ∷ w.name_lists }
statement_on s n action.AddName w = record w { names = rest w.names; name_lists = put add_name w.names w.name_lists }
statement_on s n action.InsertValues w = record w { relations = rest w.relations; name_lists = rest w.name_lists; lists = rest w.lists; statements = made3 insert_values w.relations w.name_lists w.lists w.statements }
statement_on s n action.InsertQuery w = record w { relations = rest w.relations; name_lists = rest w.name_lists; sets = rest w.sets; statements = made3 insert_query w.relations w.name_lists w.sets w.statements }
statement_on s n action.Assignments w = record w { assignments = [] ∷ w.assignments }
statement_on s n action.Assign w = record w { names = rest w.names; exprs = rest w.exprs; assignments = put2 assign w.names w.exprs w.assignments }
statement_on s n action.Update w = record w { relations = rest w.relations; assignments = rest w.assignments; statements = made2 (update None) w.relations w.assignments w.statements }
statement_on s n action.UpdateWhere w = record w { exprs = rest w.exprs; relations = rest w.relations; assignments = rest w.assignments; statements = made3 update_where w.exprs w.relations w.assignments w.statements }
statement_on s n action.Delete w = record w { relations = rest w.relations; statements = made (delete None) w.relations w.statements }
statement_on s n action.DeleteWhere w = record w { exprs = rest w.exprs; relations = rest w.relations; statements = made2 delete_where w.exprs w.relations w.statements }
statement_on s n action.Exec w = record w { relations = rest w.relations; lists = rest w.lists; statements = made2 (exec (place_at s n)) w.relations w.lists w.statements }
statement_on s n action.Start w = record w { statements = statement.Start ∷ w.statements }
statement_on s n action.Commit w = record w { statements = statement.Commit ∷ w.statements }
statement_on s n action.Rollback w = record w { statements = statement.Rollback ∷ w.statements }
