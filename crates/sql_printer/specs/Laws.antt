-- What is to hold of printed queries.
use Rattle.std.specs.Prelude.{ℕ, List, ◌≡◌}
use Rattle.sql_reader.specs.declared.tree.query.Query.{Query}
use Rattle.sql_reader.specs.declared.tree.statement.Statement.TheVariants as statement
use Rattle.sql_reader.specs.Trees.{IsStatement}
use Rattle.sql_printer.specs.Bare.{bare}
use Rattle.sql_printer.specs.Queries.{printed}
use Rattle.sql_printer.specs.Spelled.{spelled}

-- The text of a query that was read is a statement, which is that query but for places.
abbrev pub PrintedIsRead : Type 0
PrintedIsRead = (text : List ℕ) (q : Query) → IsStatement text (statement.Query q)
    → (again : Query) × IsStatement (spelled (printed q)) (statement.Query again) × (bare again ≡ bare q)
