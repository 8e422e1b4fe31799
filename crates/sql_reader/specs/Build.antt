-- The tree that a derivation's actions build.
use Rattle.std.specs.Prelude.{ℕ, List, [], ◌∷◌, ◌-◌, reverse, slice_index_or}
use Rattle.grammar.specs.declared.machine.Event.{Event}
use Rattle.sql_reader.specs.declared.build.Action.{Action}
use Rattle.sql_reader.specs.declared.build.Action.TheVariants as action
use Rattle.sql_reader.specs.declared.build.parts.Parts.{Parts}
use Rattle.sql_reader.specs.Actions.{actions}
use Rattle.sql_reader.specs.BuildTokens.{token_on}
use Rattle.sql_reader.specs.BuildExprs.{expr_on}
use Rattle.sql_reader.specs.BuildQueries.{query_on}
use Rattle.sql_reader.specs.BuildStatements.{statement_on}
use Rattle.sql_reader.specs.Source.{Source}
use Rattle.sql_reader.specs.Symbols.{FIRST_ACTION}
use Rattle.sql_reader.specs.Waiting.{Waiting}

-- an action, after so many tokens
abbrev pub act_on : Source → ℕ → Action → Waiting → Waiting
act_on s n action.Nothing w = w
act_on s n (action.Token a) w = token_on s n a w
act_on s n (action.Expr a) w = expr_on a w
act_on s n (action.Query a) w = query_on s n a w
act_on s n (action.Statement a) w = statement_on s n a w

abbrev pub action_of : ℕ → Action
action_of n = slice_index_or actions (n - FIRST_ACTION) action.Nothing

-- the actions in turn
abbrev pub build : Source → List Event → Waiting → Waiting
build s [] w = w
build s (e ∷ es) w = build s es (act_on s e.at (action_of e.action) w)

-- what a builder has
abbrev pub waiting : Parts → Waiting
waiting p = record { places = reverse p.places.items; names = reverse p.names.items; literals = reverse p.literals.items; columns = reverse p.columns.items; relations = reverse p.relations.items; exprs = reverse p.exprs.items; lists = reverse p.lists.items; links = reverse p.links.items; arms = reverse p.arms.items; selects = reverse p.selects.items; sets = reverse p.sets.items; tables = reverse p.tables.items; queries = reverse p.queries.items; name_lists = reverse p.name_lists.items; assignments = reverse p.assignments.items; statements = reverse p.statements.items }
