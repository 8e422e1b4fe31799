-- What is built of single tokens: places, names, literals, and the names of columns and relations.
use Rattle.std.specs.Prelude.{ℕ, ◌∷◌, Option, Some, None}
use Rattle.sql_reader.specs.declared.build.TokenAction.{TokenAction}
use Rattle.sql_reader.specs.declared.build.TokenAction.TheVariants as token
use Rattle.sql_reader.specs.declared.tree.name.Name.{Name}
use Rattle.sql_reader.specs.declared.tree.name.RelationName.{RelationName}
use Rattle.sql_reader.specs.declared.tree.name.ColumnName.TheVariants as column
use Rattle.sql_reader.specs.Source.{Source, place_at, name_at, literal_at, negative_at}
use Rattle.sql_reader.specs.Waiting.{Waiting, rest, made, made_of_two, made_of_three}

abbrev pub relation : Name → RelationName
relation name = record { schema = None; name = name }

abbrev pub relation_of : Name → Name → RelationName
relation_of schema name = record { schema = Some schema; name = name }

-- after so many tokens
abbrev pub token_on : Source → ℕ → TokenAction → Waiting → Waiting
token_on s n token.Place w = record w { places = place_at s n ∷ w.places }
token_on s n token.Name w = record w { names = name_at s n ∷ w.names }
token_on s n token.Literal w = record w { literals = literal_at s n ∷ w.literals }
token_on s n token.Negative w = record w { literals = negative_at s n ∷ w.literals }
token_on s n token.Plain w = record w { names = rest w.names; columns = made column.Plain w.names w.columns }
token_on s n token.Of w = record w { names = rest (rest w.names); columns = made_of_two column.Of w.names w.columns }
token_on s n token.InSchema w = record w { names = rest (rest (rest w.names)); columns = made_of_three column.InSchema w.names w.columns }
token_on s n token.Relation w = record w { names = rest w.names; relations = made relation w.names w.relations }
token_on s n token.RelationOf w = record w { names = rest (rest w.names); relations = made_of_two relation_of w.names w.relations }
