-- What lanes show of a catalog's tables: which lane holds the tables of a server, and the rows of all tables.
use Rattle.std.specs.Prelude.{ℕ, ◌+◌, Bool, false, ◌==◌, if◌then◌else◌, List, [], ◌∷◌, Option, Some, None}
use Rattle.std.specs.Option.{option_map}
use Rattle.vdb_model.specs.declared.catalog.ServerDef.{ServerDef}
use Rattle.vdb_model.specs.declared.table.TableDef.{TableDef}
use Rattle.vdb_model.specs.Defined.{Defined}
use Rattle.vdb_model.specs.Defs.{same_name}
use Rattle.vdb_model.specs.Rows.{Cells}
use Rattle.vdb_model.specs.WellFormed.{tables_on}
use Rattle.vdb_model.specs.World.{table_rows}
use Rattle.resource.specs.declared.lane.Lane.{Lane}
use Rattle.resource.specs.Told.{Told, work, under}

-- the number, counted on from here, of the server that a lane of this name serves
abbrev pub server_from : ℕ → List ServerDef → List ℕ → Option ℕ
server_from n [] name = None
server_from n (server ∷ servers) name = if same_name server.name name then Some n else server_from (n + 1) servers name

abbrev pub tables_of_server : List TableDef → Option ℕ → List TableDef
tables_of_server tables None = []
tables_of_server tables (Some server) = tables_on server tables

-- the tables that a lane of this name holds; a lane that serves no server holds none
abbrev pub tables_for : Defined → List ℕ → List TableDef
tables_for cat name = tables_of_server cat.tables (server_from 0 cat.servers name)

abbrev pub is_number : ℕ → Option ℕ → Bool
is_number n None = false
is_number n (Some m) = m == n

abbrev pub serves : Defined → ℕ → List ℕ → Bool
serves cat server name = is_number server (server_from 0 cat.servers name)

-- the number, counted on from here, of the first lane that serves the server
abbrev pub lane_from : {S : Type 0} → ℕ → Defined → ℕ → List (Lane S) → Option ℕ
lane_from n cat server [] = None
lane_from n cat server (lane ∷ lanes) = if serves cat server lane.name then Some n else lane_from (n + 1) cat server lanes

-- the tables of a server as the first lane that serves it shows them; without such a lane they are empty
abbrev pub server_shows : {S : Type 0} → (Lane S → Option (List (List Cells))) → Defined → List (Lane S) → ℕ → Option (List (List Cells))
server_shows shows cat [] server = Some []
server_shows shows cat (lane ∷ lanes) server = if serves cat server lane.name then shows lane else server_shows shows cat lanes server

-- a table's rows, among those of its server's tables
abbrev pub rows_of_table : Defined → TableDef → List (List Cells) → List Cells
rows_of_table cat d shown = table_rows (tables_on d.server cat.tables) shown d.number

abbrev pub with_rows : Option (List Cells) → Option (List (List Cells)) → Option (List (List Cells))
with_rows None more = None
with_rows (Some rows) more = option_map (λ tables. rows ∷ tables) more

-- the rows of tables in turn, where the lanes show them all
abbrev pub rows_of_tables : {S : Type 0} → (Lane S → Option (List (List Cells))) → Defined → List (Lane S) → List TableDef → Option (List (List Cells))
rows_of_tables shows cat lanes [] = Some []
rows_of_tables shows cat lanes (d ∷ ds) = with_rows (option_map (rows_of_table cat d) (server_shows shows cat lanes d.server)) (rows_of_tables shows cat lanes ds)

-- the world that the lanes show
abbrev pub world_by : {S : Type 0} → (Lane S → Option (List (List Cells))) → Defined → List (Lane S) → Option (List (List Cells))
world_by shows cat lanes = rows_of_tables shows cat lanes cat.tables

-- what a lane sees now
abbrev pub sees : {S : Type 0} → (S → Told) → Lane S → Option (List (List Cells))
sees told lane = work (told lane.res)

-- what a lane's store holds under the definitions of its tables
abbrev pub holds : {S : Type 0} → (S → Told) → Defined → Lane S → Option (List (List Cells))
holds told cat lane = under (told lane.res).reads (tables_for cat lane.name)
