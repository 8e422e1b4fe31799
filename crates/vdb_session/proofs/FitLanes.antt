-- The tables of a lane's server are fit for the lane's store.
use Rattle.std.proofs.Common.{◌≡◌, ◌∙◌, ℕ, zero, suc, ◌+◌, ◌<◌, Bool, true, false, not, ◌&&◌, ◌||◌, ◌==◌, if◌then◌else◌, List, [], ◌∷◌, Some, length, map, slice_index_or, refl, sym, ap, subst, arith}
use Rattle.std.specs.Prelude.{All}
use Rattle.std.specs.List.{list_any}
use Rattle.std.proofs.lemmas.Bool.{eqb-true}
use Rattle.std.proofs.lemmas.Cmp.{nat_list_eq_equiv}
use Rattle.std.proofs.lemmas.List.Elements.{All-head, All-tail}
use Rattle.vdb_model.specs.declared.catalog.ServerDef.{ServerDef}
use Rattle.vdb_model.specs.declared.source.Caps.{Caps}
use Rattle.vdb_model.specs.declared.table.TableDef.{TableDef}
use Rattle.vdb_model.specs.Defined.{Defined}
use Rattle.vdb_model.specs.Defs.{all_fit, are_numbered_apart, are_named_apart, are_fit, same_name}
use Rattle.vdb_model.specs.WellFormed.{IsWellFormed, tables_on, all_fit_on}
use Rattle.view_stack.proofs.NoVariables.{both}
use Rattle.resolver.specs.Queries.{query_walk}
use Rattle.metadata.specs.declared.connection.ConnInfo.{ConnInfo}
use Rattle.metadata.specs.Servers.{connection_named}
use Rattle.metadata.proofs.LongerLists.{none_of}
use Rattle.metadata.proofs.WellServers.{none_fit}
use Rattle.metadata.proofs.WellTables.{fails}
use Rattle.catalog_laws.specs.Over.{IsConnected, HasNoPatterns, IsOver, DeployedIsOver}
use Rattle.catalog_laws.proofs.LoweredCaps.{lowered_writes}
use Rattle.resource.specs.declared.lane.Lane.{Lane}
use Rattle.resource.specs.Images.{Image}
use Rattle.resource.specs.Told.{Told, is_lost}
use Rattle.vdb_session.specs.Attaching.{TakesTables}
use Rattle.vdb_session.specs.Lanes.{names_of, are_apart, are_here}
use Rattle.vdb_session.specs.Shown.{server_from, tables_of_server}
use Rattle.vdb_session.specs.Starting.{connection, Deploys}
use Rattle.vdb_session.proofs.AttachedLanes.{AttachedUpTo}
use Rattle.vdb_session.proofs.Standing.{standing_here, standing_length}

-- whether tables are fit goes by the capability to write alone

fit_by_writes : (a b : Caps) (tables : List TableDef) → a.writes ≡ b.writes → are_fit a tables ≡ true → are_fit b tables ≡ true
fit_by_writes a b tables same h = subst (λ (writes : Bool). (all_fit tables && are_numbered_apart tables && (not writes || are_named_apart tables)) ≡ true) same h

-- the server that a connection's name finds is the connection

same_names : (a b : List ℕ) → same_name a b ≡ true → a ≡ b
same_names [] [] h = refl
same_names [] (y ∷ ys) h = absurd (cc h)
same_names (x ∷ xs) [] h = absurd (cc h)
same_names (x ∷ xs) (y ∷ ys) h =
    let c = both (x == y) (same_name xs ys) h in
    ap (λ (z : ℕ). z ∷ xs) (eqb-true x y c.0) ∙ ap (λ (zs : List ℕ). y ∷ zs) (same_names xs ys c.1)

some_same : {A : Type 0} (x y : A) → Some x ≡ Some y → x ≡ y
some_same x y e = cc e

module _ (conns : List ConnInfo) (conn : ConnInfo) (name : List ℕ) (found : connection_named conns name ≡ Some conn) (tables : List TableDef) where
  server_fits : (n : ℕ) (server : ServerDef) → IsConnected conns server → same_name server.name name ≡ true → are_fit server.caps (tables_on n tables) ≡ true → are_fit conn.caps (tables_on n tables) ≡ true
  server_fits n server is named fit =
      let same : is.conn ≡ conn = some_same is.conn conn (sym is.named ∙ ap (connection_named conns) (same_names server.name name named) ∙ found) in
      let writes : server.caps.writes ≡ conn.caps.writes = ap (λ (caps : Caps). caps.writes) is.caps ∙ lowered_writes is.options is.conn.caps ∙ ap (λ (c : ConnInfo). c.caps.writes) same in
      fit_by_writes server.caps conn.caps (tables_on n tables) writes fit

  servers_fit : (n : ℕ) (servers : List ServerDef) → All (IsConnected conns) servers → all_fit_on n servers tables ≡ true → are_fit conn.caps (tables_of_server tables (server_from n servers name)) ≡ true
  servers_fit n [] all fit = none_fit conn.caps
  servers_fit n (server ∷ servers) all fit =
      let c = both (are_fit server.caps (tables_on n tables)) (all_fit_on (n + 1) servers tables) fit in
      by_name (same_name server.name name) refl c.0 (servers_fit (n + 1) servers (All-tail (IsConnected conns) server servers all) c.1)
    where
      by_name : (b : Bool) → same_name server.name name ≡ b → are_fit server.caps (tables_on n tables) ≡ true → are_fit conn.caps (tables_of_server tables (server_from (n + 1) servers name)) ≡ true
          → are_fit conn.caps (tables_of_server tables (if b then Some n else server_from (n + 1) servers name)) ≡ true
      by_name true is here later = server_fits n server (All-head (IsConnected conns) server servers all) is here
      by_name false is here later = later

-- of lanes whose names differ each is found by its name

unnamed_at : {S : Type 0} (name : List ℕ) (lanes : List (Lane S)) (at : ℕ) (o : Lane S) → list_any (same_name name) (names_of lanes) ≡ false → at < length lanes → same_name name (slice_index_or lanes at o).name ≡ false
unnamed_at name [] at o h there = absurd (omega arith)
unnamed_at name (lane ∷ lanes) zero o h there = (none_of (same_name name lane.name) (list_any (same_name name) (names_of lanes)) h).0
unnamed_at name (lane ∷ lanes) (suc at) o h there = unnamed_at name lanes at o (none_of (same_name name lane.name) (list_any (same_name name) (names_of lanes)) h).1 (omega arith)

found_by_name : {S : Type 0} (told : S → Told) (lanes : List (Lane S)) → are_apart (names_of lanes) ≡ true → (at : ℕ) (o : Lane S) → at < length lanes
    → connection_named (map (connection told) lanes) (slice_index_or lanes at o).name ≡ Some (connection told (slice_index_or lanes at o))
found_by_name told [] apart at o there = absurd (omega arith)
found_by_name told (lane ∷ lanes) apart zero o there =
    ap (λ (b : Bool). if b then Some (connection told lane) else connection_named (map (connection told) lanes) lane.name) (nat_list_eq_equiv.refl lane.name)
found_by_name told (lane ∷ lanes) apart (suc at) o there =
    let c = both (not (list_any (same_name lane.name) (names_of lanes))) (are_apart (names_of lanes)) apart in
    let here : at < length lanes = omega arith in
    let found = slice_index_or lanes at o in
    let other : same_name lane.name found.name ≡ false = unnamed_at lane.name lanes at o (fails (list_any (same_name lane.name) (names_of lanes)) c.0) here in
    ap (λ (b : Bool). if b then Some (connection told lane) else connection_named (map (connection told) lanes) found.name) other ∙ found_by_name told lanes c.1 at o here

-- of lanes none of which is lost each isn't

here_at : {S : Type 0} (told : S → Told) (lanes : List (Lane S)) → are_here told lanes ≡ true → (at : ℕ) (o : Lane S) → at < length lanes → is_lost (told (slice_index_or lanes at o).res).state ≡ false
here_at told [] here at o there = absurd (omega arith)
here_at told (lane ∷ lanes) here zero o there = fails (is_lost (told lane.res).state) (both (not (is_lost (told lane.res).state)) (are_here told lanes) here).0
here_at told (lane ∷ lanes) here (suc at) o there = here_at told lanes (both (not (is_lost (told lane.res).state)) (are_here told lanes) here).1 at o (omega arith)

-- what is deployed over lanes whose names differ

of_lanes : {S : Type 0} (told : S → Told) (ddl : List ℕ) (lanes : List (Lane S)) (cat : Defined) → DeployedIsOver → Deploys told ddl lanes cat → IsOver (map (connection told) lanes) cat
of_lanes told ddl lanes cat law deploys = law query_walk (map (connection told) lanes) deploys.items cat deploys.deploys

-- each lane may be attached to the tables of its server
pub lanes_take : {S : Type 0} (told : S → Told) (ddl : List ℕ) (lanes : List (Lane S)) (cat : Defined) → DeployedIsOver → are_apart (names_of lanes) ≡ true → are_here told lanes ≡ true → IsWellFormed cat
    → Deploys told ddl lanes cat → All (TakesTables told cat) lanes
lanes_take told ddl lanes cat law apart here well deploys = λ at o there.
    let lane = slice_index_or lanes at o in
    let over = of_lanes told ddl lanes cat law deploys in
    record {
      fit = servers_fit (map (connection told) lanes) (connection told lane) lane.name (found_by_name told lanes apart at o there) cat.tables 0 cat.servers over.servers well.fit;
      here = here_at told lanes here at o there;
    }

pub no_patterns : {S : Type 0} (told : S → Told) (ddl : List ℕ) (lanes : List (Lane S)) (cat : Defined) → DeployedIsOver → Deploys told ddl lanes cat → HasNoPatterns cat
no_patterns told ddl lanes cat law deploys = (of_lanes told ddl lanes cat law deploys).patterns

-- the lane that comes next is as it was
pub take_here : {S : Type 0} (told : S → Told) (images : S → Image → Type 0) (cat : Defined) (at : ℕ) (old now : List (Lane S)) (o : Lane S) → at < length now → AttachedUpTo told images cat at old now → All (TakesTables told cat) old
    → TakesTables told cat (slice_index_or now at o)
take_here told images cat at old now o h s take = subst (TakesTables told cat) (sym (standing_here at now old o h s.rest)) (take at o (standing_length at now old h s.rest))
