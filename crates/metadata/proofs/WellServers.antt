-- A server more, or a schema more, and the catalog is well formed as before.
use Rattle.std.proofs.Common.{◌≡◌, ◌∙◌, ℕ, ◌+◌, ◌≤◌, ◌<◌, Bool, true, false, not, ◌||◌, ◌==◌, if◌then◌else◌, List, [], ◌∷◌, ◌++◌, length, Option, Some, None, refl, sym, ap, subst, arith, length-append}
use Rattle.std.specs.List.{list_any, list_all}
use Rattle.std.specs.Cmp.Derive.{both_true}
use Rattle.std.proofs.lemmas.Bool.Decides.{nat_tests}
use Rattle.vdb_model.specs.declared.catalog.SchemaDef.{SchemaDef}
use Rattle.vdb_model.specs.declared.catalog.ServerDef.{ServerDef}
use Rattle.vdb_model.specs.declared.source.Caps.{Caps}
use Rattle.vdb_model.specs.declared.table.TableDef.{TableDef}
use Rattle.vdb_model.specs.Defined.{Defined}
use Rattle.vdb_model.specs.Defs.{are_fit, same_name}
use Rattle.vdb_model.specs.WellFormed.{IsWellFormed, is_below, names_server, is_server, is_schema_of, stands_in_schema, tables_stand, tables_on, all_fit_on, is_name, is_named_server, is_named_schema}
use Rattle.view_stack.proofs.NoVariables.{both}
use Rattle.metadata.proofs.SomeTypes.{either_true, in_either}
use Rattle.metadata.proofs.LongerLists.{at_most, all_more, servers_more, tables_still, views_still}
use Rattle.metadata.proofs.WellParts.{names_of, all_named, limits_of, all_limited}

-- the server of a table that stands in a schema is there

same_server : (n k : ℕ) (server : Option ℕ) → is_server (Some k) server ≡ true → is_below n server ≡ true → k < n
same_server n k None is below = absurd (cc is)
same_server n k (Some m) is below = grind (arith, nat_tests)

server_here : (n k : ℕ) (name : List ℕ) (schema : SchemaDef) → names_server n schema ≡ true → is_schema_of (Some k) name schema ≡ true → k < n
server_here n k name schema below is = same_server n k schema.server (both (same_name schema.name name) (is_server (Some k) schema.server) is).1 below

pub server_there : (n k : ℕ) (name : List ℕ) (schemas : List SchemaDef) → list_all (names_server n) schemas ≡ true → list_any (is_schema_of (Some k) name) schemas ≡ true → k < n
server_there n k name [] all some = absurd (cc some)
server_there n k name (schema ∷ schemas) all some =
    let c = both (names_server n schema) (list_all (names_server n) schemas) all in
    in_either (either_true (is_schema_of (Some k) name schema) (list_any (is_schema_of (Some k) name) schemas) some) (server_here n k name schema c.0) (server_there n k name schemas c.1)

-- no table stands on a server past the last
none_on : (n : ℕ) (schemas : List SchemaDef) (tables : List TableDef) → list_all (names_server n) schemas ≡ true → tables_stand schemas tables ≡ true → tables_on n tables ≡ []
none_on n schemas [] all stand = refl
none_on n schemas (d ∷ ds) all stand =
    let c = both (stands_in_schema schemas (Some d.server) d.schema) (tables_stand schemas ds) stand in
    let below = server_there n d.server d.schema schemas all c.0 in
    let other : (d.server == n) ≡ false = grind (arith, nat_tests) in
    ap (λ (here : Bool). if here then d ∷ tables_on n ds else tables_on n ds) other ∙ none_on n schemas ds all c.1

or_fit : (writes : Bool) → (not writes || true) ≡ true
or_fit true = refl
or_fit false = refl

pub none_fit : (caps : Caps) → are_fit caps [] ≡ true
none_fit caps = or_fit caps.writes

fit_more : (n : ℕ) (servers : List ServerDef) (server : ServerDef) (tables : List TableDef) → all_fit_on n servers tables ≡ true → tables_on (n + length servers) tables ≡ [] → all_fit_on n (servers ++ server ∷ []) tables ≡ true
fit_more n [] server tables fit none =
    let here : tables_on n tables ≡ [] = subst (λ k. tables_on k tables ≡ []) (omega arith) none in
    both_true (subst (λ ts. are_fit server.caps ts ≡ true) (sym here) (none_fit server.caps)) refl
fit_more n (s ∷ servers) server tables fit none =
    let c = both (are_fit s.caps (tables_on n tables)) (all_fit_on (n + 1) servers tables) fit in
    both_true c.0 (fit_more (n + 1) servers server tables c.1 (subst (λ k. tables_on k tables ≡ []) (omega arith) none))

pub with_server_well : (cat : Defined) (server : ServerDef) → IsWellFormed cat → is_name server.name ≡ true → length cat.servers + 1 ≤ 64 → IsWellFormed (record cat { servers = cat.servers ++ server ∷ [] })
with_server_well cat server well name few =
    let n = length cat.servers in
    let more : length (cat.servers ++ server ∷ []) ≡ n + 1 = length-append cat.servers (server ∷ []) in
    let start : n ≡ 0 + n = omega arith in
    let names = names_of cat well.named in
    let limits = limits_of cat well.limited in
    record {
      schemas = subst (λ m. list_all (names_server m) cat.schemas ≡ true) (sym more) (servers_more n (n + 1) cat.schemas (omega arith) well.schemas);
      tables = well.tables;
      views = well.views;
      placed = well.placed;
      fit = fit_more 0 cat.servers server cat.tables well.fit (subst (λ k. tables_on k cat.tables ≡ []) start (none_on n cat.schemas cat.tables well.schemas well.tables));
      stacked = well.stacked;
      typed = well.typed;
      named = all_named (record cat { servers = cat.servers ++ server ∷ [] })
          (record { servers = all_more is_named_server cat.servers server names.servers name; schemas = names.schemas; tables = names.tables; views = names.views });
      limited = all_limited (record cat { servers = cat.servers ++ server ∷ [] })
          (record { servers = at_most (length (cat.servers ++ server ∷ [])) 64 (omega arith); schemas = limits.schemas; relations = limits.relations; procedures = limits.procedures; views = limits.views });
    }

pub with_schema_well : (cat : Defined) (schema : SchemaDef) → IsWellFormed cat → names_server (length cat.servers) schema ≡ true → is_name schema.name ≡ true → length cat.schemas + 1 ≤ 64
    → IsWellFormed (record cat { schemas = cat.schemas ++ schema ∷ [] })
with_schema_well cat schema well server name few =
    let more : length (cat.schemas ++ schema ∷ []) ≡ length cat.schemas + 1 = length-append cat.schemas (schema ∷ []) in
    let names = names_of cat well.named in
    let limits = limits_of cat well.limited in
    record {
      schemas = all_more (names_server (length cat.servers)) cat.schemas schema well.schemas server;
      tables = tables_still cat.schemas (schema ∷ []) cat.tables well.tables;
      views = views_still cat.schemas (schema ∷ []) cat.views well.views;
      placed = well.placed;
      fit = well.fit;
      stacked = well.stacked;
      typed = well.typed;
      named = all_named (record cat { schemas = cat.schemas ++ schema ∷ [] })
          (record { servers = names.servers; schemas = all_more is_named_schema cat.schemas schema names.schemas name; tables = names.tables; views = names.views });
      limited = all_limited (record cat { schemas = cat.schemas ++ schema ∷ [] })
          (record { servers = limits.servers; schemas = at_most (length (cat.schemas ++ schema ∷ [])) 64 (omega arith); relations = limits.relations; procedures = limits.procedures; views = limits.views });
    }
