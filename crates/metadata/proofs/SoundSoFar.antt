-- What is defined so far is well formed: databases, servers and schemas keep it so.
use Rattle.std.proofs.Common.{◌≡◌, ℕ, ◌+◌, Bool, true, false, not, List, [], ◌∷◌, ◌++◌, length, Option, Some, None, refl, arith}
use Rattle.std.specs.Prelude.{nat_lt}
use Rattle.std.specs.List.{list_any}
use Rattle.std.specs.Cmp.Derive.{both_true}
use Rattle.std.proofs.lemmas.Bool.{eq-eqb}
use Rattle.std.proofs.lemmas.Bool.Decides.{nat_tests}
use Rattle.std.proofs.lemmas.Cmp.{nat_list_eq_equiv}
use Rattle.vdb_model.specs.declared.catalog.SchemaDef.{SchemaDef}
use Rattle.vdb_model.specs.declared.catalog.ServerDef.{ServerDef}
use Rattle.vdb_model.specs.declared.reply.DeployFault.TheVariants.{NoConnection}
use Rattle.vdb_model.specs.Defs.{same_name}
use Rattle.vdb_model.specs.NameText.{name_text}
use Rattle.vdb_model.specs.WellFormed.{is_below, is_server, is_schema_of, is_name}
use Rattle.sql_reader.specs.declared.tree.name.Name.{Name}
use Rattle.vdb_ddl.specs.declared.tree.Setting.{Setting}
use Rattle.metadata.specs.declared.connection.ConnInfo.{ConnInfo}
use Rattle.metadata.specs.declared.options.Owner.TheVariants as owner
use Rattle.metadata.specs.declared.so_far.SoFar.{SoFar}
use Rattle.metadata.specs.Databases.{second_database, create_database, unknown_database, use_database}
use Rattle.metadata.specs.Options.{refused_option}
use Rattle.metadata.specs.Schemas.{unknown_server, unknown_schema, schema_taken, too_many_schemas, with_schema, create_schema, create_virtual_schema, set_schema}
use Rattle.metadata.specs.Servers.{unknown_wrapper, wrong_kind, server_taken, too_many_servers, server_of, with_server, server_over, create_server, connection_named}
use Rattle.metadata.specs.SoFar.{nothing, schema_named, server_named, bad_name}
use Rattle.metadata.specs.Sound.{IsSet, IsSound}
use Rattle.metadata.specs.Tests.{Test}
use Rattle.metadata.proofs.DeployGives.{Gives, gives_unless, fails_not, few}
use Rattle.metadata.proofs.LongerLists.{left_true, right_true, either, any_more}
use Rattle.metadata.proofs.WellServers.{with_server_well, with_schema_well}

pub nothing_sound : IsSound nothing
nothing_sound = record {
  well = record { schemas = refl; tables = refl; views = refl; placed = refl; fit = refl; stacked = refl; typed = refl; named = refl; limited = refl };
  chains = refl;
  set = tt;
}

-- a name that passes its test
pub good_name : (name : List ℕ) → bad_name name ≡ None → is_name name ≡ true
good_name name pass = denied (is_name name) (fails_not (not (is_name name)) _ pass)
  where
    denied : (b : Bool) → not b ≡ false → b ≡ true
    denied true h = refl
    denied false h = absurd (cc h)

pub create_database_sound : (s : SoFar) (name : Name) → IsSound s → Gives (create_database s name) IsSound
create_database_sound s name h =
    gives_unless IsSound (second_database s name ∷ []) (record s { database = Some name.text }) (λ pass. record { well = h.well; chains = h.chains; set = h.set })

pub use_database_sound : (s : SoFar) (name : Name) → IsSound s → Gives (use_database s name) IsSound
use_database_sound s name h = gives_unless IsSound (unknown_database s name ∷ []) s (λ pass. h)

server_over_sound : (conn : Option ConnInfo) (s : SoFar) (name wrapper : Name) (options : List Setting) → IsSound s → Gives (server_over conn s name wrapper options) IsSound
server_over_sound None s name wrapper options h = gives_unless IsSound (unknown_wrapper wrapper ∷ Some (NoConnection (name_text name.text)) ∷ []) s (λ pass. h)
server_over_sound (Some conn) s name wrapper options h =
    let tests : List Test = unknown_wrapper wrapper ∷ wrong_kind conn name wrapper ∷ server_taken s.catalog.servers name ∷ refused_option owner.Server options ∷ too_many_servers s.catalog.servers name ∷ bad_name name.text ∷ [] in
    gives_unless IsSound tests (with_server s (server_of name options conn)) (λ pass. record {
      well = with_server_well s.catalog (server_of name options conn) h.well (good_name name.text pass.1.1.1.1.1.0) (few 64 (length s.catalog.servers + 1) (name_text name.text) pass.1.1.1.1.0);
      chains = h.chains;
      set = h.set;
    })

pub create_server_sound : (conns : List ConnInfo) (s : SoFar) (name wrapper : Name) (options : List Setting) → IsSound s → Gives (create_server conns s name wrapper options) IsSound
create_server_sound conns s name wrapper options h = server_over_sound (connection_named conns name.text) s name wrapper options h

-- a server that a name finds is there
pub named_below : (count n : ℕ) (servers : List ServerDef) (name : List ℕ) → n + length servers ≡ count → is_below count (server_named n servers name) ≡ true
named_below count n [] name is = refl
named_below count n (server ∷ servers) name is =
    let here : nat_lt n count ≡ true = grind (arith, nat_tests) in
    either (λ (at : Option ℕ). is_below count at ≡ true) (same_name server.name name) (Some n) (server_named (n + 1) servers name) here (named_below count (n + 1) servers name (omega arith))

set_still : (schemas more : List SchemaDef) (schema : Option SchemaDef) → IsSet schemas schema → IsSet (schemas ++ more) schema
set_still schemas more None set = tt
set_still schemas more (Some schema) set = any_more (is_schema_of schema.server schema.name) schemas more set

with_schema_sound : (s : SoFar) (name : Name) (server : Option ℕ) → IsSound s → is_below (length s.catalog.servers) server ≡ true → too_many_schemas s name ≡ None → bad_name name.text ≡ None → IsSound (with_schema s name server)
with_schema_sound s name server h below many named = record {
  well = with_schema_well s.catalog (record { name = name.text; server = server }) h.well below (good_name name.text named) (few 64 (length s.catalog.schemas + 1) (name_text name.text) many);
  chains = h.chains;
  set = set_still s.catalog.schemas (record { name = name.text; server = server } ∷ []) s.schema h.set;
}

pub create_schema_sound : (s : SoFar) (name server : Name) → IsSound s → Gives (create_schema s name server) IsSound
create_schema_sound s name server h =
    let number = server_named 0 s.catalog.servers server.text in
    gives_unless IsSound (unknown_server s server ∷ schema_taken s name ∷ too_many_schemas s name ∷ bad_name name.text ∷ []) (with_schema s name number)
    (λ pass. with_schema_sound s name number h (named_below (length s.catalog.servers) 0 s.catalog.servers server.text (omega arith)) pass.1.1.0 pass.1.1.1.0)

pub create_virtual_schema_sound : (s : SoFar) (name : Name) → IsSound s → Gives (create_virtual_schema s name) IsSound
create_virtual_schema_sound s name h =
    gives_unless IsSound (schema_taken s name ∷ too_many_schemas s name ∷ bad_name name.text ∷ []) (with_schema s name None) (λ pass. with_schema_sound s name None h refl pass.1.0 pass.1.1.0)

-- a schema that a name finds is one of those that are there

own_server : (server : Option ℕ) → is_server server server ≡ true
own_server None = refl
own_server (Some n) = eq-eqb n n refl

is_itself : (schema : SchemaDef) → is_schema_of schema.server schema.name schema ≡ true
is_itself schema = both_true (nat_list_eq_equiv.refl schema.name) (own_server schema.server)

set_later : (first : SchemaDef) (schemas : List SchemaDef) (schema : Option SchemaDef) → IsSet schemas schema → IsSet (first ∷ schemas) schema
set_later first schemas None set = tt
set_later first schemas (Some schema) set = right_true (is_schema_of schema.server schema.name first) (list_any (is_schema_of schema.server schema.name) schemas) set

named_set : (schemas : List SchemaDef) (name : List ℕ) → IsSet schemas (schema_named schemas name)
named_set [] name = tt
named_set (schema ∷ schemas) name =
    either (IsSet (schema ∷ schemas)) (same_name schema.name name) (Some schema) (schema_named schemas name)
    (left_true (is_schema_of schema.server schema.name schema) (list_any (is_schema_of schema.server schema.name) schemas) (is_itself schema))
    (set_later schema schemas (schema_named schemas name) (named_set schemas name))

pub set_schema_sound : (s : SoFar) (name : Name) → IsSound s → Gives (set_schema s name) IsSound
set_schema_sound s name h = gives_unless IsSound (unknown_schema s name ∷ []) (record s { schema = schema_named s.catalog.schemas name.text })
    (λ pass. record { well = h.well; chains = h.chains; set = named_set s.catalog.schemas name.text })
