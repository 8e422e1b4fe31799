-- A table whose tests pass leaves what is defined so far well formed.
use Rattle.std.proofs.Common.{◌≡◌, ℕ, zero, suc, ◌+◌, ◌≤◌, Bool, true, false, not, ◌&&◌, ◌||◌, ◌==◌, if◌then◌else◌, List, [], ◌∷◌, length, Option, Some, None, refl, sym, ap, subst, arith, slice_get, slice_index_or}
use Rattle.std.specs.Prelude.{codes, nat_lt, nat_le}
use Rattle.std.specs.List.{list_any, list_all}
use Rattle.std.specs.Option.{is_none, unwrap_or}
use Rattle.std.specs.Cmp.Derive.{both_true}
use Rattle.std.proofs.lemmas.Bool.Decides.{nat_tests}
use Rattle.vdb_base.specs.declared.value.Value.TheVariants.{Null, Bool as Truth, Num, Str}
use Rattle.vdb_model.specs.declared.catalog.SchemaDef.{SchemaDef}
use Rattle.vdb_model.specs.declared.catalog.ServerDef.{ServerDef}
use Rattle.vdb_model.specs.declared.table.TableDef.{TableDef}
use Rattle.vdb_model.specs.Defs.{is_fit, is_fit_key, same_name, same_source}
use Rattle.vdb_model.specs.WellFormed.{stands_in_schema, tables_on, is_name, is_named_column}
use Rattle.view_stack.proofs.NoVariables.{both}
use Rattle.sql_reader.specs.declared.tree.expr.Constant.{Constant}
use Rattle.sql_reader.specs.declared.tree.expr.Constant.TheVariants as constant
use Rattle.sql_reader.specs.declared.tree.name.Name.{Name}
use Rattle.vdb_ddl.specs.declared.tree.Setting.{Setting}
use Rattle.vdb_ddl.specs.declared.tree.TablePart.{TablePart}
use Rattle.vdb_ddl.specs.declared.tree.TablePart.TheVariants.{Column, PrimaryKey}
use Rattle.metadata.specs.declared.so_far.SoFar.{SoFar}
use Rattle.metadata.specs.Columns.{column_count, unknown_in, badly_named_part, badly_named_in, columns_of}
use Rattle.metadata.specs.Options.{is_source_name, is_no_nul, source_or, said, source_of}
use Rattle.metadata.specs.SoFar.{no_schema_set, schema_set, relation_text, is_taken, bad_column_count}
use Rattle.metadata.specs.Tables.{no_server, server_number, server_set, is_named_apart, names_apart, is_stored, has_source, table_tests, table_of, with_table, create_table}
use Rattle.metadata.specs.Sound.{IsSet, IsSound}
use Rattle.metadata.proofs.DeployGives.{Gives, gives_unless, all_pass, fails_not, few}
use Rattle.metadata.proofs.KeyFits.{its_key_fits}
use Rattle.metadata.proofs.LongerLists.{right_true, none_of, neither, either}
use Rattle.metadata.proofs.SoundSoFar.{good_name}
use Rattle.metadata.proofs.WellTables.{IsNewTable, with_table_well}

-- the schema that is set

pub set_stands : (schemas : List SchemaDef) (schema : Option SchemaDef) → is_none schema ≡ false → IsSet schemas schema
    → stands_in_schema schemas (unwrap_or schema no_schema_set).server (unwrap_or schema no_schema_set).name ≡ true
set_stands schemas None there set = absurd (cc there)
set_stands schemas (Some schema) there set = set

its_number : (server : Option ℕ) → is_none server ≡ false → server ≡ Some (unwrap_or server 0)
its_number None there = absurd (cc there)
its_number (Some n) there = refl

-- the name at the source

source_named : (own : List ℕ) (constant : Constant) → is_name own ≡ true → is_name (source_or own constant) ≡ true
source_named own (constant.Value Null) h = h
source_named own (constant.Value (Truth b)) h = h
source_named own (constant.Value (Num n)) h = h
source_named own (constant.Value (Str s)) h = by_test (is_source_name s) refl
  where
    by_test : (b : Bool) → is_source_name s ≡ b → is_name (unwrap_or (if b then Some s else None) own) ≡ true
    by_test true is = (both (is_name s) (list_all is_no_nul s) is).0
    by_test false is = h
source_named own constant.Fraction h = h
source_named own constant.TooLong h = h

said_named : (option own : List ℕ) → is_name own ≡ true → (so_far : List ℕ) → is_name so_far ≡ true → (settings : List Setting) → is_name (said option (source_or own) so_far settings) ≡ true
said_named option own h so_far named [] = named
said_named option own h so_far named (setting ∷ settings) =
    said_named option own h (if same_name setting.name.text option then source_or own setting.value.constant else so_far)
    (either (λ (text : List ℕ). is_name text ≡ true) (same_name setting.name.text option) (source_or own setting.value.constant) so_far (source_named own setting.value.constant h) named) settings

-- the columns

-- as many columns as are counted
pub columns_counted : (all parts : List TablePart) → length (columns_of all parts) ≡ column_count parts
columns_counted all [] = refl
columns_counted all (Column name ty not_null options ∷ parts) = let h = columns_counted all parts in omega arith
columns_counted all (PrimaryKey columns ∷ parts) = columns_counted all parts

within : (count : ℕ) → not (nat_le 1 count && nat_le count 256) ≡ false → (1 ≤ count) × (count ≤ 256)
within count h = (grind (arith, nat_tests), grind (arith, nat_tests))

-- from 1 to 256 of them
pub good_count : (s : SoFar) (name : Name) (count : ℕ) → bad_column_count s name count ≡ None → (1 ≤ count) × (count ≤ 256)
good_count s name count pass = within count (fails_not (not (nat_le 1 count && nat_le count 256)) _ pass)

columns_named : (all parts : List TablePart) → badly_named_in parts ≡ None → list_all is_named_column (columns_of all parts) ≡ true
columns_named all [] pass = refl
columns_named all (Column name ty not_null options ∷ parts) pass =
    let each = all_pass (badly_named_part (Column name ty not_null options) ∷ badly_named_in parts ∷ []) pass in
    both_true (good_name name.text each.0) (columns_named all parts each.1.0)
columns_named all (PrimaryKey columns ∷ parts) pass =
    let each = all_pass (badly_named_part (PrimaryKey columns) ∷ badly_named_in parts ∷ []) pass in
    columns_named all parts each.1.0

-- source names on a server that writes

at_number : (servers : List ServerDef) (n : ℕ) (server : ServerDef) → slice_get servers n ≡ Some server → slice_index_or servers n no_server ≡ server
at_number [] n server is = absurd (cc is)
at_number (first ∷ servers) zero server is = cc is
at_number (first ∷ servers) (suc n) server is = at_number servers n server is

other_name : (apart stored : Bool) → (apart && stored) ≡ false → apart ≡ true → stored ≡ false
other_name true stored h is = h
other_name false stored h is = absurd (cc is)

one_less : (p : TableDef → Bool) (b : Bool) (t : TableDef) (rest : List TableDef) → (b && p t) ≡ false → list_any p rest ≡ false → list_any p (if b then t ∷ rest else rest) ≡ false
one_less p true t rest here h = neither (p t) (list_any p rest) here h
one_less p false t rest here h = h

not_stored : (server : ℕ) (source : List ℕ) (tables : List TableDef) → list_any (is_stored server source) tables ≡ false → list_any (same_source source) (tables_on server tables) ≡ false
not_stored server source [] h = refl
not_stored server source (t ∷ tables) h =
    let c = none_of (is_stored server source t) (list_any (is_stored server source) tables) h in
    one_less (same_source source) (t.server == server) t (tables_on server tables) c.0 (not_stored server source tables c.1)

stored_apart : (s : SoFar) (source : List ℕ) → has_source s source ≡ false → (server : ServerDef) → slice_get s.catalog.servers (server_number s) ≡ Some server → server.caps.writes ≡ true
    → list_any (same_source source) (tables_on (server_number s) s.catalog.tables) ≡ false
stored_apart s source none server there writes =
    let apart : names_apart server ≡ true = right_true (is_named_apart server.kind) server.caps.writes writes in
    let set : names_apart (server_set s) ≡ true = subst (λ (d : ServerDef). names_apart d ≡ true) (sym (at_number s.catalog.servers (server_number s) server there)) apart in
    not_stored (server_number s) source s.catalog.tables (other_name (names_apart (server_set s)) (list_any (is_stored (server_number s) source) s.catalog.tables) none set)

-- all together

fits : (table : TableDef) → (1 ≤ length table.columns) × (length table.columns ≤ 256) → is_name table.source ≡ true → is_fit_key table.columns table.key ≡ true → table.patterns ≡ [] → is_fit table ≡ true
fits table many source key patterns =
    let least = many.0 in
    let most = many.1 in
    let c = both (nat_le 1 (length table.source)) (nat_le (length table.source) 64) source in
    let byte = c.0 in
    let some : nat_lt 0 (length table.columns) ≡ true = grind (arith, nat_tests) in
    let few : nat_le (length table.columns) 256 ≡ true = grind (arith, nat_tests) in
    let text : nat_lt 0 (length table.source) ≡ true = grind (arith, nat_tests) in
    both_true (both_true (both_true (both_true (both_true some few) text) c.1) key) (cc patterns)

new_table : (s : SoFar) (name : Name) (parts : List TablePart) (options : List Setting) → IsSound s
    → is_none s.schema ≡ false → is_none (schema_set s).server ≡ false → unknown_in parts parts ≡ None → has_source s (source_of name.text options) ≡ false
    → length s.catalog.tables + length s.catalog.views + 1 ≤ 1024 → (1 ≤ column_count parts) × (column_count parts ≤ 256) → is_name name.text ≡ true → badly_named_in parts ≡ None
    → IsNewTable s.catalog (table_of s name parts options)
new_table s name parts options h there server known apart few many named columns =
    let counted = columns_counted parts parts in
    let least = many.0 in
    let most = many.1 in
    record {
      number = refl;
      stands = subst (λ (n : Option ℕ). stands_in_schema s.catalog.schemas n (schema_set s).name ≡ true) (its_number (schema_set s).server server) (set_stands s.catalog.schemas s.schema there h.set);
      fit = fits (table_of s name parts options) (omega arith, omega arith) (said_named (codes "nameinsource") name.text named name.text named options) (its_key_fits parts known) refl;
      apart = stored_apart s (source_of name.text options) apart;
      named = both_true named (columns_named parts parts columns);
      few = few;
    }

pub create_table_sound : (s : SoFar) (name : Name) (parts : List TablePart) (options : List Setting) → IsSound s → Gives (create_table s name parts options) IsSound
create_table_sound s name parts options h = gives_unless IsSound (table_tests s name parts options) (with_table s (table_of s name parts options)) (λ pass.
    let there = fails_not (is_none s.schema) _ pass.0 in
    let server = fails_not (is_none (schema_set s).server) _ pass.1.1.0 in
    let taken = fails_not (is_taken s name || has_source s (source_of name.text options)) _ pass.1.1.1.0 in
    let limits = pass.1.1.1.1.1.1.1.1 in
    let new = new_table s name parts options h there server pass.1.0 (none_of (is_taken s name) (has_source s (source_of name.text options)) taken).1
    (few 1024 (length s.catalog.tables + length s.catalog.views + 1) (relation_text s name) limits.0) (good_count s name (column_count parts) limits.1.0) (good_name name.text limits.1.1.0) limits.1.1.1.0 in
    record { well = with_table_well s.catalog (table_of s name parts options) h.well new; chains = h.chains; set = h.set })
