-- A table more, and the catalog is well formed as before.
use Rattle.std.proofs.Common.{◌≡◌, ◌∙◌, ℕ, suc, ◌+◌, ◌≤◌, Bool, true, false, not, ◌&&◌, ◌||◌, ◌==◌, if◌then◌else◌, List, [], ◌∷◌, ◌++◌, length, Some, refl, sym, ap, subst, arith, length-append, append-nil, slice_get}
use Rattle.std.specs.List.{list_any}
use Rattle.std.specs.Cmp.Derive.{both_true}
use Rattle.std.specs.Str.{str_to_ascii_lowercase}
use Rattle.std.proofs.lemmas.Bool.{eq-eqb, eqb-true}
use Rattle.std.proofs.lemmas.Bool.Decides.{nat_tests}
use Rattle.std.proofs.lemmas.Cmp.{nat_list_eq_equiv}
use Rattle.std.proofs.lemmas.List.Folds.{list_any-append}
use Rattle.vdb_model.specs.declared.catalog.SchemaDef.{SchemaDef}
use Rattle.vdb_model.specs.declared.catalog.ServerDef.{ServerDef}
use Rattle.vdb_model.specs.declared.source.Caps.{Caps}
use Rattle.vdb_model.specs.declared.table.TableDef.{TableDef}
use Rattle.vdb_model.specs.Defined.{Defined}
use Rattle.vdb_model.specs.Defs.{is_defined, is_fit, all_fit, are_numbered_apart, same_source, are_named_apart, are_fit}
use Rattle.vdb_model.specs.WellFormed.{IsWellFormed, are_placed, stands_in_schema, tables_stand, tables_on, all_fit_on, is_named_table}
use Rattle.view_stack.proofs.NoVariables.{both}
use Rattle.metadata.proofs.LongerLists.{at_most, all_more, none_of, neither, either}
use Rattle.metadata.proofs.MoreTables.{views_keep}
use Rattle.metadata.proofs.WellParts.{names_of, all_named, limits_of, all_limited}

-- what has to hold of a table that is added
pub record IsNewTable (cat : Defined) (table : TableDef) : Type 0 where
  pub number : table.number ≡ length cat.tables
  pub stands : stands_in_schema cat.schemas (Some table.server) table.schema ≡ true
  pub fit : is_fit table ≡ true
  -- on a server that writes no other table has its source name
  pub apart : (server : ServerDef) → slice_get cat.servers table.server ≡ Some server → server.caps.writes ≡ true → list_any (same_source table.source) (tables_on table.server cat.tables) ≡ false
  pub named : is_named_table table ≡ true
  pub few : length cat.tables + length cat.views + 1 ≤ 1024

pub fails : (b : Bool) → not b ≡ true → b ≡ false
fails true h = absurd (cc h)
fails false h = refl

denied : (b : Bool) → b ≡ false → not b ≡ true
denied true h = absurd (cc h)
denied false h = refl

pub placed_more : (n : ℕ) (tables : List TableDef) (table : TableDef) → are_placed n tables ≡ true → table.number ≡ n + length tables → are_placed n (tables ++ table ∷ []) ≡ true
placed_more n [] table h is = both_true (eq-eqb table.number n (omega arith)) refl
placed_more n (t ∷ tables) table h is = let c = both (t.number == n) (are_placed (n + 1) tables) h in both_true c.0 (placed_more (n + 1) tables table c.1 (omega arith))

stand_more : (schemas : List SchemaDef) (tables : List TableDef) (table : TableDef) → tables_stand schemas tables ≡ true → stands_in_schema schemas (Some table.server) table.schema ≡ true → tables_stand schemas (tables ++ table ∷ []) ≡ true
stand_more schemas [] table h is = both_true is refl
stand_more schemas (t ∷ tables) table h is =
    let c = both (stands_in_schema schemas (Some t.server) t.schema) (tables_stand schemas tables) h in
    both_true c.0 (stand_more schemas tables table c.1 is)

-- the tables of a server

-- no table of a server has a number past the last
unused : (m n k : ℕ) (tables : List TableDef) → are_placed m tables ≡ true → m + length tables ≤ k → is_defined (tables_on n tables) k ≡ false
unused m n k [] placed past = refl
unused m n k (d ∷ ds) placed past =
    let c = both (d.number == m) (are_placed (m + 1) ds) placed in
    let at = eqb-true d.number m c.0 in
    let other : (d.number == k) ≡ false = grind (arith, nat_tests) in
    let rest = unused (m + 1) n k ds c.1 (omega arith) in
    either (λ (ts : List TableDef). is_defined ts k ≡ false) (d.server == n) (d ∷ tables_on n ds) (tables_on n ds) (neither (d.number == k) (is_defined (tables_on n ds) k) other rest) rest

on_more : (n : ℕ) (tables : List TableDef) (d : TableDef) → tables_on n (tables ++ d ∷ []) ≡ tables_on n tables ++ tables_on n (d ∷ [])
on_more n [] d = refl
on_more n (t ∷ tables) d = push (t.server == n) (tables_on n (tables ++ d ∷ [])) (tables_on n tables) (on_more n tables d)
  where
    push : (b : Bool) (all some : List TableDef) → all ≡ some ++ tables_on n (d ∷ []) → (if b then t ∷ all else all) ≡ (if b then t ∷ some else some) ++ tables_on n (d ∷ [])
    push true all some is = ap (λ (ts : List TableDef). t ∷ ts) is
    push false all some is = is

-- one more that is fit and apart from the others

all_fit_more : (defs : List TableDef) (d : TableDef) → all_fit defs ≡ true → is_fit d ≡ true → all_fit (defs ++ d ∷ []) ≡ true
all_fit_more [] d h fit = both_true fit refl
all_fit_more (t ∷ ts) d h fit = let c = both (is_fit t) (all_fit ts) h in both_true c.0 (all_fit_more ts d c.1 fit)

undefined_more : (defs : List TableDef) (d : TableDef) (n : ℕ) → is_defined defs n ≡ false → (d.number == n) ≡ false → is_defined (defs ++ d ∷ []) n ≡ false
undefined_more [] d n h other = neither (d.number == n) false other refl
undefined_more (t ∷ ts) d n h other =
    let c = none_of (t.number == n) (is_defined ts n) h in
    neither (t.number == n) (is_defined (ts ++ d ∷ []) n) c.0 (undefined_more ts d n c.1 other)

other_way : (m n : ℕ) → (m == n) ≡ false → (n == m) ≡ false
other_way m n h = grind (arith, nat_tests)

numbered_more : (defs : List TableDef) (d : TableDef) → are_numbered_apart defs ≡ true → is_defined defs d.number ≡ false → are_numbered_apart (defs ++ d ∷ []) ≡ true
numbered_more [] d h new = refl
numbered_more (t ∷ ts) d h new =
    let c = both (not (is_defined ts t.number)) (are_numbered_apart ts) h in
    let e = none_of (t.number == d.number) (is_defined ts d.number) new in
    both_true (denied (is_defined (ts ++ d ∷ []) t.number) (undefined_more ts d t.number (fails (is_defined ts t.number) c.0) (other_way t.number d.number e.0))) (numbered_more ts d c.1 e.1)

one_way : (t d : TableDef) → same_source t.source d ≡ same_source d.source t
one_way t d = nat_list_eq_equiv.symm (str_to_ascii_lowercase t.source) (str_to_ascii_lowercase d.source)

apart_more : (defs : List TableDef) (d : TableDef) → are_named_apart defs ≡ true → list_any (same_source d.source) defs ≡ false → are_named_apart (defs ++ d ∷ []) ≡ true
apart_more [] d h new = refl
apart_more (t ∷ ts) d h new =
    let c = both (not (list_any (same_source t.source) ts)) (are_named_apart ts) h in
    let e = none_of (same_source d.source t) (list_any (same_source d.source) ts) new in
    let others = fails (list_any (same_source t.source) ts) c.0 in
    let here = neither (same_source t.source d) false (one_way t d ∙ e.0) refl in
    both_true (denied (list_any (same_source t.source) (ts ++ d ∷ []))
    (list_any-append (same_source t.source) ts (d ∷ []) ∙ neither (list_any (same_source t.source) ts) (list_any (same_source t.source) (d ∷ [])) others here))
    (apart_more ts d c.1 e.1)

where_written : (writes a b : Bool) → (not writes || a) ≡ true → (writes ≡ true → a ≡ true → b ≡ true) → (not writes || b) ≡ true
where_written true a b h gives = gives refl h
where_written false a b h gives = refl

fit_with : (caps : Caps) (defs : List TableDef) (d : TableDef) → are_fit caps defs ≡ true → is_fit d ≡ true → is_defined defs d.number ≡ false → (caps.writes ≡ true → list_any (same_source d.source) defs ≡ false)
    → are_fit caps (defs ++ d ∷ []) ≡ true
fit_with caps defs d h fit new apart =
    let c = both (all_fit defs && are_numbered_apart defs) (not caps.writes || are_named_apart defs) h in
    let e = both (all_fit defs) (are_numbered_apart defs) c.0 in
    both_true (both_true (all_fit_more defs d e.0 fit) (numbered_more defs d e.1 new))
    (where_written caps.writes (are_named_apart defs) (are_named_apart (defs ++ d ∷ [])) c.1 (λ writes named. apart_more defs d named (apart writes)))

-- the servers from here on, of which one is the table's
module _ (tables : List TableDef) (d : TableDef) (fit : is_fit d ≡ true) (new : (n : ℕ) → is_defined (tables_on n tables) d.number ≡ false) where
  abbrev IsApart : ℕ → List ServerDef → Type 0
  IsApart n servers = (at : ℕ) (server : ServerDef) → slice_get servers at ≡ Some server → n + at ≡ d.server → server.caps.writes ≡ true → list_any (same_source d.source) (tables_on d.server tables) ≡ false

  one_fits : (n : ℕ) (caps : Caps) → are_fit caps (tables_on n tables) ≡ true → (n ≡ d.server → caps.writes ≡ true → list_any (same_source d.source) (tables_on d.server tables) ≡ false)
      → are_fit caps (tables_on n (tables ++ d ∷ [])) ≡ true
  one_fits n caps h apart = subst (λ (ts : List TableDef). are_fit caps ts ≡ true) (sym (on_more n tables d)) (by_server (d.server == n) refl)
    where
      by_server : (b : Bool) → (d.server == n) ≡ b → are_fit caps (tables_on n tables ++ (if b then d ∷ [] else [])) ≡ true
      by_server true is =
          let here = eqb-true d.server n is in
          fit_with caps (tables_on n tables) d h fit (new n) (λ writes. subst (λ (k : ℕ). list_any (same_source d.source) (tables_on k tables) ≡ false) here (apart (sym here) writes))
      by_server false is = subst (λ (ts : List TableDef). are_fit caps ts ≡ true) (sym (append-nil (tables_on n tables))) h

  pub all_fit_with : (n : ℕ) (servers : List ServerDef) → all_fit_on n servers tables ≡ true → IsApart n servers → all_fit_on n servers (tables ++ d ∷ []) ≡ true
  all_fit_with n [] h apart = refl
  all_fit_with n (server ∷ servers) h apart =
      let c = both (are_fit server.caps (tables_on n tables)) (all_fit_on (n + 1) servers tables) h in
      both_true (one_fits n server.caps c.0 (λ here. apart 0 server refl (omega arith))) (all_fit_with (n + 1) servers c.1 (λ at other there is. apart (suc at) other there (omega arith)))

pub with_table_well : (cat : Defined) (table : TableDef) → IsWellFormed cat → IsNewTable cat table → IsWellFormed (record cat { tables = cat.tables ++ table ∷ [] })
with_table_well cat table well new =
    let n = length cat.tables in
    let more : length (cat.tables ++ table ∷ []) ≡ n + 1 = length-append cat.tables (table ∷ []) in
    let names = names_of cat well.named in
    let limits = limits_of cat well.limited in
    let number = new.number in
    let few = new.few in
    record {
      schemas = well.schemas;
      tables = stand_more cat.schemas cat.tables table well.tables new.stands;
      views = well.views;
      placed = placed_more 0 cat.tables table well.placed (omega arith);
      fit = all_fit_with cat.tables table new.fit (λ server. unused 0 server table.number cat.tables well.placed (omega arith)) 0 cat.servers well.fit
          (λ at server there is. let here : at ≡ table.server = omega arith in new.apart server (subst (λ (k : ℕ). slice_get cat.servers k ≡ Some server) here there));
      stacked = well.stacked;
      typed = views_keep cat.tables (table ∷ []) [] cat.views well.typed;
      named = all_named (record cat { tables = cat.tables ++ table ∷ [] })
          (record { servers = names.servers; schemas = names.schemas; tables = all_more is_named_table cat.tables table names.tables new.named; views = names.views });
      limited = all_limited (record cat { tables = cat.tables ++ table ∷ [] })
          (record { servers = limits.servers; schemas = limits.schemas; relations = at_most (length (cat.tables ++ table ∷ []) + length cat.views) 1024 (omega arith); procedures = limits.procedures; views = limits.views });
    }
