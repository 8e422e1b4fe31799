-- Stored tables by their names, and the same tables in the order of definitions.
use Rattle.std.proofs.Common.{◌≡◌, ◌∙◌, Bool, true, false, not, ◌&&◌, ◌||◌, ◌==◌, if◌then◌else◌, ℕ, List, [], ◌∷◌, ◌++◌, Option, Some, None, refl, sym, ap, subst, arith}
use Rattle.std.specs.List.{list_any}
use Rattle.std.specs.Cmp.Lexicographic.{same_text}
use Rattle.std.specs.Str.{str_to_ascii_lowercase}
use Rattle.std.proofs.lemmas.Bool.{and_parts}
use Rattle.std.proofs.lemmas.Bool.Decides.{nat_tests}
use Rattle.std.proofs.lemmas.Cmp.{nat_list_eq_equiv}
use Rattle.vdb_model.specs.declared.source.Delta.{Delta}
use Rattle.vdb_model.specs.declared.table.TableDef.{TableDef}
use Rattle.vdb_model.specs.Defs.{same_name, same_source, def_of, is_defined, are_numbered_apart, are_named_apart}
use Rattle.vdb_model.specs.Deltas.{changed, after_delta, after_deltas}
use Rattle.vdb_model.specs.Rows.{Cells}
use Rattle.resource.specs.Stored.{rows_named, tables_in, others_than, put_rows, by_number, after_one, after_stored, number_named, with_number, numbered}
use Rattle.resource.specs.declared.stored.StoredDelta.{StoredDelta}
use Rattle.resource.specs.declared.stored.StoredTable.{StoredTable}

-- a name is itself
itself : (a : List ℕ) → same_name a a ≡ true
itself a = nat_list_eq_equiv.refl a

is_same : (a b : List ℕ) → same_name a b ≡ true → a ≡ b
is_same a b h = same_text a b (sym h)

-- two names that differ from a third in the same way
differs : (a b c : List ℕ) → a ≡ b → same_name b c ≡ false → same_name a c ≡ false
differs a b c e h = ap (λ x. same_name x c) e ∙ h

rows_of_others : (source name : List ℕ) (tables : List StoredTable) → same_name source name ≡ false → rows_named name (others_than source tables) ≡ rows_named name tables
rows_of_others source name [] h = refl
rows_of_others source name (table ∷ tables) h = here (same_name table.source source) refl (rows_of_others source name tables h)
  where
    here : (b : Bool) → same_name table.source source ≡ b → rows_named name (others_than source tables) ≡ rows_named name tables
        → rows_named name (if b then others_than source tables else table ∷ others_than source tables) ≡ (if same_name table.source name then table.rows else rows_named name tables)
    here true e rest =
        rest ∙ sym (ap (λ b. if b then table.rows else rows_named name tables) (differs table.source source name (is_same table.source source e) h))
    here false e rest = ap (λ rows. if same_name table.source name then table.rows else rows) rest

rows_put : (source name : List ℕ) (rows : List Cells) (tables : List StoredTable) → same_name source name ≡ true → rows_named name (put_rows source rows tables) ≡ rows
rows_put source name rows tables h = ap (λ b. if b then rows else rows_named name (others_than source tables)) h

rows_beside : (source name : List ℕ) (rows : List Cells) (tables : List StoredTable) → same_name source name ≡ false → rows_named name (put_rows source rows tables) ≡ rows_named name tables
rows_beside source name rows tables h =
    ap (λ b. if b then rows else rows_named name (others_than source tables)) h ∙ rows_of_others source name tables h

-- no definition has the name
abbrev none_named : List ℕ → List TableDef → Bool
none_named source [] = true
none_named source (d ∷ ds) = not (same_name source d.source) && none_named source ds

not_true : (b : Bool) → not b ≡ true → b ≡ false
not_true true h = cc
not_true false h = refl

-- then its rows aren't seen
unseen : (delta : StoredDelta) (tables : List StoredTable) (ds : List TableDef) → none_named delta.source ds ≡ true → tables_in (after_one tables delta) ds ≡ tables_in tables ds
unseen delta tables [] h = refl
unseen delta tables (d ∷ ds) h =
    let parts = and_parts (not (same_name delta.source d.source)) (none_named delta.source ds) h in
    ap (λ rows. rows ∷ tables_in (after_one tables delta) ds) (rows_beside delta.source d.source _ tables (not_true _ parts.0))
    ∙ ap (λ rest. rows_named d.source tables ∷ rest) (unseen delta tables ds parts.1)

-- a definition apart from the others has another name than they
named_apart : (d : TableDef) (ds : List TableDef) → not (list_any (same_source d.source) ds) ≡ true → none_named d.source ds ≡ true
named_apart d [] h = refl
named_apart d (e ∷ es) h = here (same_name d.source e.source) refl (named_apart d es)
  where
    apart : (a b : Bool) → not (a || b) ≡ true → (a ≡ false) × (not b ≡ true)
    apart true b h = cc
    apart false b h = (refl, h)

    parts : (same_source d.source e ≡ false) × (not (list_any (same_source d.source) es) ≡ true)
    parts = apart (same_source d.source e) (list_any (same_source d.source) es) h

    here : (b : Bool) → same_name d.source e.source ≡ b → (not (list_any (same_source d.source) es) ≡ true → none_named d.source es ≡ true) → (not b && none_named d.source es) ≡ true
    here true eq rest =
        let same : same_source d.source e ≡ true = ap (λ name. same_source name e) (is_same d.source e.source eq) ∙ itself (str_to_ascii_lowercase e.source) in
        cc (same, parts.0)
    here false eq rest = rest parts.1

none_named_as : (a b : List ℕ) (ds : List TableDef) → a ≡ b → none_named b ds ≡ true → none_named a ds ≡ true
none_named_as a b ds e h = ap (λ x. none_named x ds) e ∙ h

-- the number by a name is a defined one
named_is_defined : (source : List ℕ) (ds : List TableDef) (n : ℕ) → number_named source ds ≡ Some n → is_defined ds n ≡ true
named_is_defined source [] n h = cc
named_is_defined source (d ∷ ds) n h = here (same_name source d.source) h (named_is_defined source ds n)
  where
    or_true : (b : Bool) → (b || true) ≡ true
    or_true true = refl
    or_true false = refl

    here : (b : Bool) → (if b then Some d.number else number_named source ds) ≡ Some n → (number_named source ds ≡ Some n → is_defined ds n ≡ true) → (d.number == n || is_defined ds n) ≡ true
    here true e rest =
        let same : d.number ≡ n = cc in
        let test : (d.number == n) ≡ true = grind (arith, nat_tests) in
        ap (λ b. b || is_defined ds n) test
    here false e rest = ap (λ b. d.number == n || b) (rest e) ∙ or_true (d.number == n)

-- one stored delta is its delta by number, where definitions are apart
pub one_seen : (delta : StoredDelta) (tables : List StoredTable) (defs : List TableDef) → are_numbered_apart defs ≡ true → are_named_apart defs ≡ true
    → tables_in (after_one tables delta) defs ≡ after_deltas defs (tables_in tables defs) (with_number (number_named delta.source defs) delta [])
one_seen delta tables [] n m = refl
one_seen delta tables (d ∷ ds) n m = here (same_name delta.source d.source) refl (one_seen delta tables ds)
  where
    new : List StoredTable
    new = after_one tables delta

    names : (not (list_any (same_source d.source) ds) ≡ true) × (are_named_apart ds ≡ true)
    names = and_parts (not (list_any (same_source d.source) ds)) (are_named_apart ds) m

    numbers : (not (is_defined ds d.number) ≡ true) × (are_numbered_apart ds ≡ true)
    numbers = and_parts (not (is_defined ds d.number)) (are_numbered_apart ds) n

    old_rows : List Cells
    old_rows = rows_named d.source tables

    -- the change meets the first table
    first : same_name delta.source d.source ≡ true
        → rows_named d.source new ∷ tables_in new ds ≡ (if d.number == d.number then changed (by_number d.number delta) old_rows ∷ tables_in tables ds else old_rows ∷ after_delta ds (tables_in tables ds) (by_number d.number delta))
    first e =
        let name : delta.source ≡ d.source = is_same delta.source d.source e in
        let rows : rows_named d.source new ≡ changed (by_number d.number delta) old_rows =
        rows_put delta.source d.source _ tables e ∙ ap (λ s. changed (by_number d.number delta) (rows_named s tables)) name in
        let rest : tables_in new ds ≡ tables_in tables ds = unseen delta tables ds (none_named_as delta.source d.source ds name (named_apart d ds names.0)) in
        let test : (d.number == d.number) ≡ true = grind (arith, nat_tests) in
        ap (λ r. r ∷ tables_in new ds) rows ∙ ap (λ ts. changed (by_number d.number delta) old_rows ∷ ts) rest
        ∙ sym (ap (λ b. if b then changed (by_number d.number delta) old_rows ∷ tables_in tables ds else old_rows ∷ after_delta ds (tables_in tables ds) (by_number d.number delta)) test)

    -- or a later one, if any
    later : (o : Option ℕ) → number_named delta.source ds ≡ o → same_name delta.source d.source ≡ false
        → tables_in new ds ≡ after_deltas ds (tables_in tables ds) (with_number o delta [])
        → rows_named d.source new ∷ tables_in new ds ≡ after_deltas (d ∷ ds) (old_rows ∷ tables_in tables ds) (with_number o delta [])
    later None e other rest =
        ap (λ r. r ∷ tables_in new ds) (rows_beside delta.source d.source _ tables other) ∙ ap (λ ts. old_rows ∷ ts) rest
    later (Some k) e other rest =
        let defined : is_defined ds k ≡ true = named_is_defined delta.source ds k e in
        let test : (d.number == k) ≡ false = apart_from (d.number == k) refl defined in
        ap (λ r. r ∷ tables_in new ds) (rows_beside delta.source d.source _ tables other) ∙ ap (λ ts. old_rows ∷ ts) rest
        ∙ sym (ap (λ b. if b then changed (by_number k delta) old_rows ∷ tables_in tables ds else old_rows ∷ after_delta ds (tables_in tables ds) (by_number k delta)) test)
      where
        apart_from : (b : Bool) → (d.number == k) ≡ b → is_defined ds k ≡ true → b ≡ false
        apart_from true is h =
            let same : d.number ≡ k = grind (arith, nat_tests) in
            let no : not (is_defined ds k) ≡ true = subst (λ x. not (is_defined ds x) ≡ true) same numbers.0 in
            cc (h, not_true _ no)
        apart_from false is h = refl

    here : (b : Bool) → same_name delta.source d.source ≡ b
        → (are_numbered_apart ds ≡ true → are_named_apart ds ≡ true → tables_in new ds ≡ after_deltas ds (tables_in tables ds) (with_number (number_named delta.source ds) delta []))
        → rows_named d.source new ∷ tables_in new ds ≡ after_deltas (d ∷ ds) (old_rows ∷ tables_in tables ds) (with_number (if b then Some d.number else number_named delta.source ds) delta [])
    here true e rest = first e
    here false e rest = later (number_named delta.source ds) refl e (rest numbers.1 names.1)

-- deltas in turn
pub after_append : (defs : List TableDef) (tables : List (List Cells)) (a b : List Delta) → after_deltas defs tables (a ++ b) ≡ after_deltas defs (after_deltas defs tables a) b
after_append defs tables [] b = refl
after_append defs tables (delta ∷ a) b = after_append defs (after_delta defs tables delta) a b

with_append : (o : Option ℕ) (delta : StoredDelta) (rest : List Delta) → with_number o delta rest ≡ with_number o delta [] ++ rest
with_append None delta rest = refl
with_append (Some n) delta rest = refl

-- the tables after all stored deltas are those after their deltas by number
pub all_seen : (deltas : List StoredDelta) (tables : List StoredTable) (defs : List TableDef) → are_numbered_apart defs ≡ true → are_named_apart defs ≡ true
    → tables_in (after_stored tables deltas) defs ≡ after_deltas defs (tables_in tables defs) (numbered defs deltas)
all_seen [] tables defs n m = refl
all_seen (delta ∷ deltas) tables defs n m =
    all_seen deltas (after_one tables delta) defs n m
    ∙ ap (λ ts. after_deltas defs ts (numbered defs deltas)) (one_seen delta tables defs n m)
    ∙ sym (after_append defs (tables_in tables defs) (with_number (number_named delta.source defs) delta []) (numbered defs deltas))
    ∙ ap (after_deltas defs (tables_in tables defs)) (sym (with_append (number_named delta.source defs) delta (numbered defs deltas)))

-- under no definitions nothing is seen
pub none_numbered : (deltas : List StoredDelta) → numbered [] deltas ≡ []
none_numbered [] = refl
none_numbered (delta ∷ deltas) = none_numbered deltas

-- one more stored delta
pub stored_append : (tables : List StoredTable) (deltas : List StoredDelta) (delta : StoredDelta) → after_stored tables (deltas ++ delta ∷ []) ≡ after_one (after_stored tables deltas) delta
stored_append tables [] delta = refl
stored_append tables (first ∷ deltas) delta = stored_append (after_one tables first) deltas delta

pub numbered_append : (defs : List TableDef) (deltas : List StoredDelta) (delta : StoredDelta) → numbered defs (deltas ++ delta ∷ []) ≡ numbered defs deltas ++ with_number (number_named delta.source defs) delta []
numbered_append defs [] delta = refl
numbered_append defs (first ∷ deltas) delta =
    ap (with_number (number_named first.source defs) first) (numbered_append defs deltas delta)
    ∙ with_append (number_named first.source defs) first (numbered defs deltas ++ with_number (number_named delta.source defs) delta [])
    ∙ append_all (with_number (number_named first.source defs) first []) (numbered defs deltas) (with_number (number_named delta.source defs) delta [])
    ∙ ap (λ front. front ++ with_number (number_named delta.source defs) delta []) (sym (with_append (number_named first.source defs) first (numbered defs deltas)))
  where
    append_all : (a b c : List Delta) → a ++ (b ++ c) ≡ (a ++ b) ++ c
    append_all [] b c = refl
    append_all (x ∷ a) b c = ap (λ rest. x ∷ rest) (append_all a b c)

second : (a b : Bool) → a ≡ false → (a || b) ≡ true → b ≡ true
second true b e h = cc
second false b e h = h

-- a name that none of these has isn't that of a defined one
other_name : (source : List ℕ) (n : ℕ) (ds : List TableDef) → is_defined ds n ≡ true → none_named source ds ≡ true → same_name source (def_of ds n).source ≡ false
other_name source n [] p q = cc
other_name source n (e ∷ es) p q =
    let parts = and_parts (not (same_name source e.source)) (none_named source es) q in
    here (e.number == n) refl parts.0 (λ defined. other_name source n es defined parts.1)
  where
    here : (b : Bool) → (e.number == n) ≡ b → not (same_name source e.source) ≡ true → (is_defined es n ≡ true → same_name source (def_of es n).source ≡ false) → same_name source (if b then e else def_of es n).source ≡ false
    here true is first rest = not_true _ first
    here false is first rest = rest (second (e.number == n) (is_defined es n) is p)

-- a defined number is found by its table's name, where definitions are apart
pub number_found : (defs : List TableDef) (n : ℕ) → are_named_apart defs ≡ true → is_defined defs n ≡ true → number_named (def_of defs n).source defs ≡ Some n
number_found [] n m h = cc
number_found (d ∷ ds) n m h = here (d.number == n) refl (number_found ds n)
  where
    names : (not (list_any (same_source d.source) ds) ≡ true) × (are_named_apart ds ≡ true)
    names = and_parts (not (list_any (same_source d.source) ds)) (are_named_apart ds) m

    swap : (a b : List ℕ) → same_name a b ≡ false → same_name b a ≡ false
    swap a b h = nat_list_eq_equiv.symm b a ∙ h

    here : (b : Bool) → (d.number == n) ≡ b → (are_named_apart ds ≡ true → is_defined ds n ≡ true → number_named (def_of ds n).source ds ≡ Some n) → number_named (if b then d else def_of ds n).source (d ∷ ds) ≡ Some n
    here true is rest =
        let same : d.number ≡ n = grind (arith, nat_tests) in
        ap (λ b. if b then Some d.number else number_named d.source ds) (itself d.source) ∙ ap (λ k. Some k) same
    here false is rest =
        let defined : is_defined ds n ≡ true = second (d.number == n) (is_defined ds n) is h in
        let other : same_name (def_of ds n).source d.source ≡ false = swap d.source (def_of ds n).source (other_name d.source n ds defined (named_apart d ds names.0)) in
        ap (λ b. if b then Some d.number else number_named (def_of ds n).source ds) other ∙ rest names.1 defined
