-- A change of one of the tables, and a walk over all of them.
use Rattle.std.proofs.Common.{◌≡◌, ℕ, zero, suc, ◌+◌, ◌<◌, ◌≤◌, Bool, true, false, cond, ◌&&◌, ◌||◌, List, [], ◌∷◌, ◌++◌, length, get_or, set, Option, inl, inr, refl, sym, ap, subst, ◌∙◌, arith, length-set, get_or-set_same, get_or-set_other}
use Rattle.std.specs.Prelude.{◌==◌}
use Rattle.std.proofs.lemmas.Bool.{cases_eq, and_parts, and_from, eq-eqb, ne_eqb}
use Rattle.vdb_model.specs.declared.source.Delta.{Delta}
use Rattle.vdb_model.specs.declared.table.TableDef.{TableDef}
use Rattle.vdb_model.specs.Defs.{is_defined}
use Rattle.vdb_model.specs.Deltas.{changed, after_delta}
use Rattle.vdb_model.specs.Rows.{Cells}
use Rattle.vdb_model.specs.World.{is_table, is_world}
use Rattle.resource.specs.Stored.{tables_in}
use Rattle.store_tables.specs.Tables.{AreKeys, TableHas, SameRows}
use Rattle.store_tables.specs.Shelves.{TablesHave, IsPlace}
use Rattle.store_tables.specs.declared.table.Keys.{Keys}
use Rattle.store_tables.specs.declared.table.Table.{Table}
use Rattle.store_tables.proofs.TableSteps.{same_rows}

-- a change of the table at its place
pub after_delta-at : (delta : Delta) (defs : List TableDef) (tables : List (List Cells)) (at : ℕ) → length tables ≡ length defs → IsPlace delta.table defs at → after_delta defs tables delta ≡ set tables at (changed delta (get_or tables at []))
after_delta-at delta [] tables at len p = absurd (omega (arith, p.within))
after_delta-at delta (d ∷ ds) [] at len p = absurd (omega arith)
after_delta-at delta (d ∷ ds) (rows ∷ tables) zero len p =
    let test : (d.number == delta.table) ≡ true = eq-eqb d.number delta.table (p.here d) in
    ap (λ b. cond b (changed delta rows ∷ tables) (rows ∷ after_delta ds tables delta)) test
after_delta-at delta (d ∷ ds) (rows ∷ tables) (suc at) len p =
    let test : (d.number == delta.table) ≡ false = ne_eqb d.number delta.table (p.first 0 d (omega arith)) in
    let rest : after_delta ds tables delta ≡ set tables at (changed delta (get_or tables at [])) = after_delta-at delta ds tables at (omega arith) (record {
      within = omega (arith, p.within);
      here = λ e. p.here e;
      first = λ k e lt. p.first (suc k) e (omega arith);
    }) in
    ap (λ b. cond b (changed delta rows ∷ tables) (rows ∷ after_delta ds tables delta)) test ∙ ap (λ ts. rows ∷ ts) rest

-- a change of no defined table
pub after_delta-none : (delta : Delta) (defs : List TableDef) (tables : List (List Cells)) → length tables ≡ length defs → is_defined defs delta.table ≡ false → after_delta defs tables delta ≡ tables
after_delta-none delta [] tables len none = refl
after_delta-none delta (d ∷ ds) [] len none = absurd (omega arith)
after_delta-none delta (d ∷ ds) (rows ∷ tables) len none = by (d.number == delta.table) none (after_delta-none delta ds tables (omega arith))
  where
    by : (b : Bool) → (b || is_defined ds delta.table) ≡ false → (is_defined ds delta.table ≡ false → after_delta ds tables delta ≡ tables) → cond b (changed delta rows ∷ tables) (rows ∷ after_delta ds tables delta) ≡ rows ∷ tables
    by true h rest = cc
    by false h rest = ap (λ ts. rows ∷ ts) (rest h)

-- one table has other rows
pub has_set : (defs : List TableDef) (kept seen : List (List Cells)) (tables : List Table) (at : ℕ) (rows : List Cells) (table : Table) → TablesHave defs kept seen tables → at < length defs
    → ((d : TableDef) → TableHas (get_or defs at d).key (get_or kept at []) rows table) → TablesHave defs kept (set seen at rows) (set tables at table)
has_set defs kept seen tables at rows table has lt here = record {
  kept_len = has.kept_len;
  seen_len = length-set seen at rows ∙ has.seen_len;
  len = length-set tables at table ∙ has.len;
  each = λ i d t small. elim (cases_eq i at) [
    | inl same ↦
        let seen_is : get_or (set seen at rows) i [] ≡ rows = ap (λ k. get_or (set seen at rows) k []) same ∙ get_or-set_same seen at rows [] (omega (arith, has.seen_len)) in
        let table_is : get_or (set tables at table) i t ≡ table = ap (λ k. get_or (set tables at table) k t) same ∙ get_or-set_same tables at table t (omega (arith, has.len)) in
        subst (λ (k : ℕ). TableHas (get_or defs k d).key (get_or kept k []) (get_or (set seen at rows) i []) (get_or (set tables at table) i t)) (sym same)
        (subst (λ (s : List Cells). TableHas (get_or defs at d).key (get_or kept at []) s (get_or (set tables at table) i t)) (sym seen_is)
        (subst (λ (x : Table). TableHas (get_or defs at d).key (get_or kept at []) rows x) (sym table_is) (here d)))
    | inr other ↦
        subst (λ (s : List Cells). TableHas (get_or defs i d).key (get_or kept i []) s (get_or (set tables at table) i t)) (sym (get_or-set_other seen at i rows [] other))
        (subst (λ (x : Table). TableHas (get_or defs i d).key (get_or kept i []) (get_or seen i []) x) (sym (get_or-set_other tables at i table t other)) (has.each i d t small))
  ];
}

-- a change was made of the table at its place
pub has_changed : (delta : Delta) (defs : List TableDef) (kept seen : List (List Cells)) (tables : List Table) (at : ℕ) (table : Table) → IsPlace delta.table defs at → TablesHave defs kept seen tables
    → ((d : TableDef) → TableHas (get_or defs at d).key (get_or kept at []) (changed delta (get_or seen at [])) table) → TablesHave defs kept (after_delta defs seen delta) (set tables at table)
has_changed delta defs kept seen tables at table p has here =
    subst (λ s. TablesHave defs kept s (set tables at table)) (sym (after_delta-at delta defs seen at has.seen_len p)) (has_set defs kept seen tables at (changed delta (get_or seen at [])) table has p.within here)

-- one table is another that has the same
pub has_same : (defs : List TableDef) (kept seen : List (List Cells)) (tables : List Table) (at : ℕ) (table : Table) → TablesHave defs kept seen tables → at < length defs
    → ((d : TableDef) → TableHas (get_or defs at d).key (get_or kept at []) (get_or seen at []) table) → TablesHave defs kept seen (set tables at table)
has_same defs kept seen tables at table has lt here = record {
  kept_len = has.kept_len;
  seen_len = has.seen_len;
  len = length-set tables at table ∙ has.len;
  each = λ i d t small. elim (cases_eq i at) [
    | inl same ↦
        let table_is : get_or (set tables at table) i t ≡ table = ap (λ k. get_or (set tables at table) k t) same ∙ get_or-set_same tables at table t (omega (arith, has.len)) in
        subst (λ (k : ℕ). TableHas (get_or defs k d).key (get_or kept k []) (get_or seen k []) (get_or (set tables at table) i t)) (sym same)
        (subst (λ (x : Table). TableHas (get_or defs at d).key (get_or kept at []) (get_or seen at []) x) (sym table_is) (here d))
    | inr other ↦
        subst (λ (x : Table). TableHas (get_or defs i d).key (get_or kept i []) (get_or seen i []) x) (sym (get_or-set_other tables at i table t other)) (has.each i d t small)
  ];
}

-- ---- all tables in turn

-- the first tables went one step, and the others are as they were
pub record Walked (step : Table → Table → Type 0) (i : ℕ) (was now : List Table) : Type 0 where
  pub len : length now ≡ length was
  pub front : (k : ℕ) (t : Table) → k < i → k < length was → step (get_or was k t) (get_or now k t)
  pub rest : (k : ℕ) (t : Table) → i ≤ k → get_or now k t ≡ get_or was k t

pub Walked-more : (step : Table → Table → Type 0) (i : ℕ) (was now : List Table) (e new : Table) → i < length now → Walked step i was now → step (get_or now i e) new → Walked step (i + 1) was (set now i new)
Walked-more step i was now e new lt w s = record {
  len = length-set now i new ∙ w.len;
  front = λ k t small within. elim (cases_eq k i) [
    | inl same ↦
        let now_is : get_or (set now i new) k t ≡ new = ap (λ j. get_or (set now i new) j t) same ∙ get_or-set_same now i new t lt in
        let was_is : get_or now i e ≡ get_or was k t = any_default now i e t lt ∙ w.rest i t (omega arith) ∙ ap (λ j. get_or was j t) (sym same) in
        subst (λ (x : Table). step (get_or was k t) x) (sym now_is) (subst (λ (x : Table). step x new) was_is s)
    | inr other ↦
        let before : k < i = omega arith in
        subst (λ (x : Table). step (get_or was k t) x) (sym (get_or-set_other now i k new t other)) (w.front k t before within)
  ];
  rest = λ k t le. get_or-set_other now i k new t (λ same. omega arith) ∙ w.rest k t (omega arith);
}
  where
    any_default : (xs : List Table) (i : ℕ) (d e : Table) → i < length xs → get_or xs i d ≡ get_or xs i e
    any_default [] i d e lt = absurd (omega arith)
    any_default (x ∷ xs) zero d e lt = refl
    any_default (x ∷ xs) (suc i) d e lt = any_default xs i d e (omega arith)

-- a step that leaves every table with the rows as seen, or as kept
abbrev pub Keeps : Table → Table → Type 0
Keeps a b = (ats : Option (List ℕ)) (kept seen : List Cells) → TableHas ats kept seen a → TableHas ats seen seen b

abbrev pub TakesBack : Table → Table → Type 0
TakesBack a b = (ats : Option (List ℕ)) (kept seen : List Cells) → TableHas ats kept seen a → TableHas ats kept kept b

pub all_kept : (defs : List TableDef) (kept seen : List (List Cells)) (i : ℕ) (was now : List Table) → length now ≤ i → Walked Keeps i was now → TablesHave defs kept seen was → TablesHave defs seen seen now
all_kept defs kept seen i was now all w has = record {
  kept_len = has.seen_len;
  seen_len = has.seen_len;
  len = w.len ∙ has.len;
  each = λ k d t lt. w.front k t (omega (arith, w.len, has.len)) (omega (arith, has.len)) (get_or defs k d).key (get_or kept k []) (get_or seen k []) (has.each k d t lt);
}

pub all_taken_back : (defs : List TableDef) (kept seen : List (List Cells)) (i : ℕ) (was now : List Table) → length now ≤ i → Walked TakesBack i was now → TablesHave defs kept seen was → TablesHave defs kept kept now
all_taken_back defs kept seen i was now all w has = record {
  kept_len = has.kept_len;
  seen_len = has.kept_len;
  len = w.len ∙ has.len;
  each = λ k d t lt. w.front k t (omega (arith, w.len, has.len)) (omega (arith, has.len)) (get_or defs k d).key (get_or kept k []) (get_or seen k []) (has.each k d t lt);
}

-- ---- empty tables

empty_len : (defs : List TableDef) → length (tables_in [] defs) ≡ length defs
empty_len [] = refl
empty_len (d ∷ ds) = ap suc (empty_len ds)

empty_at : (defs : List TableDef) (i : ℕ) → get_or (tables_in [] defs) i [] ≡ []
empty_at [] i = refl
empty_at (d ∷ ds) zero = refl
empty_at (d ∷ ds) (suc i) = empty_at ds i

-- a table has no rows, whatever its key
abbrev pub IsEmptyTable : Table → Type 0
IsEmptyTable table = (ats : Option (List ℕ)) → TableHas ats [] [] table

pub all_empty : (defs : List TableDef) (tables : List Table) → length tables ≡ length defs → ((k : ℕ) (t : Table) → k < length tables → IsEmptyTable (get_or tables k t)) → TablesHave defs (tables_in [] defs) (tables_in [] defs) tables
all_empty defs tables len empty = record {
  kept_len = empty_len defs;
  seen_len = empty_len defs;
  len = len;
  each = λ i d t lt.
      subst (λ (rows : List Cells). TableHas (get_or defs i d).key rows rows (get_or tables i t)) (sym (empty_at defs i)) (empty i t (omega arith) (get_or defs i d).key);
}

-- one more at the end
pub one_more : (tables : List Table) (table : Table) → ((k : ℕ) (t : Table) → k < length tables → IsEmptyTable (get_or tables k t)) → IsEmptyTable table → (k : ℕ) (t : Table) → k < length (tables ++ table ∷ []) → IsEmptyTable (get_or (tables ++ table ∷ []) k t)
one_more [] table empty here zero t lt = here
one_more [] table empty here (suc k) t lt = absurd (omega arith)
one_more (x ∷ tables) table empty here zero t lt = empty 0 t (omega arith)
one_more (x ∷ tables) table empty here (suc k) t lt = one_more tables table (λ j u small. empty (suc j) u (omega arith)) here k t (omega arith)

-- ---- looking up definitions

pub any_def : (defs : List TableDef) (i : ℕ) (d e : TableDef) → i < length defs → get_or defs i d ≡ get_or defs i e
any_def [] i d e lt = absurd (omega arith)
any_def (x ∷ defs) zero d e lt = refl
any_def (x ∷ defs) (suc i) d e lt = any_def defs i d e (omega arith)

pub not_defined : (n : ℕ) (defs : List TableDef) → ((k : ℕ) (d : TableDef) → k < length defs → (get_or defs k d).number ≡ n → ⊥) → is_defined defs n ≡ false
not_defined n [] h = refl
not_defined n (d ∷ ds) h =
    let first : (d.number == n) ≡ false = ne_eqb d.number n (h 0 d (omega arith)) in
    ap (λ b. b || is_defined ds n) first ∙ not_defined n ds (λ k e lt. h (suc k) e (omega arith))

-- ---- worlds, table by table

pub world_all : (defs : List TableDef) (tables : List (List Cells)) → length tables ≡ length defs → ((k : ℕ) (d : TableDef) → k < length defs → is_table (get_or defs k d) (get_or tables k []) ≡ true) → is_world defs tables ≡ true
world_all [] [] len h = refl
world_all [] (rows ∷ tables) len h = absurd (omega arith)
world_all (d ∷ ds) [] len h = absurd (omega arith)
world_all (d ∷ ds) (rows ∷ tables) len h = and_from (is_table d rows) (is_world ds tables) (h 0 d (omega arith)) (world_all ds tables (omega arith) (λ k e lt. h (suc k) e (omega arith)))

pub world_one : (defs : List TableDef) (tables : List (List Cells)) (k : ℕ) (d : TableDef) → is_world defs tables ≡ true → k < length defs → is_table (get_or defs k d) (get_or tables k []) ≡ true
world_one [] tables k d h lt = absurd (omega arith)
world_one (e ∷ ds) [] k d h lt = cc
world_one (e ∷ ds) (rows ∷ tables) zero d h lt = (and_parts (is_table e rows) (is_world ds tables) h).0
world_one (e ∷ ds) (rows ∷ tables) (suc k) d h lt = world_one ds tables k d (and_parts (is_table e rows) (is_world ds tables) h).1 (omega arith)

-- the tables so far are in order, whatever rows they have
abbrev pub InOrderTo : ℕ → List TableDef → List (List Cells) → List (List Cells) → Type 0
InOrderTo i defs kept seen = (k : ℕ) (d : TableDef) → k < i → k < length defs → (is_table (get_or defs k d) (get_or kept k []) && is_table (get_or defs k d) (get_or seen k [])) ≡ true

pub all_in_order : (defs : List TableDef) (kept seen : List (List Cells)) (tables : List Table) (i : ℕ) → length defs ≤ i → TablesHave defs kept seen tables → InOrderTo i defs kept seen → true ≡ (is_world defs kept && is_world defs seen)
all_in_order defs kept seen tables i all has order =
    sym (and_from (is_world defs kept) (is_world defs seen)
    (world_all defs kept has.kept_len (λ k d lt. (and_parts (is_table (get_or defs k d) (get_or kept k [])) _ (order k d (omega arith) lt)).0))
    (world_all defs seen has.seen_len (λ k d lt. (and_parts (is_table (get_or defs k d) (get_or kept k [])) _ (order k d (omega arith) lt)).1)))

pub not_in_order : (defs : List TableDef) (kept seen : List (List Cells)) (k : ℕ) (d : TableDef) → k < length defs → (is_table (get_or defs k d) (get_or kept k []) && is_table (get_or defs k d) (get_or seen k [])) ≡ false → false ≡ (is_world defs kept && is_world defs seen)
not_in_order defs kept seen k d lt fails = by (is_world defs kept) refl (is_world defs seen) refl
  where
    by : (a : Bool) → is_world defs kept ≡ a → (b : Bool) → is_world defs seen ≡ b → false ≡ (a && b)
    by false e b f = refl
    by true e false f = refl
    by true e true f =
        let both : (is_table (get_or defs k d) (get_or kept k []) && is_table (get_or defs k d) (get_or seen k [])) ≡ true =
        and_from (is_table (get_or defs k d) (get_or kept k [])) (is_table (get_or defs k d) (get_or seen k [])) (world_one defs kept k d e lt) (world_one defs seen k d f lt) in
        cc (both, fails)

pub order_more : (defs : List TableDef) (kept seen : List (List Cells)) (i : ℕ) (e : TableDef) → i < length defs → InOrderTo i defs kept seen
    → true ≡ (is_table (get_or defs i e) (get_or kept i []) && is_table (get_or defs i e) (get_or seen i [])) → InOrderTo (i + 1) defs kept seen
order_more defs kept seen i e small order here = λ k d lt within. elim (cases_eq k i) [
  | inl same ↦
      let at : get_or defs k d ≡ get_or defs i e = ap (λ j. get_or defs j d) same ∙ any_def defs i d e small in
      ap (λ (x : TableDef). is_table x (get_or kept k []) && is_table x (get_or seen k [])) at ∙ ap (λ j. is_table (get_or defs i e) (get_or kept j []) && is_table (get_or defs i e) (get_or seen j [])) same ∙ sym here
  | inr other ↦ order k d (omega arith) within
]

-- ---- a step of the table at a place

module _ (defs : List TableDef) (kept seen : List (List Cells)) (tables : List Table) (at : ℕ) (old new : Table) (has : TablesHave defs kept seen tables) (small : at < length defs) (is : old ≡ get_or tables at old) where
  here : (d : TableDef) → TableHas (get_or defs at d).key (get_or kept at []) (get_or seen at []) old
  here d = subst (λ (t : Table). TableHas (get_or defs at d).key (get_or kept at []) (get_or seen at []) t) (sym is) (has.each at d old small)

  pub stays_at : SameRows old new → TablesHave defs kept seen (set tables at new)
  stays_at same = has_same defs kept seen tables at new has small (λ d. same_rows (get_or defs at d).key (get_or kept at []) (get_or seen at []) old new same (here d))

  pub applied_at : (delta : Delta) (keys : Keys) → IsPlace delta.table defs at → ((d : TableDef) → AreKeys (get_or defs at d).key delta keys)
      → ((ats : Option (List ℕ)) (k s : List Cells) → AreKeys ats delta keys → TableHas ats k s old → TableHas ats k (changed delta s) new) → TablesHave defs kept (after_delta defs seen delta) (set tables at new)
  applied_at delta keys place are step = has_changed delta defs kept seen tables at new place has (λ d. step (get_or defs at d).key (get_or kept at []) (get_or seen at []) (are d) (here d))

  -- the test of the table says whether its rows are in order
  pub order_at : (d : TableDef) (r : Bool) → d ≡ get_or defs at d → ((k s : List Cells) → TableHas d.key k s old → r ≡ (is_table d k && is_table d s))
      → r ≡ (is_table (get_or defs at d) (get_or kept at []) && is_table (get_or defs at d) (get_or seen at []))
  order_at d r is_def test =
      test (get_or kept at []) (get_or seen at []) (subst (λ (e : TableDef). TableHas e.key (get_or kept at []) (get_or seen at []) old) (sym is_def) (here d))
      ∙ ap (λ (e : TableDef). is_table e (get_or kept at []) && is_table e (get_or seen at [])) is_def
