-- What the entries of a table's maps say of its rows and of their keys.
use Rattle.std.proofs.Common.{◌≡◌, ℕ, suc, ◌+◌, ◌<◌, ◌≤◌, Bool, true, false, cond, not, ltb, leb, ◌&&◌, ◌||◌, List, [], ◌∷◌, length, get_or, Option, Some, None, inl, inr, refl, sym, ap, subst, ◌∙◌, arith}
use Rattle.std.specs.List.{list_all}
use Rattle.std.specs.List.Sorted.{IsStrictlySortedBy}
use Rattle.std.specs.Map.{lookup, keys_of}
use Rattle.std.specs.Ordering.{is_eq}
use Rattle.std.specs.declared.cmp.Ordering.TheVariants.{Less}
use Rattle.std.proofs.lemmas.Bool.{cases_Bool, cases_lt, true≢false, and_parts, and_from, lt-ltb, le-ltb, leb-true, le-leb}
use Rattle.std.proofs.lemmas.Map.Keys.{Less-from_sorted, sorted_tail}
use Rattle.vdb_base.specs.Order.{row_cmp}
use Rattle.vdb_model.specs.declared.table.ColumnDef.{ColumnDef}
use Rattle.vdb_model.specs.declared.table.TableDef.{TableDef}
use Rattle.vdb_model.specs.Rows.{Cells, same_row, cut_rows}
use Rattle.vdb_model.specs.World.{takes_row, takes_rows, keeps_key, is_table}
use Rattle.vdb_model.proofs.SameDistinct.{equal_rows}
use Rattle.store_tables.specs.Counting.{times, is_among, kept_in, seen_in}
use Rattle.store_tables.specs.InOrder.{entry_fits, entry_is_alone}
use Rattle.store_tables.specs.Tables.{TableHas, keys_of as keys_of_rows}
use Rattle.store_tables.specs.Tallies.{Tallies}
use Rattle.store_tables.specs.declared.counting.Counts.{Counts}
use Rattle.store_tables.specs.declared.table.Table.{Table}
use Rattle.store_tables.proofs.Times.{alike, once, never, times-cons}
use Rattle.store_tables.proofs.KeyedSteps.{apart_once, once_apart}

abbrev Entries : Type 0
Entries = List (Cells × Counts)

abbrev at : Cells → Entries → Option Counts
at row es = lookup (λ k. same_row row k) es

-- ---- a test of the entries, and of what a look-up finds

-- every entry that is found passes
found_passes : (p : Cells × Counts → Bool) (es : Entries) (row : Cells) (c : Counts) → list_all p es ≡ true → at row es ≡ Some c → p (row, c) ≡ true
found_passes p [] row c all is = cc
found_passes p (e ∷ es) row c all is = by (same_row row e.0) refl is (λ rest. found_passes p es row c (and_parts (p e) (list_all p es) all).1 rest)
  where
    by : (b : Bool) → same_row row e.0 ≡ b → cond b (Some e.1) (at row es) ≡ Some c → (at row es ≡ Some c → p (row, c) ≡ true) → p (row, c) ≡ true
    by true same is rest =
        let key : e.0 ≡ row = sym (equal_rows row e.0 same) in
        let value : e.1 ≡ c = cc in
        subst (λ (r : Cells). p (r, c) ≡ true) key (subst (λ (v : Counts). p (e.0, v) ≡ true) value (and_parts (p e) (list_all p es) all).0)
    by false same is rest = rest is

-- an entry of keys that ascend is found
none_before : (x : Cells) (es : Entries) → ((j : ℕ) → j < length (keys_of es) → row_cmp x (get_or (keys_of es) j x) ≡ Less) → at x es ≡ None
none_before x [] behind = refl
none_before x (e ∷ es) behind =
    let apart : same_row x e.0 ≡ false = ap is_eq (behind 0 (omega arith)) in
    ap (λ b. cond b (Some e.1) (at x es)) apart ∙ none_before x es (λ j lt. behind (suc j) (omega arith))

all_found : (p : Cells × Counts → Bool) (es : Entries) → IsStrictlySortedBy row_cmp (keys_of es) → ((row : Cells) (c : Counts) → at row es ≡ Some c → p (row, c) ≡ true) → list_all p es ≡ true
all_found p [] sorted h = refl
all_found p (e ∷ es) sorted h =
    let here : at e.0 (e ∷ es) ≡ Some e.1 = ap (λ b. cond b (Some e.1) (at e.0 es)) (alike.refl e.0) in
    and_from (p e) (list_all p es) (h e.0 e.1 here) (all_found p es (sorted_tail row_cmp e.0 (keys_of es) sorted) (λ row c is. h row c (later row c is)))
  where
    later : (row : Cells) (c : Counts) → at row es ≡ Some c → at row (e ∷ es) ≡ Some c
    later row c is = elim (cases_Bool (same_row row e.0)) [
      | inl same ↦
          let none : at e.0 es ≡ None = none_before e.0 es (λ j lt. Less-from_sorted row_cmp (e.0 ∷ keys_of es) 0 (suc j) e.0 sorted (omega arith) (omega arith)) in
          let gone : at row es ≡ None = ap (λ (r : Cells). at r es) (equal_rows row e.0 same) ∙ none in
          cc (gone, is)
      | inr other ↦ ap (λ b. cond b (Some e.1) (at row es)) other ∙ is
    ]

-- ---- rows

takes_all : (columns : List ColumnDef) (rows : List Cells) → ((row : Cells) → is_among row rows ≡ true → takes_row columns row ≡ true) → takes_rows columns rows ≡ true
takes_all columns [] h = refl
takes_all columns (row ∷ rows) h =
    and_from (takes_row columns row) (takes_rows columns rows) (h row (ap (λ b. b || is_among row rows) (alike.refl row))) (takes_all columns rows (λ r among. h r (ap (λ b. same_row r row || b) among ∙ or_true (same_row r row))))
  where
    or_true : (b : Bool) → (b || true) ≡ true
    or_true true = refl
    or_true false = refl

takes_each : (columns : List ColumnDef) (rows : List Cells) (row : Cells) → takes_rows columns rows ≡ true → 0 < times row rows → takes_row columns row ≡ true
takes_each columns [] row h some = absurd (omega arith)
takes_each columns (o ∷ rows) row h some =
    let p = and_parts (takes_row columns o) (takes_rows columns rows) h in
    elim (cases_Bool (same_row row o)) [
      | inl same ↦ ap (takes_row columns) (equal_rows row o same) ∙ p.0
      | inr other ↦ takes_each columns rows row p.1 (omega (arith, some, times-cons row o rows, never row o other))
    ]

among_times : (row : Cells) (rows : List Cells) → is_among row rows ≡ true → 0 < times row rows
among_times row [] h = cc
among_times row (o ∷ rows) h = by (same_row row o) refl h (among_times row rows)
  where
    by : (b : Bool) → same_row row o ≡ b → (b || is_among row rows) ≡ true → (is_among row rows ≡ true → 0 < times row rows) → 0 < times row (o ∷ rows)
    by true same h rest = omega (arith, times-cons row o rows, once row o same)
    by false same h rest = omega (arith, times-cons row o rows, rest h)

module _ (columns : List ColumnDef) (es : Entries) (kept seen : List Cells) (sorted : IsStrictlySortedBy row_cmp (keys_of es))
    (kept_is : (row : Cells) → kept_in (at row es) ≡ times row kept) (seen_is : (row : Cells) → seen_in (at row es) ≡ times row seen) where
  fits_of : (row : Cells) (o : Option Counts) → at row es ≡ o → list_all (entry_fits columns) es ≡ true → 0 < kept_in o + seen_in o → takes_row columns row ≡ true
  fits_of row None is all some = absurd (omega arith)
  fits_of row (Some c) is all some = by (ltb 0 c.kept) refl (ltb 0 c.seen) refl (found_passes (entry_fits columns) es row c all is)
    where
      by : (a : Bool) → ltb 0 c.kept ≡ a → (b : Bool) → ltb 0 c.seen ≡ b → (not (a || b) || takes_row columns row) ≡ true → takes_row columns row ≡ true
      by true e b f h = h
      by false e true f h = h
      by false e false f h =
          elim (cases_lt 0 c.kept) [
            | inl lt ↦ absurd (true≢false (sym (lt-ltb _ _ lt) ∙ e))
            | inr le ↦ elim (cases_lt 0 c.seen) [
              | inl lt ↦ absurd (true≢false (sym (lt-ltb _ _ lt) ∙ f))
              | inr few ↦ absurd (omega arith)
            ]
          ]

  pub rows_fit : list_all (entry_fits columns) es ≡ true → (takes_rows columns kept ≡ true) × (takes_rows columns seen ≡ true)
  rows_fit all = (
    takes_all columns kept (λ row among. fits_of row (at row es) refl all (omega (arith, among_times row kept among, kept_is row))),
    takes_all columns seen (λ row among. fits_of row (at row es) refl all (omega (arith, among_times row seen among, seen_is row))),
  )

  pub entries_fit : takes_rows columns kept ≡ true → takes_rows columns seen ≡ true → list_all (entry_fits columns) es ≡ true
  entries_fit k s = all_found (entry_fits columns) es sorted passes
    where
      passes : (row : Cells) (c : Counts) → at row es ≡ Some c → entry_fits columns (row, c) ≡ true
      passes row c is = by (takes_row columns row) refl
        where
          or_true : (b : Bool) → (b || true) ≡ true
          or_true true = refl
          or_true false = refl

          none : (n : ℕ) (rows : List Cells) → n ≡ times row rows → takes_rows columns rows ≡ true → takes_row columns row ≡ false → ltb 0 n ≡ false
          none n rows e all fails = elim (cases_lt 0 n) [
            | inl lt ↦ absurd (true≢false (sym (takes_each columns rows row all (omega arith)) ∙ fails))
            | inr le ↦ le-ltb _ _ le
          ]

          by : (b : Bool) → takes_row columns row ≡ b → entry_fits columns (row, c) ≡ true
          by true e = ap (λ b. not (ltb 0 c.kept || ltb 0 c.seen) || b) e ∙ or_true _
          by false e =
              let a : ltb 0 c.kept ≡ false = none c.kept kept (sym (ap kept_in is) ∙ kept_is row) k e in
              let b : ltb 0 c.seen ≡ false = none c.seen seen (sym (ap seen_in is) ∙ seen_is row) s e in
              ap (λ t. not (t || ltb 0 c.seen) || takes_row columns row) a ∙ ap (λ t. not t || takes_row columns row) b

  -- ---- keys

  pub stand_once : list_all entry_is_alone es ≡ true → (row : Cells) → (times row kept ≤ 1) × (times row seen ≤ 1)
  stand_once all row = by (at row es) refl
    where
      by : (o : Option Counts) → at row es ≡ o → (times row kept ≤ 1) × (times row seen ≤ 1)
      by None is = (omega (arith, sym (ap kept_in is) ∙ kept_is row), omega (arith, sym (ap seen_in is) ∙ seen_is row))
      by (Some c) is =
          let p = and_parts (leb c.kept 1) (leb c.seen 1) (found_passes entry_is_alone es row c all is) in
          (omega (arith, leb-true _ _ p.0, sym (ap kept_in is) ∙ kept_is row), omega (arith, leb-true _ _ p.1, sym (ap seen_in is) ∙ seen_is row))

  pub entries_alone : ((row : Cells) → (times row kept ≤ 1) × (times row seen ≤ 1)) → list_all entry_is_alone es ≡ true
  entries_alone few = all_found entry_is_alone es sorted (λ row c is.
      let f = few row in
      and_from (leb c.kept 1) (leb c.seen 1) (le-leb _ _ (omega (arith, f.0, sym (ap kept_in is) ∙ kept_is row))) (le-leb _ _ (omega (arith, f.1, sym (ap seen_in is) ∙ seen_is row))))

-- ---- a table

same_bool : (a b : Bool) → (a ≡ true → b ≡ true) → (b ≡ true → a ≡ true) → a ≡ b
same_bool true b f g = sym (f refl)
same_bool false true f g = g refl
same_bool false false f g = refl

module _ (def : TableDef) (kept seen : List Cells) (table : Table) (has : TableHas def.key kept seen table)
    (rows_sorted : IsStrictlySortedBy row_cmp (keys_of table.rows.counts.entries)) (keys_sorted : IsStrictlySortedBy row_cmp (keys_of table.keys.counts.entries)) where
  abbrev fits : Bool
  fits = list_all (entry_fits def.columns) table.rows.counts.entries

  abbrev alone : Bool
  alone = list_all entry_is_alone table.keys.counts.entries

  keeps_if : (key : Option (List ℕ)) → Tallies (keys_of_rows key kept) (keys_of_rows key seen) table.keys → alone ≡ true → (keeps_key key kept ≡ true) × (keeps_key key seen ≡ true)
  keeps_if None t h = (refl, refl)
  keeps_if (Some ats) t h =
      let few = stand_once [] table.keys.counts.entries (cut_rows ats kept) (cut_rows ats seen) keys_sorted t.kept_is t.seen_is h in
      (once_apart ats kept (λ k. (few k).0), once_apart ats seen (λ k. (few k).1))

  alone_if : (key : Option (List ℕ)) → Tallies (keys_of_rows key kept) (keys_of_rows key seen) table.keys → keeps_key key kept ≡ true → keeps_key key seen ≡ true → alone ≡ true
  alone_if None t k s = entries_alone [] table.keys.counts.entries [] [] keys_sorted t.kept_is t.seen_is (λ row. (omega arith, omega arith))
  alone_if (Some ats) t k s = entries_alone [] table.keys.counts.entries (cut_rows ats kept) (cut_rows ats seen) keys_sorted t.kept_is t.seen_is (λ row. (apart_once ats kept k row, apart_once ats seen s row))

  pub in_order : (fits && alone) ≡ (is_table def kept && is_table def seen)
  in_order = same_bool (fits && alone) (is_table def kept && is_table def seen)
      (λ h.
      let p = and_parts fits alone h in
      let rows = rows_fit def.columns table.rows.counts.entries kept seen rows_sorted has.rows.kept_is has.rows.seen_is p.0 in
      let keys = keeps_if def.key has.keys p.1 in
      and_from (is_table def kept) (is_table def seen)
      (and_from (takes_rows def.columns kept) (keeps_key def.key kept) rows.0 keys.0)
      (and_from (takes_rows def.columns seen) (keeps_key def.key seen) rows.1 keys.1))
      (λ h.
      let p = and_parts (is_table def kept) (is_table def seen) h in
      let k = and_parts (takes_rows def.columns kept) (keeps_key def.key kept) p.0 in
      let s = and_parts (takes_rows def.columns seen) (keeps_key def.key seen) p.1 in
      and_from fits alone (entries_fit def.columns table.rows.counts.entries kept seen rows_sorted has.rows.kept_is has.rows.seen_is k.0 s.0) (alone_if def.key has.keys k.1 s.1))

  -- the same of the tests that were made
  pub tests_order : (columns : List ColumnDef) (fit once : Bool) → columns ≡ def.columns → fit ≡ list_all (entry_fits columns) table.rows.counts.entries → once ≡ alone → (fit && once) ≡ (is_table def kept && is_table def seen)
  tests_order columns fit once same f o =
      ap (λ b. b && once) (f ∙ ap (λ (l : List ColumnDef). list_all (entry_fits l) table.rows.counts.entries) same) ∙ ap (λ b. fits && b) o ∙ in_order
