-- The rows that a tally answers.
use Rattle.std.proofs.Common.{◌≡◌, ℕ, zero, suc, ◌+◌, ◌<◌, true, false, cond, List, [], ◌∷◌, ◌++◌, length, get_or, Some, replicate, inl, inr, refl, sym, ap, ◌∙◌, append_assoc, arith}
use Rattle.std.specs.List.{filter}
use Rattle.std.specs.Ordering.{is_eq}
use Rattle.std.specs.declared.cmp.Ordering.TheVariants.{Less}
use Rattle.std.specs.Map.{lookup, keys_of}
use Rattle.std.specs.List.Sorted.{IsStrictlySortedBy}
use Rattle.std.proofs.lemmas.Bool.{cases_Bool}
use Rattle.std.proofs.lemmas.List.{append-nil}
use Rattle.std.proofs.lemmas.List.Elements.{filter-append}
use Rattle.std.proofs.lemmas.Map.Keys.{Less-from_sorted, sorted_tail}
use Rattle.vdb_base.specs.Order.{row_cmp}
use Rattle.vdb_model.specs.declared.expr.Expr.{Expr}
use Rattle.vdb_model.specs.Answers.{passes_all}
use Rattle.vdb_model.specs.Rows.{Cells, same_row, cut_rows}
use Rattle.vdb_model.proofs.SameDistinct.{equal_rows}
use Rattle.resource.specs.Checked.{passing_cut}
use Rattle.store_tables.specs.Answering.{rows_seen, repeated}
use Rattle.store_tables.specs.Counting.{times, seen_in, SameBag}
use Rattle.store_tables.specs.Tallies.{Tallies}
use Rattle.store_tables.specs.declared.tally.Tally.{Tally}
use Rattle.store_tables.proofs.Listed.{SameBag-passing}
use Rattle.store_tables.specs.declared.counting.Counts.{Counts}
use Rattle.store_tables.proofs.Times.{once, never, times-append, times-cons}
use Rattle.store_tables.proofs.TableSteps.{cut_rows-append}

module _ (es : List Expr) (columns : List ℕ) where
  pub passing-append : (xs ys : List Cells) → passing_cut es columns (xs ++ ys) ≡ passing_cut es columns xs ++ passing_cut es columns ys
  passing-append xs ys = ap (cut_rows columns) (filter-append (passes_all es) xs ys) ∙ cut_rows-append columns (filter (passes_all es) xs) (filter (passes_all es) ys)

  pub passing-replicate : (n : ℕ) (row : Cells) → passing_cut es columns (replicate n row) ≡ repeated n (passing_cut es columns (row ∷ []))
  passing-replicate zero row = refl
  passing-replicate (suc n) row = passing-append (row ∷ []) (replicate n row) ∙ ap (λ l. passing_cut es columns (row ∷ []) ++ l) (passing-replicate n row)

  -- one entry more
  pub passing_more : (made passing : List Cells) (entry : Cells × Counts) (entries : List (Cells × Counts)) (all : List Cells) → passing ≡ passing_cut es columns (entry.0 ∷ [])
      → made ++ passing_cut es columns (rows_seen (entry ∷ entries)) ≡ all → (made ++ repeated entry.1.seen passing) ++ passing_cut es columns (rows_seen entries) ≡ all
  passing_more made passing entry entries all is so_far =
      let here : repeated entry.1.seen passing ≡ passing_cut es columns (replicate entry.1.seen entry.0) = ap (repeated entry.1.seen) is ∙ sym (passing-replicate entry.1.seen entry.0) in
      let split : passing_cut es columns (rows_seen (entry ∷ entries)) ≡ repeated entry.1.seen passing ++ passing_cut es columns (rows_seen entries) =
      passing-append (replicate entry.1.seen entry.0) (rows_seen entries) ∙ ap (λ l. l ++ passing_cut es columns (rows_seen entries)) (sym here) in
      append_assoc made (repeated entry.1.seen passing) (passing_cut es columns (rows_seen entries)) ∙ ap (λ l. made ++ l) (sym split) ∙ so_far

-- one step through the entries
pub passing_step : (es : List Expr) (columns : List ℕ) (made passing asked now : List Cells) (row : Cells) (counts : Counts) (before after entries : List (Cells × Counts)) → before ≡ (row, counts) ∷ after → asked ≡ row ∷ [] → passing ≡ passing_cut es columns asked
    → now ≡ made ++ repeated counts.seen passing → made ++ passing_cut es columns (rows_seen before) ≡ passing_cut es columns (rows_seen entries) → now ++ passing_cut es columns (rows_seen after) ≡ passing_cut es columns (rows_seen entries)
passing_step es columns made passing asked now row counts before after entries here is pass more so_far =
    ap (λ l. l ++ passing_cut es columns (rows_seen after)) more
    ∙ passing_more es columns made passing (row, counts) after (passing_cut es columns (rows_seen entries)) (pass ∙ ap (passing_cut es columns) is)
    (ap (λ (l : List (Cells × Counts)). made ++ passing_cut es columns (rows_seen l)) (sym here) ∙ so_far)

pub repeated_more : (n : ℕ) (rows : List Cells) → repeated n rows ++ rows ≡ repeated (n + 1) rows
repeated_more n rows = let next : suc n ≡ n + 1 = omega arith in by n ∙ ap (λ k. repeated k rows) next
  where
    by : (n : ℕ) → repeated n rows ++ rows ≡ repeated (suc n) rows
    by zero = sym (append-nil rows)
    by (suc n) = append_assoc rows (repeated n rows) rows ∙ ap (λ l. rows ++ l) (by n)

-- one copy more
pub copies_more : (n : ℕ) (start made copied rows now : List Cells) → now ≡ made ++ copied → copied ≡ rows → made ≡ start ++ repeated n rows → now ≡ start ++ repeated (n + 1) rows
copies_more n start made copied rows now is copy so_far =
    is ∙ ap (λ l. made ++ l) copy ∙ ap (λ l. l ++ rows) so_far ∙ append_assoc start (repeated n rows) rows ∙ ap (λ l. start ++ l) (repeated_more n rows)

-- ---- how often a row is among them

times-replicate : (r row : Cells) (n : ℕ) → times r (replicate n row) ≡ cond (same_row r row) n 0
times-replicate r row n = elim (cases_Bool (same_row r row)) [
  | inl same ↦ as_often n same ∙ sym (ap (λ b. cond b n 0) same)
  | inr other ↦ not_once n other ∙ sym (ap (λ b. cond b n 0) other)
]
  where
    as_often : (n : ℕ) → same_row r row ≡ true → times r (replicate n row) ≡ n
    as_often zero same = refl
    as_often (suc n) same = omega (arith, times-cons r row (replicate n row), once r row same, as_often n same)

    not_once : (n : ℕ) → same_row r row ≡ false → times r (replicate n row) ≡ 0
    not_once zero other = refl
    not_once (suc n) other = omega (arith, times-cons r row (replicate n row), never r row other, not_once n other)

-- rows behind a key aren't it
none_seen : (x : Cells) (es : List (Cells × Counts)) → ((j : ℕ) → j < length (keys_of es) → row_cmp x (get_or (keys_of es) j x) ≡ Less) → times x (rows_seen es) ≡ 0
none_seen x [] behind = refl
none_seen x (e ∷ es) behind =
    let apart : same_row x e.0 ≡ false = ap is_eq (behind 0 (omega arith)) in
    let here : times x (replicate e.1.seen e.0) ≡ 0 = times-replicate x e.0 e.1.seen ∙ ap (λ b. cond b e.1.seen 0) apart in
    omega (arith, times-append x (replicate e.1.seen e.0) (rows_seen es), here, none_seen x es (λ j lt. behind (suc j) (omega arith)))

pub times-rows_seen : (r : Cells) (es : List (Cells × Counts)) → IsStrictlySortedBy row_cmp (keys_of es) → times r (rows_seen es) ≡ seen_in (lookup (λ k. same_row r k) es)
times-rows_seen r [] sorted = refl
times-rows_seen r (e ∷ es) sorted =
    let split = times-append r (replicate e.1.seen e.0) (rows_seen es) in
    let first = times-replicate r e.0 e.1.seen in
    elim (cases_Bool (same_row r e.0)) [
      | inl same ↦
          let behind : times e.0 (rows_seen es) ≡ 0 = none_seen e.0 es (λ j lt. Less-from_sorted row_cmp (e.0 ∷ keys_of es) 0 (suc j) e.0 sorted (omega arith) (omega arith)) in
          let rest : times r (rows_seen es) ≡ 0 = ap (λ (x : Cells). times x (rows_seen es)) (equal_rows r e.0 same) ∙ behind in
          let n : times r (replicate e.1.seen e.0) ≡ e.1.seen = first ∙ ap (λ b. cond b e.1.seen 0) same in
          let found : seen_in (lookup (λ k. same_row r k) (e ∷ es)) ≡ e.1.seen = ap (λ b. seen_in (cond b (Some e.1) (lookup (λ k. same_row r k) es))) same in
          omega (arith, split, n, rest, found)
      | inr other ↦
          let n : times r (replicate e.1.seen e.0) ≡ 0 = first ∙ ap (λ b. cond b e.1.seen 0) other in
          let found : seen_in (lookup (λ k. same_row r k) (e ∷ es)) ≡ seen_in (lookup (λ k. same_row r k) es) = ap (λ b. seen_in (cond b (Some e.1) (lookup (λ k. same_row r k) es))) other in
          omega (arith, split, n, found, times-rows_seen r es (sorted_tail row_cmp e.0 (keys_of es) sorted))
    ]

-- the rows that pass of the entries are those that pass of the rows that the tally sees
pub seen_passing : (es : List Expr) (columns : List ℕ) (left : List (Cells × Counts)) (kept seen : List Cells) (t : Tally) (made : List Cells) → IsStrictlySortedBy row_cmp (keys_of t.counts.entries) → left ≡ [] → made ++ passing_cut es columns (rows_seen left) ≡ passing_cut es columns (rows_seen t.counts.entries)
    → Tallies kept seen t → SameBag made (passing_cut es columns seen)
seen_passing es columns left kept seen t made sorted none is has = λ r.
    let entries : List (Cells × Counts) = t.counts.entries in
    let same : SameBag (rows_seen entries) seen = λ row. times-rows_seen row entries sorted ∙ has.seen_is row in
    let all : made ≡ passing_cut es columns (rows_seen entries) = sym (append-nil made) ∙ ap (λ (l : List (Cells × Counts)). made ++ passing_cut es columns (rows_seen l)) (sym none) ∙ is in
    ap (times r) all ∙ SameBag-passing es columns (rows_seen entries) seen same r
