-- One step of a tally, and one row after the other.
use Rattle.std.proofs.Common.{◌≡◌, ℕ, ◌+◌, ◌-◌, ◌<◌, ◌^◌, Bool, true, false, cond, ◌||◌, List, [], ◌∷◌, ◌++◌, length, get_or, take, inl, inr, refl, sym, ap, subst, ◌∙◌, Option, Some, None, arith}
use Rattle.std.specs.Prelude.{is_some}
use Rattle.std.specs.BTreeMap.{get, Updates}
use Rattle.std.proofs.lemmas.Bool.{cases_Bool, true≢false, or_cases}
use Rattle.std.proofs.lemmas.List.{length-take}
use Rattle.std.proofs.lemmas.List.Folds.{list_any-append, list_any_more, list_any_at}
use Rattle.std.proofs.lemmas.List.Sums.{count_by-le-length}
use Rattle.vdb_base.specs.Order.{row_cmp}
use Rattle.vdb_model.specs.Rows.{Cells, same_row}
use Rattle.vdb_model.proofs.SameDistinct.{equal_rows}
use Rattle.store_tables.specs.Counting.{times, is_among, Counted, kept_in, seen_in, kept_at, seen_at, has_place, OnlyAt, Places, SeesSo, Settles}
use Rattle.store_tables.specs.Tallies.{seen_times, SameTimes, IsReady, AreReady, KeepsReady, SamePlaces, Loses, Gains}
use Rattle.store_tables.specs.declared.counting.Counts.{Counts}
use Rattle.store_tables.specs.declared.tally.Tally.{Tally}
use Rattle.store_tables.proofs.Times.{alike, once, never, times_more}

or_false : (b : Bool) → (b || false) ≡ b
or_false true = refl
or_false false = refl

or_last : (b : Bool) → (b || true) ≡ true
or_last true = refl
or_last false = refl

among_more : (row x : Cells) (rows : List Cells) → is_among row (rows ++ x ∷ []) ≡ (is_among row rows || same_row row x)
among_more row x rows = list_any-append (same_row row) rows (x ∷ []) ∙ ap (λ b. is_among row rows || b) (or_false (same_row row x))

-- ---- which rows may differ

pub OnlyAt-sees : (rows : List Cells) (x : Cells) (n : ℕ) (a b : Counted) → is_among x rows ≡ true → SeesSo x n a b → OnlyAt rows a → OnlyAt rows b
OnlyAt-sees rows x n a b among s only = λ row h.
    elim (cases_Bool (same_row x row)) [
      | inl same ↦ absurd (true≢false (sym among ∙ ap (λ (r : Cells). is_among r rows) (equal_rows x row same) ∙ h))
      | inr other ↦ let seen : seen_at b row ≡ seen_at a row = s.seen_is row ∙ ap (λ t. cond t n (seen_at a row)) other in s.kept_is row ∙ only row h ∙ sym seen
    ]

pub OnlyAt-settles : (rows : List Cells) (x : Cells) (n : ℕ) (a b : Counted) → Settles x n a b → OnlyAt (rows ++ x ∷ []) a → OnlyAt rows b
OnlyAt-settles rows x n a b s only = λ row h.
    elim (cases_Bool (same_row x row)) [
      | inl same ↦
          let kept : kept_at b row ≡ n = s.kept_is row ∙ ap (λ t. cond t n (kept_at a row)) same in
          let seen : seen_at b row ≡ n = s.seen_is row ∙ ap (λ t. cond t n (seen_at a row)) same in
          kept ∙ sym seen
      | inr other ↦
          let kept : kept_at b row ≡ kept_at a row = s.kept_is row ∙ ap (λ t. cond t n (kept_at a row)) other in
          let seen : seen_at b row ≡ seen_at a row = s.seen_is row ∙ ap (λ t. cond t n (seen_at a row)) other in
          let apart : same_row row x ≡ false = alike.symm row x ∙ other in
          let out : is_among row (rows ++ x ∷ []) ≡ false = among_more row x rows ∙ ap (λ t. t || same_row row x) h ∙ apart in
          kept ∙ only row out ∙ sym seen
    ]

-- settling a row at what is seen of it leaves what is seen; at what is kept, what is kept
pub settles_seen : (x : Cells) (n : ℕ) (a b : Counted) → n ≡ seen_at a x → Settles x n a b → (row : Cells) → seen_at b row ≡ seen_at a row
settles_seen x n a b is s row =
    elim (cases_Bool (same_row x row)) [
      | inl same ↦ s.seen_is row ∙ ap (λ t. cond t n (seen_at a row)) same ∙ is ∙ ap (seen_at a) (equal_rows x row same)
      | inr other ↦ s.seen_is row ∙ ap (λ t. cond t n (seen_at a row)) other
    ]

pub settles_kept : (x : Cells) (n : ℕ) (a b : Counted) → n ≡ kept_at a x → Settles x n a b → (row : Cells) → kept_at b row ≡ kept_at a row
settles_kept x n a b is s row =
    elim (cases_Bool (same_row x row)) [
      | inl same ↦ s.kept_is row ∙ ap (λ t. cond t n (kept_at a row)) same ∙ is ∙ ap (kept_at a) (equal_rows x row same)
      | inr other ↦ s.kept_is row ∙ ap (λ t. cond t n (kept_at a row)) other
    ]

-- ---- steps of the map

no_place : (o : Option Counts) → is_some o ≡ false → o ≡ None
no_place None h = refl
no_place (Some c) h = cc

-- a place for a row that had none
pub placed : (x : Cells) (w : Counts) (a b : Counted) → w ≡ record { kept = 0; seen = 0 } → has_place a x ≡ false → Updates row_cmp a b x (Some w) → Places x a b
placed x w a b is none u = record {
  kept_is = λ other. at other kept_in (ap (λ (c : Counts). c.kept) is) refl;
  seen_is = λ other. at other seen_in (ap (λ (c : Counts). c.seen) is) refl;
  places = λ other here. elim (cases_Bool (same_row x other)) [
    | inl same ↦ ap is_some (u.0 other ∙ ap (λ t. cond t (Some w) (get row_cmp a other)) same)
    | inr apart ↦ ap is_some (u.0 other ∙ ap (λ t. cond t (Some w) (get row_cmp a other)) apart) ∙ here
  ];
}
  where
    at : (other : Cells) (count : Option Counts → ℕ) → count (Some w) ≡ 0 → count None ≡ 0 → count (get row_cmp b other) ≡ count (get row_cmp a other)
    at other count some nothing = elim (cases_Bool (same_row x other)) [
      | inl same ↦
          let before : get row_cmp a other ≡ None = ap (get row_cmp a) (sym (equal_rows x other same)) ∙ no_place (get row_cmp a x) none in
          ap count (u.0 other ∙ ap (λ t. cond t (Some w) (get row_cmp a other)) same) ∙ some ∙ sym nothing ∙ sym (ap count before)
      | inr apart ↦ ap count (u.0 other ∙ ap (λ t. cond t (Some w) (get row_cmp a other)) apart)
    ]

-- what is seen of a row was written
pub seen_written : (x : Cells) (n : ℕ) (c : Counts) (a b : Counted) → get row_cmp a x ≡ Some c → Updates row_cmp a b x (Some (record { kept = c.kept; seen = n })) → SeesSo x n a b
seen_written x n c a b had u = record {
  places = λ other. elim (cases_Bool (same_row x other)) [
    | inl same ↦ ap is_some (new_at other same) ∙ sym (ap is_some (old_at other same))
    | inr apart ↦ ap is_some (else_at other apart)
  ];
  kept_is = λ other. elim (cases_Bool (same_row x other)) [
    | inl same ↦ ap kept_in (new_at other same) ∙ sym (ap kept_in (old_at other same))
    | inr apart ↦ ap kept_in (else_at other apart)
  ];
  seen_is = λ other. elim (cases_Bool (same_row x other)) [
    | inl same ↦ ap seen_in (new_at other same) ∙ sym (ap (λ t. cond t n (seen_at a other)) same)
    | inr apart ↦ ap seen_in (else_at other apart) ∙ sym (ap (λ t. cond t n (seen_at a other)) apart)
  ];
}
  where
    new_at : (other : Cells) → same_row x other ≡ true → get row_cmp b other ≡ Some (record { kept = c.kept; seen = n })
    new_at other same = u.0 other ∙ ap (λ t. cond t (Some (record { kept = c.kept; seen = n })) (get row_cmp a other)) same

    old_at : (other : Cells) → same_row x other ≡ true → get row_cmp a other ≡ Some c
    old_at other same = ap (get row_cmp a) (sym (equal_rows x other same)) ∙ had

    else_at : (other : Cells) → same_row x other ≡ false → get row_cmp b other ≡ get row_cmp a other
    else_at other apart = u.0 other ∙ ap (λ t. cond t (Some (record { kept = c.kept; seen = n })) (get row_cmp a other)) apart

-- ---- making ready

module _ (x : Cells) (a b : Tally) (places : Places x a.counts b.counts) where
  pub touched_ready : (more : ℕ) → b.touched.items ≡ a.touched.items ++ x ∷ [] → has_place b.counts x ≡ true → seen_times b x + more < 2 ^ 64 → IsReady more b x
  touched_ready more more_rows here fits = record {
    place = here;
    touched = ap (is_among x) more_rows ∙ among_more x x a.touched.items ∙ ap (λ t. is_among x a.touched.items || t) (alike.refl x) ∙ or_last (is_among x a.touched.items);
    fits = fits;
  }

pub ready_more : (n : ℕ) (rows : List Cells) (i : ℕ) (x : Cells) (b c : Tally) → i < length rows → x ≡ get_or rows i x → AreReady n (take i rows) b → KeepsReady b c → IsReady n c x → AreReady n (take (i + 1) rows) c
ready_more n rows i x b c lt is ready keeps here = λ row among.
    let split : (is_among row (take i rows) || same_row row (get_or rows i x)) ≡ true = sym (list_any_more (same_row row) rows i x lt) ∙ among in
    elim (or_cases (is_among row (take i rows)) (same_row row (get_or rows i x)) split) [
      | inl before ↦ keeps n row (ready row before)
      | inr here_now ↦ subst (IsReady n c) (is ∙ sym (equal_rows row (get_or rows i x) here_now)) here
    ]

-- ---- changes

module _ (x : Cells) (n : ℕ) (a b : Tally) (s : SeesSo x n a.counts b.counts) (touched : b.touched.items ≡ a.touched.items) where
  sees_same : SamePlaces a b
  sees_same = record { places = s.places; touched = touched }

  at_once : (row : Cells) (wanted : ℕ) → (same_row x row ≡ true → n ≡ wanted) → (same_row x row ≡ false → seen_times a row ≡ wanted) → seen_times b row ≡ wanted
  at_once row wanted if_same if_other =
      elim (cases_Bool (same_row x row)) [
        | inl e ↦ s.seen_is row ∙ ap (λ t. cond t n (seen_times a row)) e ∙ if_same e
        | inr e ↦ s.seen_is row ∙ ap (λ t. cond t n (seen_times a row)) e ∙ if_other e
      ]

  here : (row : Cells) → same_row x row ≡ true → seen_times a x ≡ seen_times a row
  here row e = ap (seen_times a) (equal_rows x row e)

  pub sees_loses : n ≡ seen_times a x - 1 → Loses (x ∷ []) a b
  sees_loses is = record {
    same = sees_same;
    kept_is = s.kept_is;
    seen_is = λ row. at_once row (seen_times a row - times row (x ∷ [])) (λ e. omega (arith, is, here row e, once row x (alike.symm row x ∙ e))) (λ e. omega (arith, never row x (alike.symm row x ∙ e)));
  }

  pub sees_gains : n ≡ seen_times a x + 1 → Gains (x ∷ []) a b
  sees_gains is = record {
    same = sees_same;
    kept_is = s.kept_is;
    seen_is = λ row. at_once row (seen_times a row + times row (x ∷ [])) (λ e. omega (arith, is, here row e, once row x (alike.symm row x ∙ e))) (λ e. omega (arith, never row x (alike.symm row x ∙ e)));
  }

SamePlaces-trans : (a b c : Tally) → SamePlaces a b → SamePlaces b c → SamePlaces a c
SamePlaces-trans a b c p q = record { places = λ row. q.places row ∙ p.places row; touched = q.touched ∙ p.touched }

pub Gains-more : (rows : List Cells) (i : ℕ) (x : Cells) (a b c : Tally) → i < length rows → x ≡ get_or rows i x → Gains (take i rows) a b → Gains (x ∷ []) b c → Gains (take (i + 1) rows) a c
Gains-more rows i x a b c lt is p q = record {
  same = SamePlaces-trans a b c p.same q.same;
  kept_is = λ row. q.kept_is row ∙ p.kept_is row;
  seen_is = λ row. omega (arith, q.seen_is row, p.seen_is row, times_more row rows i x lt is);
}

-- the next row is ready
pub gain_next : (rows : List Cells) (i : ℕ) (x : Cells) (a b : Tally) → i < length rows → x ≡ get_or rows i x → AreReady (length rows) rows a → Gains (take i rows) a b → IsReady 1 b x
gain_next rows i x a b lt is ready g =
    let r = ready x (list_any_at (same_row x) rows i x lt (ap (same_row x) (sym is) ∙ alike.refl x)) in
    record {
      place = g.same.places x ∙ r.place;
      touched = ap (is_among x) g.same.touched ∙ r.touched;
      fits = omega (arith, r.fits, g.seen_is x, count_by-le-length (same_row x) (take i rows), length-take i rows);
    }

pub SameTimes-trans : (a b c : Tally) → SameTimes a b → SameTimes b c → SameTimes a c
SameTimes-trans a b c p q = record { kept_is = λ row. q.kept_is row ∙ p.kept_is row; seen_is = λ row. q.seen_is row ∙ p.seen_is row }
