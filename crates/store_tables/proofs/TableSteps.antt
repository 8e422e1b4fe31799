-- What the steps of a table make of its rows and of its keys.
use Rattle.std.proofs.Common.{◌≡◌, ℕ, zero, suc, ◌+◌, ◌-◌, ◌<◌, Bool, true, false, cond, ◌||◌, List, [], ◌∷◌, ◌++◌, length, get_or, take, Option, Some, None, IfSome, Bor, refl, sym, ap, subst, ◌∙◌, arith}
use Rattle.std.specs.Prelude.{slice_get}
use Rattle.std.specs.Option.{option_copied}
use Rattle.std.proofs.lemmas.List.{take_more}
use Rattle.vdb_model.specs.declared.source.Delta.{Delta}
use Rattle.vdb_model.specs.Deltas.{without_one, without_each, changed}
use Rattle.vdb_model.specs.Rows.{Cells, same_row, cut, cut_rows}
use Rattle.vdb_model.proofs.SameDistinct.{equal_rows}
use Rattle.store_tables.specs.Counting.{times, is_among}
use Rattle.store_tables.specs.Tallies.{Tallies, kept_times, seen_times, IsReady, AreReady, KeepsReady, SameTimes, Loses, Gains, Ends}
use Rattle.store_tables.specs.Tables.{key_of, keys_of, TableHas, SameRows}
use Rattle.store_tables.specs.declared.tally.Tally.{Tally}
use Rattle.store_tables.specs.declared.table.Table.{Table}
use Rattle.store_tables.proofs.Times.{alike, once, never, times-append, times-cons, times-without_one}

-- ---- rows

pub Tallies-lose : (kept seen : List Cells) (x : Cells) (a b : Tally) → Tallies kept seen a → Loses (x ∷ []) a b → Tallies kept (without_one x seen) b
Tallies-lose kept seen x a b t l = record {
  kept_is = λ row. l.kept_is row ∙ t.kept_is row;
  seen_is = λ row. l.seen_is row ∙ ap (λ n. n - times row (x ∷ [])) (t.seen_is row) ∙ sym (times-without_one row x seen);
}

pub Tallies-gain : (kept seen rows : List Cells) (a b : Tally) → Tallies kept seen a → Gains rows a b → Tallies kept (seen ++ rows) b
Tallies-gain kept seen rows a b t g = record {
  kept_is = λ row. g.kept_is row ∙ t.kept_is row;
  seen_is = λ row. g.seen_is row ∙ ap (λ n. n + times row rows) (t.seen_is row) ∙ sym (times-append row seen rows);
}

pub Tallies-keep : (kept seen : List Cells) (a b : Tally) → Tallies kept seen a → Ends seen_times a b → Tallies seen seen b
Tallies-keep kept seen a b t e = record { kept_is = λ row. e.kept_is row ∙ t.seen_is row; seen_is = λ row. e.seen_is row ∙ t.seen_is row }

pub Tallies-take_back : (kept seen : List Cells) (a b : Tally) → Tallies kept seen a → Ends kept_times a b → Tallies kept kept b
Tallies-take_back kept seen a b t e = record { kept_is = λ row. e.kept_is row ∙ t.kept_is row; seen_is = λ row. e.seen_is row ∙ t.kept_is row }

pub Tallies-same : (kept seen : List Cells) (a b : Tally) → Tallies kept seen a → SameTimes a b → Tallies kept seen b
Tallies-same kept seen a b t s = record { kept_is = λ row. s.kept_is row ∙ t.kept_is row; seen_is = λ row. s.seen_is row ∙ t.seen_is row }

pub kept_ready : (n : ℕ) (rows : List Cells) (a b : Tally) → AreReady n rows a → KeepsReady a b → AreReady n rows b
kept_ready n rows a b ready keeps = λ row among. keeps n row (ready row among)

pub KeepsReady-trans : (a b c : Tally) → KeepsReady a b → KeepsReady b c → KeepsReady a c
KeepsReady-trans a b c p q = λ more row r. q more row (p more row r)

-- a row that stands nowhere is none of them
none_among : (x : Cells) (rows : List Cells) → times x rows ≡ 0 → without_one x rows ≡ rows
none_among x [] h = refl
none_among x (o ∷ rows) h = by (same_row x o) refl (none_among x rows)
  where
    by : (b : Bool) → same_row x o ≡ b → (times x rows ≡ 0 → without_one x rows ≡ rows) → cond b rows (o ∷ without_one x rows) ≡ o ∷ rows
    by true is rest = absurd (omega (arith, h, times-cons x o rows, once x o is))
    by false is rest = ap (λ (l : List Cells). o ∷ l) (rest (omega (arith, h, times-cons x o rows)))

among_some : (x : Cells) (rows : List Cells) → 0 < times x rows → is_among x rows ≡ true
among_some x [] h = absurd (omega arith)
among_some x (o ∷ rows) h = by (same_row x o) refl (among_some x rows)
  where
    by : (b : Bool) → same_row x o ≡ b → (0 < times x rows → is_among x rows ≡ true) → (b || is_among x rows) ≡ true
    by true is rest = refl
    by false is rest = rest (omega (arith, h, times-cons x o rows, never x o is))

-- ---- keys

module _ (ats : List ℕ) where
  pub cut_rows-append : (xs ys : List Cells) → cut_rows ats (xs ++ ys) ≡ cut_rows ats xs ++ cut_rows ats ys
  cut_rows-append [] ys = refl
  cut_rows-append (x ∷ xs) ys = ap (λ (l : List Cells). cut ats x ∷ l) (cut_rows-append xs ys)

  pub keys_without_one : (k x : Cells) (rows : List Cells) → is_among x rows ≡ true → times k (cut_rows ats (without_one x rows)) + times k (cut ats x ∷ []) ≡ times k (cut_rows ats rows)
  keys_without_one k x [] h = cc
  keys_without_one k x (o ∷ rows) h = by (same_row x o) refl h (keys_without_one k x rows)
    where
      by : (b : Bool) → same_row x o ≡ b → (b || is_among x rows) ≡ true → (is_among x rows ≡ true → times k (cut_rows ats (without_one x rows)) + times k (cut ats x ∷ []) ≡ times k (cut_rows ats rows))
          → times k (cut_rows ats (cond b rows (o ∷ without_one x rows))) + times k (cut ats x ∷ []) ≡ times k (cut ats o ∷ cut_rows ats rows)
      by true is h rest =
          let once : times k (cut ats x ∷ []) ≡ times k (cut ats o ∷ []) = ap (λ (r : Cells). times k (cut ats r ∷ [])) (equal_rows x o is) in
          omega (arith, once, times-cons k (cut ats o) (cut_rows ats rows))
      by false is h rest =
          omega (arith, rest h, times-cons k (cut ats o) (cut_rows ats rows), times-cons k (cut ats o) (cut_rows ats (without_one x rows)))

-- ---- a row goes out

module _ (x : Cells) (ats : Option (List ℕ)) (kept seen : List Cells) (a b : Table) (has : TableHas ats kept seen a) where
  pub none_out : seen_times a.rows x ≡ 0 → TableHas ats kept (without_one x seen) a
  none_out none = subst (λ (s : List Cells). TableHas ats kept s a) (sym (none_among x seen (sym (has.rows.seen_is x) ∙ none))) has

  module _ (some : 0 < seen_times a.rows x) (rows : Loses (x ∷ []) a.rows b.rows) where
    pub out_unkeyed : b.keys ≡ a.keys → None ≡ key_of ats x → TableHas ats kept (without_one x seen) b
    out_unkeyed same is = record { rows = Tallies-lose kept seen x a.rows b.rows has.rows rows; keys = by ats is has.keys }
      where
        by : (o : Option (List ℕ)) → None ≡ key_of o x → Tallies (keys_of o kept) (keys_of o seen) a.keys → Tallies (keys_of o kept) (keys_of o (without_one x seen)) b.keys
        by None is keys = subst (Tallies [] []) (sym same) keys
        by (Some cols) is keys = cc

    pub out_keyed : (key : Cells) → Loses (key ∷ []) a.keys b.keys → Some key ≡ key_of ats x → TableHas ats kept (without_one x seen) b
    out_keyed key lost is = record { rows = Tallies-lose kept seen x a.rows b.rows has.rows rows; keys = by ats is has.keys }
      where
        by : (o : Option (List ℕ)) → Some key ≡ key_of o x → Tallies (keys_of o kept) (keys_of o seen) a.keys → Tallies (keys_of o kept) (keys_of o (without_one x seen)) b.keys
        by None is keys = cc
        by (Some cols) is keys =
            let key_is : key ≡ cut cols x = cc in
            record {
              kept_is = λ k. lost.kept_is k ∙ keys.kept_is k;
              seen_is = λ k.
                  let once : times k (key ∷ []) ≡ times k (cut cols x ∷ []) = ap (λ (r : Cells). times k (r ∷ [])) key_is in
                  omega (arith, lost.seen_is k, keys.seen_is k, once, keys_without_one cols k x seen (among_some x seen (omega (arith, some, has.rows.seen_is x))));
            }

-- ---- one row after the other

without_each-more : (xs : List Cells) (x : Cells) (rows : List Cells) → without_each (xs ++ x ∷ []) rows ≡ without_one x (without_each xs rows)
without_each-more [] x rows = refl
without_each-more (o ∷ xs) x rows = without_each-more xs x (without_one o rows)

pub each_more : (removed : List Cells) (i : ℕ) (x : Cells) (rows : List Cells) → i < length removed → x ≡ get_or removed i x → without_each (take (i + 1) removed) rows ≡ without_one x (without_each (take i removed) rows)
each_more removed i x rows lt is =
    ap (λ l. without_each l rows) (take_more removed i x lt ∙ ap (λ (r : Cells). take i removed ++ r ∷ []) (sym is))
    ∙ without_each-more (take i removed) x rows

pub key_at : (ats : Option (List ℕ)) (rows : List Cells) (i : ℕ) (x : Cells) → i < length rows → x ≡ get_or rows i x → slice_get (keys_of ats rows) i ≡ key_of ats x
key_at None rows i x lt is = refl
key_at (Some cols) rows i x lt is = at rows i lt is
  where
    at : (rows : List Cells) (i : ℕ) → i < length rows → x ≡ get_or rows i x → slice_get (cut_rows cols rows) i ≡ Some (cut cols x)
    at [] i lt is = absurd (omega arith)
    at (o ∷ rows) zero lt is = ap (λ (r : Cells). Some (cut cols r)) (sym is)
    at (o ∷ rows) (suc i) lt is = at rows i (omega arith) is

pub ready_at : (rows : List Cells) (i : ℕ) (t : Tally) (o : Option (Bor Cells)) → option_copied o ≡ slice_get rows i → AreReady 0 rows t → IfSome o (λ k. IsReady 0 t k.now)
ready_at rows i t None is ready = tt
ready_at rows i t (Some k) is ready = ready k.now (among rows i is)
  where
    among : (rows : List Cells) (i : ℕ) → Some k.now ≡ slice_get rows i → is_among k.now rows ≡ true
    among [] i is = cc
    among (o ∷ rows) zero is = let same : k.now ≡ o = cc in ap (λ (r : Cells). same_row k.now r || is_among k.now rows) (sym same) ∙ ap (λ b. b || is_among k.now rows) (alike.refl k.now)
    among (o ∷ rows) (suc i) is = ap (λ b. same_row k.now o || b) (among rows i is) ∙ or_true (same_row k.now o)
      where
        or_true : (b : Bool) → (b || true) ≡ true
        or_true true = refl
        or_true false = refl

-- ---- a whole change

pub put_in : (ats : Option (List ℕ)) (kept seen added : List Cells) (come : List Cells) (a b : Table) → come ≡ keys_of ats added → Gains added a.rows b.rows → Gains come a.keys b.keys → TableHas ats kept seen a → TableHas ats kept (seen ++ added) b
put_in ats kept seen added come a b is rows keys has = record {
  rows = Tallies-gain kept seen added a.rows b.rows has.rows rows;
  keys = subst (λ l. Tallies (keys_of ats kept) l b.keys) (ap (λ l. keys_of ats seen ++ l) is ∙ sym (keys-append ats)) (Tallies-gain (keys_of ats kept) (keys_of ats seen) come a.keys b.keys has.keys keys);
}
  where
    keys-append : (o : Option (List ℕ)) → keys_of o (seen ++ added) ≡ keys_of o seen ++ keys_of o added
    keys-append None = refl
    keys-append (Some cols) = cut_rows-append cols seen added

pub put_changed : (ats : Option (List ℕ)) (kept seen : List Cells) (delta : Delta) (b : Table) (removed added : List Cells) → removed ≡ delta.removed → added ≡ delta.added
    → TableHas ats kept (without_each removed seen ++ added) b → TableHas ats kept (changed delta seen) b
put_changed ats kept seen delta b removed added gone come has =
    subst (λ (l : List Cells). TableHas ats kept l b) (ap (λ (r : List Cells). without_each r seen ++ added) gone ∙ ap (λ (a : List Cells). without_each delta.removed seen ++ a) come) has

pub kept_all : (ats : Option (List ℕ)) (kept seen : List Cells) (a b : Table) → Ends seen_times a.rows b.rows → Ends seen_times a.keys b.keys → TableHas ats kept seen a → TableHas ats seen seen b
kept_all ats kept seen a b rows keys has = record {
  rows = Tallies-keep kept seen a.rows b.rows has.rows rows;
  keys = Tallies-keep (keys_of ats kept) (keys_of ats seen) a.keys b.keys has.keys keys;
}

pub taken_back : (ats : Option (List ℕ)) (kept seen : List Cells) (a b : Table) → Ends kept_times a.rows b.rows → Ends kept_times a.keys b.keys → TableHas ats kept seen a → TableHas ats kept kept b
taken_back ats kept seen a b rows keys has = record {
  rows = Tallies-take_back kept seen a.rows b.rows has.rows rows;
  keys = Tallies-take_back (keys_of ats kept) (keys_of ats seen) a.keys b.keys has.keys keys;
}

pub same_rows : (ats : Option (List ℕ)) (kept seen : List Cells) (a b : Table) → SameRows a b → TableHas ats kept seen a → TableHas ats kept seen b
same_rows ats kept seen a b same has = record {
  rows = Tallies-same kept seen a.rows b.rows has.rows same.rows;
  keys = Tallies-same (keys_of ats kept) (keys_of ats seen) a.keys b.keys has.keys same.keys;
}
