-- Keys stand apart where each stands once at most, and what a change makes of that.
use Rattle.std.proofs.Common.{◌≡◌, ℕ, ◌+◌, ◌<◌, ◌≤◌, Bool, true, false, not, leb, ◌&&◌, ◌||◌, List, [], ◌∷◌, Option, Some, None, inl, inr, refl, sym, ap, ◌∙◌, arith}
use Rattle.std.specs.List.{list_any, list_all}
use Rattle.std.proofs.lemmas.Bool.{cases_Bool, cases_eq, true≢false, and_parts, and_from, not-true, not_from_false, or_parts, leb-true, le-leb, false_from_ne_true}
use Rattle.vdb_model.specs.declared.source.Delta.{Delta}
use Rattle.vdb_model.specs.Rows.{Cells, same_row, cut, cut_rows}
use Rattle.vdb_model.specs.Deltas.{without_one, without_each, are_there, changed}
use Rattle.vdb_model.specs.World.{are_keyed_apart, keeps_key}
use Rattle.vdb_model.proofs.SameDistinct.{equal_rows}
use Rattle.store_tables.specs.Counting.{times}
use Rattle.store_tables.specs.Keyed.{is_alone}
use Rattle.store_tables.specs.Tables.{AreKeys, TableHas}
use Rattle.store_tables.specs.Tallies.{seen_times}
use Rattle.store_tables.specs.declared.table.Keys.{Keys}
use Rattle.store_tables.specs.declared.table.Table.{Table}
use Rattle.store_tables.specs.declared.tally.Tally.{Tally}
use Rattle.store_tables.proofs.Times.{alike, once, never, times-append, times-cons}
use Rattle.store_tables.proofs.TableSteps.{cut_rows-append, keys_without_one}

-- a row that another is the same as stands as often
times_alike : (k r : Cells) (rows : List Cells) → same_row k r ≡ true → times k rows ≡ times r rows
times_alike k r rows e = ap (λ (x : Cells). times x rows) (equal_rows k r e)

module _ (ats : List ℕ) where
  abbrev keyed : Cells → List Cells → Bool
  keyed row rows = list_any (λ other. same_row (cut ats row) (cut ats other)) rows

  none_keyed : (row : Cells) (rows : List Cells) → keyed row rows ≡ false → times (cut ats row) (cut_rows ats rows) ≡ 0
  none_keyed row [] h = refl
  none_keyed row (o ∷ rows) h =
      let p = or_parts (same_row (cut ats row) (cut ats o)) (keyed row rows) h in
      omega (arith, times-cons (cut ats row) (cut ats o) (cut_rows ats rows), never (cut ats row) (cut ats o) p.0, none_keyed row rows p.1)

  some_keyed : (row : Cells) (rows : List Cells) → keyed row rows ≡ true → 0 < times (cut ats row) (cut_rows ats rows)
  some_keyed row [] h = cc
  some_keyed row (o ∷ rows) h = by (same_row (cut ats row) (cut ats o)) refl h (some_keyed row rows)
    where
      by : (b : Bool) → same_row (cut ats row) (cut ats o) ≡ b → (b || keyed row rows) ≡ true → (keyed row rows ≡ true → 0 < times (cut ats row) (cut_rows ats rows)) → 0 < times (cut ats row) (cut ats o ∷ cut_rows ats rows)
      by true is h rest = omega (arith, times-cons (cut ats row) (cut ats o) (cut_rows ats rows), once (cut ats row) (cut ats o) is)
      by false is h rest = omega (arith, times-cons (cut ats row) (cut ats o) (cut_rows ats rows), rest h)

  pub apart_once : (rows : List Cells) → are_keyed_apart ats rows ≡ true → (k : Cells) → times k (cut_rows ats rows) ≤ 1
  apart_once [] h k = omega arith
  apart_once (row ∷ rows) h k =
      let p = and_parts (not (keyed row rows)) (are_keyed_apart ats rows) h in
      let none = none_keyed row rows (not-true _ p.0) in
      elim (cases_Bool (same_row k (cut ats row))) [
        | inl same ↦ omega (arith, times-cons k (cut ats row) (cut_rows ats rows), once k (cut ats row) same, times_alike k (cut ats row) (cut_rows ats rows) same, none)
        | inr other ↦ omega (arith, times-cons k (cut ats row) (cut_rows ats rows), never k (cut ats row) other, apart_once rows p.1 k)
      ]

  pub once_apart : (rows : List Cells) → ((k : Cells) → times k (cut_rows ats rows) ≤ 1) → are_keyed_apart ats rows ≡ true
  once_apart [] h = refl
  once_apart (row ∷ rows) h =
      let key = cut ats row in
      let here : times key (cut_rows ats (row ∷ rows)) ≡ 1 + times key (cut_rows ats rows) = omega (arith, times-cons key key (cut_rows ats rows), once key key (alike.refl key)) in
      let none : keyed row rows ≡ false = false_from_ne_true (keyed row rows) (λ e. absurd (omega (arith, h key, here, some_keyed row rows e))) in
      and_from (not (keyed row rows)) (are_keyed_apart ats rows) (not_from_false _ none) (once_apart rows (λ k. omega (arith, h k, times-cons k key (cut_rows ats rows))))

  pub keys_without_each : (k : Cells) (xs rows : List Cells) → are_there xs rows ≡ true → times k (cut_rows ats (without_each xs rows)) + times k (cut_rows ats xs) ≡ times k (cut_rows ats rows)
  keys_without_each k [] rows h = omega arith
  keys_without_each k (x ∷ xs) rows h =
      let p = and_parts (list_any (same_row x) rows) (are_there xs (without_one x rows)) h in
      omega (arith, keys_without_each k xs (without_one x rows) p.1, keys_without_one ats k x rows p.0, times-cons k (cut ats x) (cut_rows ats xs))

  pub keys_changed : (k : Cells) (delta : Delta) (rows : List Cells) → are_there delta.removed rows ≡ true
      → times k (cut_rows ats (changed delta rows)) + times k (cut_rows ats delta.removed) ≡ times k (cut_rows ats rows) + times k (cut_rows ats delta.added)
  keys_changed k delta rows h =
      let split : times k (cut_rows ats (changed delta rows)) ≡ times k (cut_rows ats (without_each delta.removed rows)) + times k (cut_rows ats delta.added) =
      ap (times k) (cut_rows-append ats (without_each delta.removed rows) delta.added) ∙ times-append k (cut_rows ats (without_each delta.removed rows)) (cut_rows ats delta.added) in
      omega (arith, split, keys_without_each k delta.removed rows h)

-- a test that all pass is passed by each that comes
all_at : (p : Cells → Bool) (keys : List Cells) (k : Cells) → list_all p keys ≡ true → 0 < times k keys → p k ≡ true
all_at p [] k h some = absurd (omega arith)
all_at p (o ∷ keys) k h some =
    let q = and_parts (p o) (list_all p keys) h in
    elim (cases_Bool (same_row k o)) [
      | inl same ↦ ap p (equal_rows k o same) ∙ q.0
      | inr other ↦ all_at p keys k q.1 (omega (arith, some, times-cons k o keys, never k o other))
    ]

-- some key fails the test, and comes
record Failing (p : Cells → Bool) (keys : List Cells) : Type 0 where
  key : Cells
  fails : p key ≡ false
  comes : 0 < times key keys

first_failing : (p : Cells → Bool) (keys : List Cells) → list_all p keys ≡ false → Failing p keys
first_failing p [] h = cc
first_failing p (o ∷ keys) h = by (p o) refl h (first_failing p keys)
  where
    by : (b : Bool) → p o ≡ b → (b && list_all p keys) ≡ false → (list_all p keys ≡ false → Failing p keys) → Failing p (o ∷ keys)
    by true is h rest = let f = rest h in record { key = f.key; fails = f.fails; comes = omega (arith, f.comes, times-cons f.key o keys) }
    by false is h rest = record { key = o; fails = is; comes = omega (arith, times-cons o o keys, once o o (alike.refl o)) }

alone_parts : (s g c : ℕ) → (leb s g && leb c 1) ≡ true → (s ≤ g) × (c ≤ 1)
alone_parts s g c h = let p = and_parts (leb s g) (leb c 1) h in (leb-true _ _ p.0, leb-true _ _ p.1)

alone_from : (s g c : ℕ) → s ≤ g → c ≤ 1 → (leb s g && leb c 1) ≡ true
alone_from s g c le few = and_from (leb s g) (leb c 1) (le-leb _ _ le) (le-leb _ _ few)

module _ (ats : List ℕ) (delta : Delta) (rows : List Cells) (stood gone come : Cells → ℕ)
    (stood_is : (k : Cells) → stood k ≡ times k (cut_rows ats rows)) (gone_is : (k : Cells) → gone k ≡ times k (cut_rows ats delta.removed)) (come_is : (k : Cells) → come k ≡ times k (cut_rows ats delta.added))
    (apart : are_keyed_apart ats rows ≡ true) (there : are_there delta.removed rows ≡ true) where
  abbrev alone : Bool
  alone = list_all (is_alone stood gone come) (cut_rows ats delta.added)

  once_after : alone ≡ true → (k : Cells) → times k (cut_rows ats (changed delta rows)) ≤ 1
  once_after h k =
      elim (cases_eq (times k (cut_rows ats delta.added)) 0) [
        | inl none ↦ omega (arith, none, keys_changed ats k delta rows there, apart_once ats rows apart k)
        | inr some ↦
            let p = alone_parts (stood k) (gone k) (come k) (all_at (is_alone stood gone come) (cut_rows ats delta.added) k h (omega (arith, some))) in
            omega (arith, p.0, p.1, stood_is k, gone_is k, come_is k, keys_changed ats k delta rows there)
      ]

  twice_after : Failing (is_alone stood gone come) (cut_rows ats delta.added) → are_keyed_apart ats (changed delta rows) ≡ true → ⊥
  twice_after f all =
      let le = apart_once ats (changed delta rows) all f.key in
      let e = keys_changed ats f.key delta rows there in
      let part = keys_without_each ats f.key delta.removed rows there in
      let none : stood f.key ≤ gone f.key = omega (arith, le, e, stood_is f.key, gone_is f.key, f.comes) in
      let few : come f.key ≤ 1 = omega (arith, le, e, come_is f.key, part) in
      true≢false (sym (alone_from (stood f.key) (gone f.key) (come f.key) none few) ∙ f.fails)

  -- the test of the keys that come in is exact, where the keys stood apart and what goes out stood there
  pub keeps_apart : alone ≡ are_keyed_apart ats (changed delta rows)
  keeps_apart = by alone refl
    where
      by : (b : Bool) → alone ≡ b → alone ≡ are_keyed_apart ats (changed delta rows)
      by true h = h ∙ sym (once_apart ats (changed delta rows) (once_after h))
      by false h = h ∙ sym (false_from_ne_true (are_keyed_apart ats (changed delta rows)) (twice_after (first_failing (is_alone stood gone come) (cut_rows ats delta.added) h)))

-- the same of a table, with or without a primary key
pub key_kept : (ats : Option (List ℕ)) (kept seen : List Cells) (delta : Delta) (keys : Keys) (table : Table) (gone come : Tally) (gone_rows come_rows : List Cells) → gone_rows ≡ keys.gone → come_rows ≡ keys.come
    → ((k : Cells) → seen_times gone k ≡ times k gone_rows) → ((k : Cells) → seen_times come k ≡ times k come_rows)
    → AreKeys ats delta keys → TableHas ats kept seen table → keeps_key ats seen ≡ true → are_there delta.removed seen ≡ true
    → list_all (is_alone (seen_times table.keys) (seen_times gone) (seen_times come)) come_rows ≡ keeps_key ats (changed delta seen)
key_kept None kept seen delta keys table gone come gone_rows come_rows gone_are come_are gone_is come_is are has apart there =
    ap (list_all (is_alone (seen_times table.keys) (seen_times gone) (seen_times come))) (come_are ∙ are.come)
key_kept (Some ats) kept seen delta keys table gone come gone_rows come_rows gone_are come_are gone_is come_is are has apart there =
    ap (list_all (is_alone (seen_times table.keys) (seen_times gone) (seen_times come))) (come_are ∙ are.come)
    ∙ keeps_apart ats delta seen (seen_times table.keys) (seen_times gone) (seen_times come) has.keys.seen_is (λ k. gone_is k ∙ ap (times k) (gone_are ∙ are.gone)) (λ k. come_is k ∙ ap (times k) (come_are ∙ are.come)) apart there
