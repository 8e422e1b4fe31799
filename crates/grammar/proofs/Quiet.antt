-- A text without some silent tokens, and with one kind in the place of others, is derived too: where each alternative stands
-- there without its silent tokens, and what may be read, or is refused by a guard, is so with the one kind in the others' place.
use Rattle.std.proofs.Common.{ℕ, zero, suc, Bool, true, false, List, [], ◌∷◌, ◌++◌, ◌+◌, ◌≡◌, ◌≤◌, ◌<◌, ◌&&◌, ◌||◌, inl, inr, length, map, take, refl, sym, ◌∙◌, ap, subst, arith, append_assoc, append-nil, length-append, if◌then◌else◌}
use Rattle.std.proofs.lemmas.Bool.{eqb-true, and_parts, and_from, or_cases, not-true, both_ways}
use Rattle.std.proofs.lemmas.Bool.Decides.{nat_tests}
use Rattle.std.specs.List.{list_all}
use Rattle.std.specs.Prelude.{not, ◌==◌, nat_lt, nat_le, slice_index_or}
use Rattle.grammar.specs.declared.table.Item.{Item}
use Rattle.grammar.specs.declared.table.Place.{Place}
use Rattle.grammar.specs.declared.table.Place.TheVariants.{Same, Deeper, First, Next}
use Rattle.grammar.specs.declared.machine.Symbol.{Symbol}
use Rattle.grammar.specs.declared.machine.Event.{Event}
use Rattle.grammar.specs.Table.{Rules, Shape, Token, Action, Unless, Choice, rule_of}
use Rattle.grammar.specs.Derivation.{has, Among, here, there, Derives, done, read, await, act, pass, free, choose}
use Rattle.grammar.specs.Limits.{child, children, is_within, max_tokens, max_depth, max_count}
use Rattle.grammar.proofs.Elements.{each_passes}

pub has_all : (test : ℕ → Bool) (ks : List ℕ) (t : ℕ) → list_all test ks ≡ true → has ks t ≡ true → test t ≡ true
has_all test [] t a h = absurd cc
has_all test (k ∷ ks) t a h =
    let p = and_parts (test k) (list_all test ks) a in
    elim (or_cases (k == t) (has ks t) h) [ inl e ↦ subst (λ (u : ℕ). test u ≡ true) (eqb-true k t e) p.0 | inr m ↦ has_all test ks t p.1 m ]

-- whether places, items and alternatives are the same

abbrev number_of : Place → ℕ
number_of Same = 0
number_of Deeper = 1
number_of First = 2
number_of Next = 3

place_is : (a b : Place) → number_of a == number_of b ≡ true → a ≡ b
place_is Same Same h = refl
place_is Same Deeper h = cc
place_is Same First h = cc
place_is Same Next h = cc
place_is Deeper Same h = cc
place_is Deeper Deeper h = refl
place_is Deeper First h = cc
place_is Deeper Next h = cc
place_is First Same h = cc
place_is First Deeper h = cc
place_is First First h = refl
place_is First Next h = cc
place_is Next Same h = cc
place_is Next Deeper h = cc
place_is Next First h = cc
place_is Next Next h = refl

abbrev pub same_items : List Item → List Item → Bool
same_items [] [] = true
same_items [] (j ∷ js) = false
same_items (i ∷ is) [] = false
same_items (i ∷ is) (j ∷ js) = i.symbol == j.symbol && (number_of i.place == number_of j.place && same_items is js)

items_are : (is js : List Item) → same_items is js ≡ true → is ≡ js
items_are [] [] h = refl
items_are [] (j ∷ js) h = cc
items_are (i ∷ is) [] h = cc
items_are (i ∷ is) (j ∷ js) h =
    let a = and_parts (i.symbol == j.symbol) (number_of i.place == number_of j.place && same_items is js) h in
    let b = and_parts (number_of i.place == number_of j.place) (same_items is js) a.1 in
    let e = eqb-true i.symbol j.symbol a.0 in
    let f = place_is i.place j.place b.0 in
    let r = items_are is js b.1 in
    let same : record { symbol = i.symbol; place = i.place } ∷ is ≡ record { symbol = j.symbol; place = j.place } ∷ js = rw (e, f, r) refl in
    same

abbrev pub is_among : List Item → List (List Item) → Bool
is_among p [] = false
is_among p (q ∷ ps) = same_items p q || is_among p ps

among_is : (p : List Item) (ps : List (List Item)) → is_among p ps ≡ true → Among p ps
among_is p [] h = cc
among_is p (q ∷ ps) h = elim (or_cases (same_items p q) (is_among p ps) h) [
  | inl e ↦ subst (λ (r : List Item). Among p (r ∷ ps)) (items_are p q e) here
  | inr m ↦ there (among_is p ps m)
]

-- fewer tokens are within the limits too
within_less : (n m : ℕ) (s : Symbol) → n ≤ m → is_within m s ≡ true → is_within n s ≡ true
within_less n m s h w =
    let p = and_parts (nat_lt m max_tokens) (nat_le s.depth max_depth && nat_le s.count max_count) w in
    let less : nat_lt n max_tokens ≡ true = grind (arith, nat_tests, p.0) in
    and_from (nat_lt n max_tokens) (nat_le s.depth max_depth && nat_le s.count max_count) less p.1

take_front : (xs ys : List ℕ) → take (length xs) (xs ++ ys) ≡ xs
take_front [] ys = refl
take_front (x ∷ xs) ys = ap (λ (z : List ℕ). x ∷ z) (take_front xs ys)

-- silent kinds of tokens, and kinds in whose place one is written
module _ (silent : ℕ → Bool) (names : List ℕ) (name : ℕ) where
  abbrev pub renamed : ℕ → ℕ
  renamed k = if has names k then name else k

  -- kinds of tokens without the silent ones
  abbrev pub quiet : List ℕ → List ℕ
  quiet [] = []
  quiet (k ∷ ks) = if silent k then quiet ks else renamed k ∷ quiet ks

  -- the actions of a text in the text without silent tokens
  abbrev pub moved : List ℕ → List Event → List Event
  moved text [] = []
  moved text (e ∷ es) = record { action = e.action; at = length (quiet (take e.at text)) } ∷ moved text es

  quiet_push : (ks : List ℕ) (k : ℕ) → quiet (ks ++ k ∷ []) ≡ quiet ks ++ quiet (k ∷ [])
  quiet_push [] k = refl
  quiet_push (j ∷ ks) k = at (silent j) (quiet_push ks k)
    where
      at : (b : Bool) → quiet (ks ++ k ∷ []) ≡ quiet ks ++ quiet (k ∷ [])
          → (if b then quiet (ks ++ k ∷ []) else renamed j ∷ quiet (ks ++ k ∷ [])) ≡ (if b then quiet ks else renamed j ∷ quiet ks) ++ quiet (k ∷ [])
      at true h = h
      at false h = ap (λ (x : List ℕ). renamed j ∷ x) h

  quiet_length : (ks : List ℕ) → length (quiet ks) ≤ length ks
  quiet_length [] = omega arith
  quiet_length (k ∷ ks) = at (silent k) (quiet_length ks)
    where
      at : (b : Bool) → length (quiet ks) ≤ length ks → length (if b then quiet ks else renamed k ∷ quiet ks) ≤ length (k ∷ ks)
      at true h = omega arith
      at false h = omega arith

  fewer : (front : List ℕ) (pos : ℕ) → pos ≡ length front → length (quiet front) ≤ pos
  fewer front pos e = omega (arith, e, quiet_length front)

  -- A table, its rules that are known to begin with no silent token, and the symbols that occur.
  module _ (g : Rules) (is_known : ℕ → Bool) (occurs : ℕ → Bool) where
    abbrev pub is_silent : Shape → Bool
    is_silent (Token kinds) = list_all silent kinds
    is_silent Action = false
    is_silent (Unless kinds) = false
    is_silent (Choice weight solid rank ps) = false

    abbrev pub unless : {A : Type 0} → Bool → A → List A → List A
    unless true x xs = xs
    unless false x xs = x ∷ xs

    abbrev pub quiet_items : List Item → List Item
    quiet_items [] = []
    quiet_items (i ∷ is) = unless (is_silent (rule_of g i.symbol)) i (quiet_items is)

    abbrev pub quiet_symbols : List Symbol → List Symbol
    quiet_symbols [] = []
    quiet_symbols (s ∷ ss) = unless (is_silent (rule_of g s.id)) s (quiet_symbols ss)

    -- what begins with a token, and with no silent one, is loud: it is known of a rule, and nothing is known of what comes after
    abbrev pub loud_by : Shape → ℕ → Bool → Bool
    loud_by (Token kinds) n rest = list_all (λ k. not (silent k)) kinds
    loud_by Action n rest = rest
    loud_by (Unless kinds) n rest = rest
    loud_by (Choice weight solid rank ps) n rest = is_known n

    abbrev pub loud_items : List Item → Bool
    loud_items [] = false
    loud_items (i ∷ is) = loud_by (rule_of g i.symbol) i.symbol (loud_items is)

    abbrev pub is_guard : Shape → Bool
    is_guard (Token kinds) = false
    is_guard Action = false
    is_guard (Unless kinds) = true
    is_guard (Choice weight solid rank ps) = false

    -- each symbol occurs, and no guard stands before a silent token
    abbrev pub guarded : List Item → Bool
    guarded [] = true
    guarded (i ∷ is) = (occurs i.symbol && (not (is_guard (rule_of g i.symbol)) || loud_items is)) && guarded is

    -- the test of a rule
    abbrev pub is_quiet_rule : ℕ → Shape → Bool
    is_quiet_rule n (Token kinds) = list_all silent kinds || list_all (λ k. not (silent k) && has kinds (renamed k)) kinds
    is_quiet_rule n Action = true
    is_quiet_rule n (Unless kinds) = not (has kinds name) || list_all (has kinds) names
    is_quiet_rule n (Choice weight solid rank ps) = list_all (λ p. (guarded p && (not (is_known n) || loud_items p)) && is_among (quiet_items p) ps) ps

    abbrev pub all_quiet : ℕ → List Shape → Bool
    all_quiet n [] = true
    all_quiet n (x ∷ xs) = (not (occurs n) || is_quiet_rule n x) && all_quiet (n + 1) xs

    quiet_at : (xs : List Shape) (n m : ℕ) → all_quiet m xs ≡ true → occurs (m + n) ≡ true → is_quiet_rule (m + n) (slice_index_or xs n Action) ≡ true
    quiet_at [] n m h o = refl
    quiet_at (x ∷ xs) zero m h o =
        let e : m + zero ≡ m = omega arith in
        elim (or_cases (not (occurs m)) (is_quiet_rule m x) (and_parts (not (occurs m) || is_quiet_rule m x) (all_quiet (m + 1) xs) h).0) [
          | inl f ↦ absurd (both_ways (occurs m) (not-true (occurs m) f) (subst (λ (k : ℕ). occurs k ≡ true) e o))
          | inr q ↦ subst (λ (k : ℕ). is_quiet_rule k x ≡ true) (sym e) q
        ]
    quiet_at (x ∷ xs) (suc n) m h o =
        let e : m + suc n ≡ (m + 1) + n = omega arith in
        subst (λ (k : ℕ). is_quiet_rule k (slice_index_or xs n Action) ≡ true) (sym e)
        (quiet_at xs n (m + 1) (and_parts (not (occurs m) || is_quiet_rule m x) (all_quiet (m + 1) xs) h).1 (subst (λ (k : ℕ). occurs k ≡ true) e o))

    module _ (right : all_quiet 0 g ≡ true) where
      rule_right : (n : ℕ) (x : Shape) → occurs n ≡ true → rule_of g n ≡ x → is_quiet_rule n x ≡ true
      rule_right n x o e =
          let z : n ≡ 0 + n = omega arith in
          subst (λ (y : Shape). is_quiet_rule n y ≡ true) e
          (subst (λ (k : ℕ). is_quiet_rule k (slice_index_or g n Action) ≡ true) (sym z) (quiet_at g n 0 right (subst (λ (k : ℕ). occurs k ≡ true) z o)))

      abbrev loud : List Symbol → Bool
      loud [] = false
      loud (s ∷ ss) = loud_by (rule_of g s.id) s.id (loud ss)

      -- each symbol of a stack occurs, and no guard stands before a silent token
      abbrev pub Good : List Symbol → Type 0
      Good [] = Unit {0}
      Good (s ∷ ss) = (occurs s.id ≡ true) × (is_guard (rule_of g s.id) ≡ true → loud ss ≡ true) × Good ss

      loud_same : (x : Shape) (n : ℕ) (a b : Bool) → (a ≡ true → b ≡ true) → loud_by x n a ≡ true → loud_by x n b ≡ true
      loud_same (Token kinds) n a b f h = h
      loud_same Action n a b f h = f h
      loud_same (Unless kinds) n a b f h = f h
      loud_same (Choice weight solid rank ps) n a b f h = h

      loud_tail : (s : Symbol) (is : List Item) (ss : List Symbol) → loud_items is ≡ true → loud (children s is ++ ss) ≡ true
      loud_tail s [] ss h = cc
      loud_tail s (i ∷ is) ss h = loud_same (rule_of g i.symbol) i.symbol (loud_items is) (loud (children s is ++ ss)) (loud_tail s is ss) h

      pub good_children : (s : Symbol) (p : List Item) (ss : List Symbol) → guarded p ≡ true → Good ss → Good (children s p ++ ss)
      good_children s [] ss h k = k
      good_children s (i ∷ is) ss h k =
          let a = and_parts (occurs i.symbol && (not (is_guard (rule_of g i.symbol)) || loud_items is)) (guarded is) h in
          let b = and_parts (occurs i.symbol) (not (is_guard (rule_of g i.symbol)) || loud_items is) a.0 in (
            b.0,
            λ guard. elim (or_cases (not (is_guard (rule_of g i.symbol))) (loud_items is) b.1) [
              | inl f ↦ absurd (both_ways (is_guard (rule_of g i.symbol)) (not-true (is_guard (rule_of g i.symbol)) f) guard)
              | inr l ↦ loud_tail s is ss l
            ],
            good_children s is ss a.1 k,
          )

      quiet_children : (s : Symbol) (p : List Item) (ss : List Symbol) → quiet_symbols (children s p ++ ss) ≡ children s (quiet_items p) ++ quiet_symbols ss
      quiet_children s [] ss = refl
      quiet_children s (i ∷ is) ss = at (is_silent (rule_of g i.symbol)) (quiet_children s is ss)
        where
          at : (b : Bool) → quiet_symbols (children s is ++ ss) ≡ children s (quiet_items is) ++ quiet_symbols ss
              → unless b (child s i) (quiet_symbols (children s is ++ ss)) ≡ children s (unless b i (quiet_items is)) ++ quiet_symbols ss
          at true h = h
          at false h = ap (λ (x : List Symbol). child s i ∷ x) h

      next_loud : {pos : ℕ} {ss : List Symbol} {log : List Event} {ts more : List ℕ} (t : ℕ) (us : List ℕ) → Derives g pos ss log ts more → ts ≡ t ∷ us → Good ss → loud ss ≡ true → silent t ≡ false
      next_loud t us done e k l = absurd cc
      next_loud t us (read {s = s} {ss = ss} {t = u} kinds r h w d) e k l =
          let same : u ≡ t = cc in
          let all : list_all (λ j. not (silent j)) kinds ≡ true = rw r at l in
          subst (λ (j : ℕ). silent j ≡ false) same (not-true (silent u) (has_all (λ j. not (silent j)) kinds u all h))
      next_loud t us (await kinds r h d) e k l = absurd cc
      next_loud t us (act r d) e k l = next_loud t us d e k.2 (rw r at l)
      next_loud t us (pass kinds r h d) e k l = next_loud t us d e k.2 (rw r at l)
      next_loud t us (free kinds r d) e k l = absurd cc
      next_loud t us (choose {s = s} {ss = ss} weight solid rank ps p r m d) e k l =
          let this = each_passes (λ q. (guarded q && (not (is_known s.id) || loud_items q)) && is_among (quiet_items q) ps) p ps m (rule_right s.id (Choice weight solid rank ps) k.0 r) in
          let parts = and_parts (guarded p && (not (is_known s.id) || loud_items p)) (is_among (quiet_items p) ps) this in
          let two = and_parts (guarded p) (not (is_known s.id) || loud_items p) parts.0 in
          let known : is_known s.id ≡ true = rw r at l in
          elim (or_cases (not (is_known s.id)) (loud_items p) two.1) [
            | inl f ↦ absurd (both_ways (is_known s.id) (not-true (is_known s.id) f) known)
            | inr y ↦ next_loud t us d e (good_children s p ss two.0 k.2) (loud_tail s p ss y)
          ]

      -- a token that a guard lets pass passes under its other kind
      passes : (kinds : List ℕ) (t : ℕ) → is_quiet_rule 0 (Unless kinds) ≡ true → has kinds t ≡ false → has kinds (renamed t) ≡ false
      passes kinds t q h = at (has names t) refl
        where
          at : (b : Bool) → has names t ≡ b → has kinds (if b then name else t) ≡ false
          at false e = h
          at true e = elim (or_cases (not (has kinds name)) (list_all (has kinds) names) q) [
            | inl f ↦ not-true (has kinds name) f
            | inr a ↦ absurd (both_ways (has kinds t) h (has_all (has kinds) names t a e))
          ]

      -- one token more is before what is left
      split_front : (front ts : List ℕ) (t : ℕ) → (front ++ t ∷ []) ++ ts ≡ front ++ t ∷ ts
      split_front front ts t = append_assoc front (t ∷ []) ts

      longer : (front : List ℕ) (t pos : ℕ) → pos ≡ length front → pos + 1 ≡ length (front ++ t ∷ [])
      longer front t pos e = omega (arith, e, length-append front (t ∷ []))

      quiet_more : (front : List ℕ) (t : ℕ) → silent t ≡ false → length (quiet (front ++ t ∷ [])) ≡ length (quiet front) + 1
      quiet_more front t h =
          let e : quiet (front ++ t ∷ []) ≡ quiet front ++ renamed t ∷ [] = rw h at (quiet_push front t) in
          rw e (length-append (quiet front) (renamed t ∷ []))

      quiet_same : (front : List ℕ) (t : ℕ) → silent t ≡ true → length (quiet (front ++ t ∷ [])) ≡ length (quiet front)
      quiet_same front t h =
          let e : quiet (front ++ t ∷ []) ≡ quiet front ++ [] = rw h at (quiet_push front t) in
          rw e (ap length (append-nil (quiet front)))

      pub without : {pos : ℕ} {ss : List Symbol} {log : List Event} {ts more : List ℕ} → Derives g pos ss log ts more → more ≡ [] → Good ss
          → (front : List ℕ) → pos ≡ length front → Derives g (length (quiet front)) (quiet_symbols ss) (moved (front ++ ts) log) (quiet ts) []
      without done e k front f = done
      without (read {pos = pos} {s = s} {ss = ss} {log = log} {t = t} {ts = ts} kinds r h w d) e k front f =
          let inner = without d e k.2 (front ++ t ∷ []) (longer front t pos f) in
          let rest : Derives g (length (quiet (front ++ t ∷ []))) (quiet_symbols ss) (moved (front ++ t ∷ ts) log) (quiet ts) [] =
          subst (λ (text : List ℕ). Derives g (length (quiet (front ++ t ∷ []))) (quiet_symbols ss) (moved text log) (quiet ts) []) (split_front front ts t) inner in
          rw r (at (list_all silent kinds) refl (moved (front ++ t ∷ ts) log) rest)
        where
          this : is_quiet_rule s.id (Token kinds) ≡ true
          this = rule_right s.id (Token kinds) k.0 r

          at : (b : Bool) → list_all silent kinds ≡ b → (moves : List Event) → Derives g (length (quiet (front ++ t ∷ []))) (quiet_symbols ss) moves (quiet ts) []
              → Derives g (length (quiet front)) (unless b s (quiet_symbols ss)) moves (quiet (t ∷ ts)) []
          at true is moves rest =
              let hush : silent t ≡ true = has_all silent kinds t is h in
              rw hush (subst (λ (n : ℕ). Derives g n (quiet_symbols ss) moves (quiet ts) []) (quiet_same front t hush) rest)
          at false is moves rest = elim (or_cases (list_all silent kinds) (list_all (λ j. not (silent j) && has kinds (renamed j)) kinds) this) [
            | inl y ↦ absurd (both_ways (list_all silent kinds) is y)
            | inr y ↦ (
                let p = and_parts (not (silent t)) (has kinds (renamed t)) (has_all (λ j. not (silent j) && has kinds (renamed j)) kinds t y h) in
                let speaks : silent t ≡ false = not-true (silent t) p.0 in
                rw speaks (read kinds r p.1 (within_less (length (quiet front)) pos s (fewer front pos f) w)
                (subst (λ (n : ℕ). Derives g n (quiet_symbols ss) moves (quiet ts) []) (quiet_more front t speaks) rest)))
          ]
      without (await kinds r h d) e k front f = absurd cc
      without (act {pos = pos} {s = s} {ss = ss} {log = log} {ts = ts} r d) e k front f =
          let rest = without d e k.2 front f in
          let place : length (quiet front) ≡ length (quiet (take pos (front ++ ts))) = rw f (rw (take_front front ts) refl) in
          rw r (subst (λ (n : ℕ). Derives g (length (quiet front)) (s ∷ quiet_symbols ss) (record { action = s.id; at = n } ∷ moved (front ++ ts) log) (quiet ts) []) place (act r rest))
      without (pass {pos = pos} {s = s} {ss = ss} {log = log} {t = t} {ts = ts} kinds r h d) e k front f =
          let rest = without d e k.2 front f in
          let speaks : silent t ≡ false = next_loud t ts d refl k.2 (k.1 (rw r refl)) in
          let passing : has kinds (renamed t) ≡ false = passes kinds t (rule_right s.id (Unless kinds) k.0 r) h in
          let same : quiet (t ∷ ts) ≡ renamed t ∷ quiet ts = rw speaks refl in
          rw (r, same) (pass kinds r passing (rw same at rest))
      without (free {s = s} {ss = ss} {log = log} kinds r d) e k front f =
          let rest = without d e k.2 front f in
          rw r (free kinds r rest)
      without (choose {s = s} {ss = ss} {log = log} {ts = ts} weight solid rank ps p r m d) e k front f =
          let this = each_passes (λ q. (guarded q && (not (is_known s.id) || loud_items q)) && is_among (quiet_items q) ps) p ps m (rule_right s.id (Choice weight solid rank ps) k.0 r) in
          let parts = and_parts (guarded p && (not (is_known s.id) || loud_items p)) (is_among (quiet_items p) ps) this in
          let two = and_parts (guarded p) (not (is_known s.id) || loud_items p) parts.0 in
          let rest = without d e (good_children s p ss two.0 k.2) front f in
          let inner : Derives g (length (quiet front)) (children s (quiet_items p) ++ quiet_symbols ss) (moved (front ++ ts) log) (quiet ts) [] =
          subst (λ (us : List Symbol). Derives g (length (quiet front)) us (moved (front ++ ts) log) (quiet ts) []) (quiet_children s p ss) rest in
          rw r (choose weight solid rank ps (quiet_items p) r (among_is (quiet_items p) ps parts.1) inner)
