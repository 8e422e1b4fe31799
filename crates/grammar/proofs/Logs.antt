-- The order of logs, and the least of some.
use Rattle.std.proofs.Common.{ℕ, zero, suc, cond, Bool, true, false, List, [], ◌∷◌, ◌++◌, ◌+◌, ◌≡◌, ◌≤◌, ◌<◌, ◌&&◌, ◌⊎◌, inl, inr, Some, length, take, drop, get_or, refl, sym, ◌∙◌, ap, subst, arith}
use Rattle.std.proofs.lemmas.Bool.{ltb-true, lt-ltb, eqb-true, eq-eqb, cases_order, and_parts, and_from, or_cases, or_left, or_right}
use Rattle.std.proofs.lemmas.List.{take_more, take_all, drop_all}
use Rattle.std.specs.Prelude.{◌==◌, nat_lt, slice_get}
use Rattle.grammar.specs.declared.machine.Event.{Event}
use Rattle.grammar.specs.declared.machine.Thread.{Thread}
use Rattle.grammar.specs.Derivation.{Among, here, there}
use Rattle.grammar.proofs.Elements.{among_more}
use Rattle.grammar.specs.Order.{is_same, is_before, is_up_to}
use Rattle.grammar.specs.Runs.{IsLeast}
use Rattle.grammar.specs.Threads.{logs}

-- one action before another
abbrev Before : Event → Event → Type 0
Before x y = (x.at < y.at) ⊎ ((x.at ≡ y.at) × (x.action < y.action))

before_of : (x y : Event) → is_before x y ≡ true → Before x y
before_of x y h = elim (or_cases (nat_lt x.at y.at) (x.at == y.at && nat_lt x.action y.action) h) [
  | inl a ↦ inl (ltb-true _ _ a)
  | inr b ↦ let p = and_parts (x.at == y.at) (nat_lt x.action y.action) b in inr (eqb-true _ _ p.0, ltb-true _ _ p.1)
]

to_before : (x y : Event) → Before x y → is_before x y ≡ true
to_before x y (inl h) = or_left _ _ (lt-ltb _ _ h)
to_before x y (inr h) = or_right (nat_lt x.at y.at) _ (and_from _ _ (eq-eqb _ _ h.0) (lt-ltb _ _ h.1))

one_event : (x y : Event) → x.at ≡ y.at → x.action ≡ y.action → x ≡ y
one_event x y e f = ap (λ (a : ℕ). record { action = a; at = x.at }) f ∙ ap (λ (t : ℕ). record { action = y.action; at = t }) e

same_of : (x y : Event) → is_same x y ≡ true → x ≡ y
same_of x y h = let p = and_parts (x.at == y.at) (x.action == y.action) h in one_event x y (eqb-true _ _ p.0) (eqb-true _ _ p.1)

is_itself : (x : Event) → is_same x x ≡ true
is_itself x = and_from _ _ (eq-eqb x.at x.at refl) (eq-eqb x.action x.action refl)

ordered : (x y : Event) → Before x y ⊎ ((x ≡ y) ⊎ Before y x)
ordered x y = elim (cases_order x.at y.at) [
  | inl e ↦ elim (cases_order x.action y.action) [ inl f ↦ inr (inl (one_event x y e f)) | inr g ↦ elim g [ inl a ↦ inl (inr (e, a)) | inr b ↦ inr (inr (inr (sym e, b))) ] ]
  | inr g ↦ elim g [ inl a ↦ inl (inl a) | inr b ↦ inr (inr (inl b)) ]
]

before_trans : (x y z : Event) → Before x y → Before y z → Before x z
before_trans x y z (inl a) (inl b) = inl (omega arith)
before_trans x y z (inl a) (inr b) = let e = b.0 in inl (omega arith)
before_trans x y z (inr a) (inl b) = let e = a.0 in inl (omega arith)
before_trans x y z (inr a) (inr b) = let e = a.0 in let f = a.1 in let g = b.0 in let h = b.1 in inr (omega arith, omega arith)

not_both : (x y : Event) → Before x y → Before y x → ⊥
not_both x y (inl a) (inl b) = omega arith
not_both x y (inl a) (inr b) = let e = b.0 in omega arith
not_both x y (inr a) (inl b) = let e = a.0 in omega arith
not_both x y (inr a) (inr b) = let f = a.1 in let h = b.1 in omega arith

up_parts : (x y : Event) (xs ys : List Event) → is_up_to (x ∷ xs) (y ∷ ys) ≡ true → Before x y ⊎ ((x ≡ y) × (is_up_to xs ys ≡ true))
up_parts x y xs ys h = elim (or_cases (is_before x y) (is_same x y && is_up_to xs ys) h) [
  | inl a ↦ inl (before_of x y a)
  | inr b ↦ let p = and_parts (is_same x y) (is_up_to xs ys) b in inr (same_of x y p.0, p.1)
]

up_first : (x y : Event) (xs ys : List Event) → Before x y → is_up_to (x ∷ xs) (y ∷ ys) ≡ true
up_first x y xs ys h = or_left _ _ (to_before x y h)

up_rest : (x y : Event) (xs ys : List Event) → x ≡ y → is_up_to xs ys ≡ true → is_up_to (x ∷ xs) (y ∷ ys) ≡ true
up_rest x y xs ys e h = or_right (is_before x y) _ (and_from _ _ (subst (λ (z : Event). is_same x z ≡ true) e (is_itself x)) h)

pub up_itself : (xs : List Event) → is_up_to xs xs ≡ true
up_itself [] = refl
up_itself (x ∷ xs) = up_rest x x xs xs refl (up_itself xs)

up_total : (xs ys : List Event) → (is_up_to xs ys ≡ true) ⊎ (is_up_to ys xs ≡ true)
up_total [] ys = inl refl
up_total (x ∷ xs) [] = inr refl
up_total (x ∷ xs) (y ∷ ys) = elim (ordered x y) [
  | inl a ↦ inl (up_first x y xs ys a)
  | inr g ↦ elim g [
    | inl e ↦ elim (up_total xs ys) [ inl h ↦ inl (up_rest x y xs ys e h) | inr h ↦ inr (up_rest y x ys xs (sym e) h) ]
    | inr b ↦ inr (up_first y x ys xs b)
  ]
]

up_trans : (xs ys zs : List Event) → is_up_to xs ys ≡ true → is_up_to ys zs ≡ true → is_up_to xs zs ≡ true
up_trans [] ys zs h k = refl
up_trans (x ∷ xs) [] zs h k = absurd cc
up_trans (x ∷ xs) (y ∷ ys) [] h k = absurd cc
up_trans (x ∷ xs) (y ∷ ys) (z ∷ zs) h k = elim (up_parts x y xs ys h) [
  | inl a ↦ elim (up_parts y z ys zs k) [
    | inl b ↦ up_first x z xs zs (before_trans x y z a b)
    | inr f ↦ up_first x z xs zs (subst (λ (u : Event). Before x u) f.0 a)
  ]
  | inr e ↦ elim (up_parts y z ys zs k) [
    | inl b ↦ up_first x z xs zs (subst (λ (u : Event). Before u z) (sym e.0) b)
    | inr f ↦ up_rest x z xs zs (e.0 ∙ f.0) (up_trans xs ys zs e.1 f.1)
  ]
]

pub up_both : (xs ys : List Event) → is_up_to xs ys ≡ true → is_up_to ys xs ≡ true → xs ≡ ys
up_both [] [] h k = refl
up_both [] (y ∷ ys) h k = absurd cc
up_both (x ∷ xs) [] h k = absurd cc
up_both (x ∷ xs) (y ∷ ys) h k = elim (up_parts x y xs ys h) [
  | inl a ↦ elim (up_parts y x ys xs k) [
    | inl b ↦ absurd (not_both x y a b)
    | inr f ↦ let b = subst (λ (u : Event). Before x u) f.0 a in absurd (not_both x x b b)
  ]
  | inr e ↦ elim (up_parts y x ys xs k) [
    | inl b ↦ let c = subst (λ (u : Event). Before y u) e.0 b in absurd (not_both y y c c)
    | inr f ↦ ap (λ (u : Event). u ∷ xs) e.0 ∙ ap (λ (us : List Event). y ∷ us) (up_both xs ys e.1 f.1)
  ]
]

pub up_after : (front xs ys : List Event) → is_up_to xs ys ≡ true → is_up_to (front ++ xs) (front ++ ys) ≡ true
up_after [] xs ys h = h
up_after (x ∷ front) xs ys h = up_rest x x (front ++ xs) (front ++ ys) refl (up_after front xs ys h)

logs_push : (ths : List Thread) (th : Thread) → logs (ths ++ th ∷ []) ≡ logs ths ++ th.log.items ∷ []
logs_push [] th = refl
logs_push (x ∷ ths) th = ap (λ ls. x.log.items ∷ ls) (logs_push ths th)

among_pushed : (log : List Event) (ths : List Thread) (th : Thread) → Among log (logs (ths ++ th ∷ [])) → Among log (logs ths) ⊎ (log ≡ th.log.items)
among_pushed log ths th m = among_more log th.log.items (logs ths) (subst (λ (ls : List (List Event)). Among log ls) (logs_push ths th) m)

pub among_at : (ths : List Thread) (i : ℕ) (th : Thread) → i < length ths → th ≡ get_or ths i th → Among th.log.items (logs ths)
among_at [] i th h e = absurd (omega arith)
among_at (x ∷ ths) zero th h e = rw e here
among_at (x ∷ ths) (suc i) th h e = there (among_at ths i th (omega arith) e)

-- the log is one of all, and the least of some
pub record IsLeastSoFar (log : List Event) (some all : List Thread) : Type 0 where
  pub one : Among log (logs all)
  pub least : (other : List Event) → Among other (logs some) → is_up_to log other ≡ true

by_test : (log : List Event) (ths all : List Thread) (th : Thread) (b : Bool) → is_up_to log th.log.items ≡ b → Among th.log.items (logs all) → IsLeastSoFar log ths all → IsLeastSoFar (cond b log th.log.items) (ths ++ th ∷ []) all
by_test log ths all th true h m l = record {
  one = l.one;
  least = λ other m. elim (among_pushed other ths th m) [ inl a ↦ l.least other a | inr f ↦ subst (λ (u : List Event). is_up_to log u ≡ true) (sym f) h ];
}
by_test log ths all th false h m l =
    let below : is_up_to th.log.items log ≡ true = elim (up_total log th.log.items) [ inl t ↦ absurd cc | inr u ↦ u ] in
    record {
      one = m;
      least = λ other m. elim (among_pushed other ths th m) [
        | inl a ↦ up_trans th.log.items log other below (l.least other a)
        | inr f ↦ subst (λ (u : List Event). is_up_to th.log.items u ≡ true) (sym f) (up_itself th.log.items)
      ];
    }

pub least_none : (log : List Event) (all : List Thread) (first : Thread) → slice_get all 0 ≡ Some first → log ≡ first.log.items → IsLeastSoFar log [] all
least_none log [] first e f = absurd cc
least_none log (th ∷ all) first e f =
    let same : th ≡ first = cc in
    record { one = rw (f, ← same) here; least = λ other m. elim m [ ] }

-- one more thread
pub least_more : (log new : List Event) (all : List Thread) (i : ℕ) (th : Thread) → i < length all → th ≡ get_or all i th
    → new ≡ cond (is_up_to log th.log.items) log th.log.items → IsLeastSoFar log (take i all) all → IsLeastSoFar new (take (i + 1) all) all
least_more log new all i th h e n l =
    subst (λ (us : List Thread). IsLeastSoFar new us all) (sym (take_more all i th h ∙ ap (λ (x : Thread). take i all ++ x ∷ []) (sym e)))
    (subst (λ (us : List Event). IsLeastSoFar us (take i all ++ th ∷ []) all) (sym n) (by_test log (take i all) all th (is_up_to log th.log.items) refl (among_at all i th h e) l))

pub least_all : (log : List Event) (all : List Thread) (i : ℕ) → length all ≤ i → IsLeastSoFar log (take i all) all → IsLeast log (logs all)
least_all log all i h l = record { one = l.one; least = subst (λ (us : List Thread). (other : List Event) → Among other (logs us) → is_up_to log other ≡ true) (take_all i all h) l.least }

-- a log that is longer
log_left : (log : List Event) (at : ℕ) → at < length log → is_up_to (drop at log) [] ≡ false
log_left [] at h = absurd (omega arith)
log_left (x ∷ log) zero h = refl
log_left (x ∷ log) (suc at) h = log_left log at (omega arith)

pub past_other : (log other : List Event) (at : ℕ) → at < length log → length other ≤ at → is_up_to (drop at log) (drop at other) ≡ false
past_other log other at h k = rw (drop_all at other k) (log_left log at h)
