-- Where the next token tells which alternative to take, a text has one derivation.
use Rattle.std.proofs.Common.{ℕ, zero, suc, Bool, true, false, List, [], ◌∷◌, ◌++◌, ◌+◌, ◌≡◌, ◌&&◌, ◌||◌, ◌⊎◌, inl, inr, Option, Some, None, length, map, refl, sym, ◌∙◌, ap, subst, arith}
use Rattle.std.proofs.lemmas.Bool.{eqb-true, and_parts, and_from, or_cases, or_left, or_right, not-true, both_ways}
use Rattle.std.proofs.lemmas.List.Folds.{list_any-append}
use Rattle.std.proofs.lemmas.Map.Views.{any-filter_same}
use Rattle.std.specs.List.{filter, list_all}
use Rattle.std.specs.Prelude.{not, ◌==◌, slice_index_or}
use Rattle.grammar.specs.declared.table.Item.{Item}
use Rattle.grammar.specs.declared.machine.Symbol.{Symbol}
use Rattle.grammar.specs.declared.machine.Event.{Event}
use Rattle.grammar.specs.Table.{Rules, Shape, Token, Action, Unless, Choice, rule_of}
use Rattle.grammar.specs.Derivation.{has, Among, here, there, Derives, done, read, await, act, pass, free, choose}
use Rattle.grammar.specs.Limits.{children}
use Rattle.grammar.specs.Reading.{IsSentence, IsReading}
use Rattle.grammar.specs.Order.{is_up_to}
use Rattle.grammar.specs.Weights.{is_solid, has_solid, all_solid}
use Rattle.grammar.specs.Predictive.{Lookahead, Certificate, only, first_of, follow_of, begin_with, begins, covers, is_apart, all_apart, is_rule, has_follow, predicts, all_predict, is_predictive, OneDerivation}
use Rattle.grammar.proofs.Elements.{each_passes}
use Rattle.grammar.proofs.Logs.{up_itself}
use Rattle.grammar.proofs.Inversion.{by_token, by_action, by_guard, by_guard_end, by_choice, no_actions}

-- the next token, or the end
abbrev next_of : List ℕ → Option ℕ
next_of [] = None
next_of (t ∷ ts) = Some t

abbrev may : Lookahead → Option ℕ → Bool
may x None = x.at_end
may x (Some t) = has x.kinds t

-- Lists of kinds.
has_all : (test : ℕ → Bool) (ks : List ℕ) (t : ℕ) → list_all test ks ≡ true → has ks t ≡ true → test t ≡ true
has_all test [] t a h = absurd cc
has_all test (k ∷ ks) t a h =
    let p = and_parts (test k) (list_all test ks) a in
    elim (or_cases (k == t) (has ks t) h) [ inl e ↦ subst (λ (u : ℕ). test u ≡ true) (eqb-true k t e) p.0 | inr m ↦ has_all test ks t p.1 m ]

has_without : (kinds ks : List ℕ) (t : ℕ) → has (filter (λ k. not (has kinds k)) ks) t ≡ (not (has kinds t) && has ks t)
has_without kinds ks t = any-filter_same (λ k. k == t) (λ k. not (has kinds k)) (not (has kinds t)) (λ k e. ap (λ (u : ℕ). not (has kinds u)) (eqb-true k t e)) ks

has_joined : (ks ls : List ℕ) (t : ℕ) → has (ks ++ ls) t ≡ (has ks t || has ls t)
has_joined ks ls t = list_any-append (λ k. k == t) ks ls

covered : (outer inner : Lookahead) (t : Option ℕ) → covers outer inner ≡ true → may inner t ≡ true → may outer t ≡ true
covered outer inner (Some t) c m = has_all (has outer.kinds) inner.kinds t (and_parts (list_all (has outer.kinds) inner.kinds) (outer.at_end || not inner.at_end) c).0 m
covered outer inner None c m = elim (or_cases outer.at_end (not inner.at_end) (and_parts (list_all (has outer.kinds) inner.kinds) (outer.at_end || not inner.at_end) c).1) [
  | inl e ↦ e
  | inr e ↦ absurd (both_ways inner.at_end (not-true inner.at_end e) m)
]

not_both : (x y : Lookahead) (t : Option ℕ) → is_apart x y ≡ true → may x t ≡ true → may y t ≡ true → ⊥
not_both x y (Some t) a h k =
    let p = and_parts (list_all (λ k. not (has y.kinds k)) x.kinds) (not (x.at_end && y.at_end)) a in
    both_ways (has y.kinds t) (not-true (has y.kinds t) (has_all (λ k. not (has y.kinds k)) x.kinds t p.0 h)) k
not_both x y None a h k =
    let p = and_parts (list_all (λ k. not (has y.kinds k)) x.kinds) (not (x.at_end && y.at_end)) a in
    both_ways (x.at_end && y.at_end) (not-true (x.at_end && y.at_end) p.1) (and_from x.at_end y.at_end h k)

-- What begins a symbol and then the rest begins the symbol, whatever the rest; or it begins the rest.
by_step : (first : List ℕ) (s : Shape) (rest : Lookahead) (t : Option ℕ) → may (begin_with first s rest) t ≡ true
    → ((other : Lookahead) → may (begin_with first s other) t ≡ true)
    ⊎ ((is_solid s ≡ false) × (may rest t ≡ true) × ((other : Lookahead) → may other t ≡ true → may (begin_with first s other) t ≡ true))
by_step first (Token kinds) rest (Some t) h = inl (λ other. h)
by_step first (Token kinds) rest None h = inl (λ other. h)
by_step first Action rest t h = inr (refl, h, λ other k. k)
by_step first (Unless kinds) rest None h = inr (refl, h, λ other k. k)
by_step first (Unless kinds) rest (Some t) h =
    let p = and_parts (not (has kinds t)) (has rest.kinds t) (sym (has_without kinds rest.kinds t) ∙ h) in
    inr (refl, p.1, λ other k. has_without kinds other.kinds t ∙ and_from (not (has kinds t)) (has other.kinds t) p.0 k)
by_step first (Choice weight true rank ps) rest t h = inl (λ other. h)
by_step first (Choice weight false rank ps) rest None h = inr (refl, h, λ other k. k)
by_step first (Choice weight false rank ps) rest (Some t) h = elim (or_cases (has first t) (has rest.kinds t) (sym (has_joined first rest.kinds t) ∙ h)) [
  | inl a ↦ inl (λ other. has_joined first other.kinds t ∙ or_left (has first t) (has other.kinds t) a)
  | inr b ↦ inr (refl, b, λ other k. has_joined first other.kinds t ∙ or_right (has first t) (has other.kinds t) k)
]

with_first : (first : List ℕ) (weight : ℕ) (solid : Bool) (rank : ℕ) (ps : List (List Item)) (x : Lookahead) (t : Option ℕ) → may (only first) t ≡ true → may (begin_with first (Choice weight solid rank ps) x) t ≡ true
with_first first weight true rank ps x t h = h
with_first first weight false rank ps x (Some t) h = has_joined first x.kinds t ∙ or_left (has first t) (has x.kinds t) h
with_first first weight false rank ps x None h = absurd cc

with_rest : (first : List ℕ) (weight : ℕ) (solid : Bool) (rank : ℕ) (ps : List (List Item)) (x : Lookahead) (t : Option ℕ) → (solid ≡ true → ⊥) → may x t ≡ true → may (begin_with first (Choice weight solid rank ps) x) t ≡ true
with_rest first weight true rank ps x t n h = absurd (n refl)
with_rest first weight false rank ps x (Some t) n h = has_joined first x.kinds t ∙ or_right (has first t) (has x.kinds t) h
with_rest first weight false rank ps x None n h = h

module _ (g : Rules) (c : Certificate) where
  begins_more : (p : List Item) (x y : Lookahead) (t : Option ℕ) → (may x t ≡ true → may y t ≡ true) → may (begins g c p x) t ≡ true → may (begins g c p y) t ≡ true
  begins_more [] x y t f h = f h
  begins_more (i ∷ is) x y t f h = elim (by_step (first_of c i.symbol) (rule_of g i.symbol) (begins g c is x) t h) [
    | inl a ↦ a (begins g c is y)
    | inr b ↦ b.2 (begins g c is y) (begins_more is x y t f b.1)
  ]

  begins_parts : (p : List Item) (x : Lookahead) (t : Option ℕ) → may (begins g c p x) t ≡ true → (may (begins g c p (only [])) t ≡ true) ⊎ ((has_solid g p ≡ false) × (may x t ≡ true))
  begins_parts [] x t h = inr (refl, h)
  begins_parts (i ∷ is) x t h = elim (by_step (first_of c i.symbol) (rule_of g i.symbol) (begins g c is x) t h) [
    | inl a ↦ inl (a (begins g c is (only [])))
    | inr b ↦ elim (begins_parts is x t b.1) [ inl m ↦ inl (b.2 (begins g c is (only [])) m) | inr n ↦ inr (rw b.0 n.0, n.1) ]
  ]

  -- what may begin a stack's text
  abbrev begin_stack : List Symbol → Lookahead
  begin_stack [] = record { kinds = []; at_end = true }
  begin_stack (s ∷ ss) = begin_with (first_of c s.id) (rule_of g s.id) (begin_stack ss)

  begin_children : (s : Symbol) (p : List Item) (ss : List Symbol) → begin_stack (children s p ++ ss) ≡ begins g c p (begin_stack ss)
  begin_children s [] ss = refl
  begin_children s (i ∷ is) ss = ap (begin_with (first_of c i.symbol) (rule_of g i.symbol)) (begin_children s is ss)

  -- What the test says of a rule.
  record Tested (n : ℕ) (solid : Bool) (ps : List (List Item)) : Type 0 where
    solids : solid ≡ true → all_solid g ps ≡ true
    first : (p : List Item) → Among p ps → covers (only (first_of c n)) (begins g c p (only [])) ≡ true
    follow : (p : List Item) → Among p ps → has_follow g c (follow_of c n) p ≡ true
    apart : all_apart (map (λ p. begins g c p (follow_of c n)) ps) ≡ true

  predicts_at : (rs : List Shape) (n m : ℕ) → all_predict g c m rs ≡ true → predicts g c (m + n) (slice_index_or rs n Action) ≡ true
  predicts_at [] n m h = refl
  predicts_at (r ∷ rs) zero m h = let e : m ≡ m + zero = omega arith in subst (λ (k : ℕ). predicts g c k r ≡ true) e (and_parts (predicts g c m r) (all_predict g c (m + 1) rs) h).0
  predicts_at (r ∷ rs) (suc n) m h =
      let e : (m + 1) + n ≡ m + suc n = omega arith in
      subst (λ (k : ℕ). predicts g c k (slice_index_or rs n Action) ≡ true) e (predicts_at rs n (m + 1) (and_parts (predicts g c m r) (all_predict g c (m + 1) rs) h).1)

  tested : (n weight : ℕ) (solid : Bool) (rank : ℕ) (ps : List (List Item)) → is_predictive g c ≡ true → rule_of g n ≡ Choice weight solid rank ps → Tested n solid ps
  tested n weight solid rank ps ok e =
      let e0 : 0 + n ≡ n = omega arith in
      let all : predicts g c n (Choice weight solid rank ps) ≡ true = rw (e0, e) at (predicts_at g n 0 ok) in
      let a = and_parts (not solid || all_solid g ps) (list_all (λ p. covers (only (first_of c n)) (begins g c p (only []))) ps && (list_all (has_follow g c (follow_of c n)) ps && all_apart (map (λ p. begins g c p (follow_of c n)) ps))) all in
      let b = and_parts (list_all (λ p. covers (only (first_of c n)) (begins g c p (only []))) ps) (list_all (has_follow g c (follow_of c n)) ps && all_apart (map (λ p. begins g c p (follow_of c n)) ps)) a.1 in
      let d = and_parts (list_all (has_follow g c (follow_of c n)) ps) (all_apart (map (λ p. begins g c p (follow_of c n)) ps)) b.1 in
      record {
        solids = λ s. elim (or_cases (not solid) (all_solid g ps) a.0) [ inl f ↦ absurd (both_ways solid (not-true solid f) s) | inr f ↦ f ];
        first = λ p m. each_passes (λ q. covers (only (first_of c n)) (begins g c q (only []))) p ps m b.0;
        follow = λ p m. each_passes (has_follow g c (follow_of c n)) p ps m d.0;
        apart = d.1;
      }

  -- A rule begins with what one of its alternatives begins with.
  begins_rule : (n weight : ℕ) (solid : Bool) (rank : ℕ) (ps : List (List Item)) (p : List Item) (x : Lookahead) (t : Option ℕ)
      → Tested n solid ps → Among p ps → may (begins g c p x) t ≡ true → may (begin_with (first_of c n) (Choice weight solid rank ps) x) t ≡ true
  begins_rule n weight solid rank ps p x t w m h = elim (begins_parts p x t h) [
    | inl a ↦ with_first (first_of c n) weight solid rank ps x t (covered (only (first_of c n)) (begins g c p (only [])) t (w.first p m) a)
    | inr b ↦ with_rest (first_of c n) weight solid rank ps x t (λ s. both_ways (has_solid g p) b.0 (each_passes (has_solid g) p ps m (w.solids s))) b.1
  ]

  -- The next token is one that may begin the stack's text.
  starts : {pos : ℕ} {ss : List Symbol} {log : List Event} {ts more : List ℕ} → is_predictive g c ≡ true → Derives g pos ss log ts more → more ≡ [] → may (begin_stack ss) (next_of ts) ≡ true
  starts ok done e = refl
  starts ok (read kinds f h w d) e = rw f h
  starts ok (await kinds f h d) e = absurd cc
  starts ok (act f d) e = rw f (starts ok d e)
  starts ok (pass {ss = ss} {t = t} kinds f h d) e = rw f (has_without kinds (begin_stack ss).kinds t ∙ and_from (not (has kinds t)) (has (begin_stack ss).kinds t) (ap not h) (starts ok d e))
  starts ok (free kinds f d) e = rw f (starts ok d e)
  starts ok (choose {s = s} {ss = ss} {ts = ts} weight solid rank ps p f m d) e =
      rw f (begins_rule s.id weight solid rank ps p (begin_stack ss) (next_of ts) (tested s.id weight solid rank ps ok f) m (subst (λ (x : Lookahead). may x (next_of ts) ≡ true) (begin_children s p ss) (starts ok d e)))

  -- What may come after each rule of a stack is known of it.
  abbrev Followed : List Symbol → Type 0
  Followed [] = Unit {0}
  Followed (s ∷ ss) = (is_rule (rule_of g s.id) ≡ true → (t : Option ℕ) → may (begin_stack ss) t ≡ true → may (follow_of c s.id) t ≡ true) × Followed ss

  followed_children : (s : Symbol) (p : List Item) (ss : List Symbol) (rest : Lookahead) → has_follow g c rest p ≡ true
      → ((t : Option ℕ) → may (begin_stack ss) t ≡ true → may rest t ≡ true) → Followed ss → Followed (children s p ++ ss)
  followed_children s [] ss rest h k f = f
  followed_children s (i ∷ is) ss rest h k f =
      let p = and_parts (not (is_rule (rule_of g i.symbol)) || covers (follow_of c i.symbol) (begins g c is rest)) (has_follow g c rest is) h in (
        λ r t m. covered (follow_of c i.symbol) (begins g c is rest) t
            (elim (or_cases (not (is_rule (rule_of g i.symbol))) (covers (follow_of c i.symbol) (begins g c is rest)) p.0) [ inl n ↦ absurd (both_ways (is_rule (rule_of g i.symbol)) (not-true (is_rule (rule_of g i.symbol)) n) r) | inr y ↦ y ])
            (begins_more is (begin_stack ss) rest t (k t) (subst (λ (x : Lookahead). may x t ≡ true) (begin_children s is ss) m)),
        followed_children s is ss rest p.1 k f,
      )

  -- The next token tells the alternative.
  apart_at : (x rest : Lookahead) (q : List Item) (ps : List (List Item)) → Among q ps → list_all (is_apart x) (map (λ p. begins g c p rest) ps) ≡ true → is_apart x (begins g c q rest) ≡ true
  apart_at x rest q [] m h = elim m [ ]
  apart_at x rest q (p ∷ ps) here h = (and_parts (is_apart x (begins g c p rest)) (list_all (is_apart x) (map (λ r. begins g c r rest) ps)) h).0
  apart_at x rest q (p ∷ ps) (there m) h = apart_at x rest q ps m (and_parts (is_apart x (begins g c p rest)) (list_all (is_apart x) (map (λ r. begins g c r rest) ps)) h).1

  one_way : (rest : Lookahead) (t : Option ℕ) (p q : List Item) (ps : List (List Item)) → Among p ps → Among q ps → all_apart (map (λ r. begins g c r rest) ps) ≡ true
      → may (begins g c p rest) t ≡ true → may (begins g c q rest) t ≡ true → p ≡ q
  one_way rest t p q [] m n a h k = elim m [ ]
  one_way rest t p q (r ∷ ps) here here a h k = refl
  one_way rest t p q (r ∷ ps) here (there n) a h k =
      absurd (not_both (begins g c p rest) (begins g c q rest) t (apart_at (begins g c p rest) rest q ps n (and_parts (list_all (is_apart (begins g c p rest)) (map (λ r. begins g c r rest) ps)) (all_apart (map (λ r. begins g c r rest) ps)) a).0) h k)
  one_way rest t p q (r ∷ ps) (there m) here a h k =
      absurd (not_both (begins g c q rest) (begins g c p rest) t (apart_at (begins g c q rest) rest p ps m (and_parts (list_all (is_apart (begins g c q rest)) (map (λ r. begins g c r rest) ps)) (all_apart (map (λ r. begins g c r rest) ps)) a).0) k h)
  one_way rest t p q (r ∷ ps) (there m) (there n) a h k = one_way rest t p q ps m n (and_parts (list_all (is_apart (begins g c r rest)) (map (λ r. begins g c r rest) ps)) (all_apart (map (λ r. begins g c r rest) ps)) a).1 h k

  -- a stack's derivation shows that the alternative before it begins with the next token
  taken : {pos : ℕ} {log : List Event} {ts more : List ℕ} → is_predictive g c ≡ true → (s : Symbol) (p : List Item) (ss : List Symbol)
      → ((t : Option ℕ) → may (begin_stack ss) t ≡ true → may (follow_of c s.id) t ≡ true)
      → Derives g pos (children s p ++ ss) log ts more → more ≡ [] → may (begins g c p (follow_of c s.id)) (next_of ts) ≡ true
  taken {ts = ts} ok s p ss known d e =
      begins_more p (begin_stack ss) (follow_of c s.id) (next_of ts) (known (next_of ts)) (subst (λ (x : Lookahead). may x (next_of ts) ≡ true) (begin_children s p ss) (starts ok d e))

  one : {pos : ℕ} {ss : List Symbol} {log : List Event} {ts more : List ℕ} → is_predictive g c ≡ true → Derives g pos ss log ts more → more ≡ [] → Followed ss
      → (other : List Event) → Derives g pos ss other ts more → log ≡ other
  one ok done e f other d' = sym (no_actions d')
  one ok (read kinds r h w d) e f other d' = one ok d e f.1 other (by_token kinds r d').2
  one ok (await kinds r h d) e f other d' = absurd cc
  one ok (act {pos = pos} {s = s} r d) e f other d' =
      let b = by_action r d' in
      ap (λ (us : List Event). record { action = s.id; at = pos } ∷ us) (one ok d e f.1 b.0 b.2) ∙ sym b.1
  one ok (pass kinds r h d) e f other d' = one ok d e f.1 other (by_guard kinds r d').1
  one ok (free kinds r d) e f other d' = one ok d e f.1 other (by_guard_end kinds r d')
  one ok (choose {pos = pos} {s = s} {ss = ss} {ts = ts} {more = more} weight solid rank ps p r m d) e f other d' =
      let b = by_choice weight solid rank ps r d' in
      let w = tested s.id weight solid rank ps ok r in
      let known : (t : Option ℕ) → may (begin_stack ss) t ≡ true → may (follow_of c s.id) t ≡ true = λ t. f.0 (rw r refl) t in
      let same : p ≡ b.0 = one_way (follow_of c s.id) (next_of ts) p b.0 ps m b.1 w.apart (taken ok s p ss known d e) (taken ok s b.0 ss known b.2 e) in
      one ok d e (followed_children s p ss (follow_of c s.id) (w.follow p m) known f.1) other (subst (λ (q : List Item). Derives g pos (children s q ++ ss) other ts more) (sym same) b.2)

pub one_derivation : OneDerivation
one_derivation g c n text log other ok ends d d' = one g c ok d refl (λ r t m. at_end t m, tt) other d'
  where
    at_end : (t : Option ℕ) → may (record { kinds = []; at_end = true }) t ≡ true → may (follow_of c n) t ≡ true
    at_end None m = ends
    at_end (Some t) m = absurd cc

-- a derivation's log is the text's reading
pub only_reading : (g : Rules) (c : Certificate) (n : ℕ) (text : List ℕ) (log : List Event) → is_predictive g c ≡ true → (follow_of c n).at_end ≡ true → IsSentence g n text log → IsReading g n text log
only_reading g c n text log ok ends d = record {
  sentence = d;
  least = λ other d'. subst (λ (us : List Event). is_up_to log us ≡ true) (one_derivation g c n text log other ok ends d d') (up_itself log);
}

-- the test in parts
pub predict_both : (g : Rules) (c : Certificate) (rs qs : List Shape) (n : ℕ) → all_predict g c n rs ≡ true → all_predict g c (n + length rs) qs ≡ true → all_predict g c n (rs ++ qs) ≡ true
predict_both g c [] qs n h k = let e : n + zero ≡ n = omega arith in subst (λ (m : ℕ). all_predict g c m qs ≡ true) e k
predict_both g c (r ∷ rs) qs n h k =
    let p = and_parts (predicts g c n r) (all_predict g c (n + 1) rs) h in
    let e : n + length (r ∷ rs) ≡ (n + 1) + length rs = omega arith in
    and_from (predicts g c n r) (all_predict g c (n + 1) (rs ++ qs)) p.0 (predict_both g c rs qs (n + 1) p.1 (subst (λ (m : ℕ). all_predict g c m qs ≡ true) e k))
