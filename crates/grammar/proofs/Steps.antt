-- What each step of the reader adds to the threads.
use Rattle.std.proofs.Common.{ℕ, zero, suc, Bool, true, false, List, [], ◌∷◌, ◌++◌, ◌+◌, ◌≡◌, ◌≤◌, ◌<◌, inl, inr, Option, Some, None, length, take, get_or, refl, sym, ◌∙◌, ap, subst, arith, append_assoc}
use Rattle.std.proofs.lemmas.Bool.{and_parts, and_from, not-true}
use Rattle.std.proofs.lemmas.List.{take_more, take_all}
use Rattle.std.specs.Borrow.{Bor}
use Rattle.grammar.specs.declared.table.Item.{Item}
use Rattle.grammar.specs.declared.machine.Symbol.{Symbol}
use Rattle.grammar.specs.declared.machine.Event.{Event}
use Rattle.grammar.specs.declared.machine.Thread.{Thread}
use Rattle.grammar.specs.Table.{Rules, Shape, Token, Action, Unless, Choice, rule_of, items_of}
use Rattle.grammar.specs.Derivation.{has, Among, here, there, Derives, done, read, act, pass, free, choose}
use Rattle.grammar.specs.Limits.{is_within, child, children}
use Rattle.grammar.specs.Threads.{symbols, Goes, Reads, SomeReads, text_from, Adds, OpensTo}
use Rattle.grammar.specs.Taking.{stops, takes, refuses, is_barred}
use Rattle.grammar.specs.WellFormed.{is_well_formed}
use Rattle.grammar.proofs.Tables.{cost, falls}
use Rattle.grammar.proofs.Inversion.{by_token, no_end, by_action, by_guard, by_guard_end, by_choice, no_token, only_end}
use Rattle.grammar.proofs.Elements.{among_more, among_front, among_last}
use Rattle.grammar.proofs.Adding.{alive_push, alive_pushed, adds_none, adds_as, adds_then, adds_pushed}

module _ (g : Rules) (pos : ℕ) (trail : List Event) where
  -- an empty stack derives the end alone
  pub empty_reads : (t : ℕ) (ths : List Thread) → Adds g (pos + 1) ths ths (Reads g pos trail [] (Some t))
  empty_reads t ths = adds_none g (pos + 1) ths (Reads g pos trail [] (Some t)) (λ log ts more w. no_token w.1.2)

  moved : {rest : List Event} {ts more : List ℕ} (us : List ℕ) → us ≡ [] → Derives g pos [] rest ts more → Derives g (pos + 1) [] rest us more
  moved us e done = rw e done

  pub adds_end : (ths : List Thread) (th : Thread) → th.log.items ≡ trail → symbols th.stack.value ≡ [] → Adds g (pos + 1) ths (ths ++ th ∷ []) (Reads g pos trail [] None)
  adds_end ths th e f = adds_as g (pos + 1) ths (ths ++ th ∷ []) (λ log ts more. Goes g (pos + 1) th.log.items (symbols th.stack.value) log ts more) (Reads g pos trail [] None)
      (λ log ts more w. let d = only_end {g = g} {pos = pos} (subst (λ (ss : List Symbol). Derives g (pos + 1) ss w.0 ts more) f w.2) in ((d.0, d.1), (w.0, w.1 ∙ ap (λ x. x ++ w.0) e, d.2)))
      (λ log ts more v. let w = v.1 in (w.0, w.1 ∙ ap (λ x. x ++ w.0) (sym e), subst (λ (ss : List Symbol). Derives g (pos + 1) ss w.0 ts more) (sym f) (moved ts v.0.0 w.2)))
      (adds_pushed g (pos + 1) ths th)

  blocked : (t : Option ℕ) (s : Symbol) (ss : List Symbol) (kinds : List ℕ) → Token kinds ≡ rule_of g s.id → takes kinds pos s t ≡ false
      → (log : List Event) (ts more : List ℕ) → Reads g pos trail (s ∷ ss) t log ts more → ⊥
  blocked (Some t) s ss kinds k h log ts more w = let r = by_token kinds (sym k) w.1.2 in let e = and_from (is_within pos s) (has kinds t) r.1 r.0 in cc
  blocked None s ss kinds k h log ts more w = no_end kinds (sym k) w.0.1 w.1.2

  pub adds_blocked : (t : Option ℕ) (s : Symbol) (ss : List Symbol) (kinds : List ℕ) (ths : List Thread) → Token kinds ≡ rule_of g s.id → takes kinds pos s t ≡ false
      → Adds g (pos + 1) ths ths (Reads g pos trail (s ∷ ss) t)
  adds_blocked t s ss kinds ths k h = adds_none g (pos + 1) ths (Reads g pos trail (s ∷ ss) t) (blocked t s ss kinds k h)

  refused : (shape : Shape) (t : Option ℕ) (s : Symbol) → shape ≡ rule_of g s.id → refuses shape pos s t ≡ true → (kinds : List ℕ) × (Token kinds ≡ rule_of g s.id) × (takes kinds pos s t ≡ false)
  refused (Token kinds) t s e h = (kinds, e, not-true _ h)
  refused Action t s e h = absurd cc
  refused (Unless kinds) t s e h = absurd cc
  refused (Choice weight solid rank ps) t s e h = absurd cc

  -- an alternative that is barred reads nothing
  adds_barred : (t : Option ℕ) (s : Symbol) (p : List Item) (ss : List Symbol) (ths : List Thread) → is_barred g pos s p t ≡ true → Adds g (pos + 1) ths ths (Reads g pos trail (children s p ++ ss) t)
  adds_barred t s [] ss ths h = absurd cc
  adds_barred t s (i ∷ is) ss ths h = let r = refused (rule_of g i.symbol) t (child s i) refl h in adds_blocked t (child s i) (children s is ++ ss) r.0 ths r.1 r.2

  pub adds_token : (t : Option ℕ) (s : Symbol) (kinds : List ℕ) (ths : List Thread) (th : Thread) → Token kinds ≡ rule_of g s.id → takes kinds pos s t ≡ true → th.log.items ≡ trail
      → Adds g (pos + 1) ths (ths ++ th ∷ []) (Reads g pos trail (s ∷ symbols th.stack.value) t)
  adds_token None s kinds ths th k h e = absurd cc
  adds_token (Some t) s kinds ths th k h e =
      let both = and_parts (is_within pos s) (has kinds t) h in
      adds_as g (pos + 1) ths (ths ++ th ∷ []) (λ log ts more. Goes g (pos + 1) th.log.items (symbols th.stack.value) log ts more) (Reads g pos trail (s ∷ symbols th.stack.value) (Some t))
      (λ log ts more w. (tt, (w.0, w.1 ∙ ap (λ x. x ++ w.0) e, read kinds (sym k) both.1 both.0 w.2)))
      (λ log ts more v. let w = v.1 in (w.0, w.1 ∙ ap (λ x. x ++ w.0) (sym e), (by_token kinds (sym k) w.2).2))
      (adds_pushed g (pos + 1) ths th)

  guarded : (t : Option ℕ) (s : Symbol) (ss : List Symbol) (kinds : List ℕ) → Unless kinds ≡ rule_of g s.id → stops kinds t ≡ false
      → (log : List Event) (ts more : List ℕ) → Reads g pos trail ss t log ts more → Reads g pos trail (s ∷ ss) t log ts more
  guarded (Some t) s ss kinds e f log ts more w = (w.0, (w.1.0, w.1.1, pass kinds (sym e) f w.1.2))
  guarded None s ss kinds e f log ts more w = (w.0, (w.1.0, w.1.1, free kinds (sym e) w.1.2))

  unguarded : (t : Option ℕ) (s : Symbol) (ss : List Symbol) (kinds : List ℕ) → Unless kinds ≡ rule_of g s.id
      → (log : List Event) (ts more : List ℕ) → Reads g pos trail (s ∷ ss) t log ts more → (stops kinds t ≡ false) × Reads g pos trail ss t log ts more
  unguarded (Some t) s ss kinds e log ts more w = let i = by_guard kinds (sym e) w.1.2 in (i.0, (w.0, (w.1.0, w.1.1, i.1)))
  unguarded None s ss kinds e log ts more w = (refl, (w.0, (w.1.0, w.1.1, by_guard_end kinds (sym e) w.1.2)))

  -- a guard that doesn't stop is as if it weren't there
  pub adds_guard : (t : Option ℕ) (s : Symbol) (ss : List Symbol) (kinds : List ℕ) (old new : List Thread) → Unless kinds ≡ rule_of g s.id → stops kinds t ≡ false
      → Adds g (pos + 1) old new (Reads g pos trail ss t) → Adds g (pos + 1) old new (Reads g pos trail (s ∷ ss) t)
  adds_guard t s ss kinds old new e f a = adds_as g (pos + 1) old new (Reads g pos trail ss t) (Reads g pos trail (s ∷ ss) t) (guarded t s ss kinds e f) (λ log ts more w. (unguarded t s ss kinds e log ts more w).1) a

  -- and one that stops lets nothing through
  pub adds_stopped : (t : Option ℕ) (s : Symbol) (ss : List Symbol) (kinds : List ℕ) (ths : List Thread) → Unless kinds ≡ rule_of g s.id → stops kinds t ≡ true → Adds g (pos + 1) ths ths (Reads g pos trail (s ∷ ss) t)
  adds_stopped t s ss kinds ths e f = adds_none g (pos + 1) ths (Reads g pos trail (s ∷ ss) t) (λ log ts more w. let u = (unguarded t s ss kinds e log ts more w).0 in absurd cc)

-- The alternatives as they stand in the table.
abbrev pub opened : ℕ → List (Bor (List Item)) → List (List Item)
opened i ps = items_of (take i ps)

items_of_append : (ps qs : List (Bor (List Item))) → items_of (ps ++ qs) ≡ items_of ps ++ items_of qs
items_of_append [] qs = refl
items_of_append (p ∷ ps) qs = ap (λ x. p.now ∷ x) (items_of_append ps qs)

opened_more : (ps : List (Bor (List Item))) (i : ℕ) (x : Bor (List Item)) → i < length ps → opened (i + 1) ps ≡ opened i ps ++ (get_or ps i x).now ∷ []
opened_more ps i x h = ap items_of (take_more ps i x h) ∙ items_of_append (take i ps) (get_or ps i x ∷ [])

opened_all : (ps : List (Bor (List Item))) (i : ℕ) → length ps ≤ i → opened i ps ≡ items_of ps
opened_all ps i h = ap items_of (take_all i ps h)

among_at : (ps : List (Bor (List Item))) (i : ℕ) (x : Bor (List Item)) → i < length ps → Among (get_or ps i x).now (items_of ps)
among_at [] i x h = absurd (omega arith)
among_at (p ∷ ps) zero x h = here
among_at (p ∷ ps) (suc i) x h = there (among_at ps i x (omega arith))

module _ (g : Rules) (pos : ℕ) (trail : List Event) (t : Option ℕ) where
  -- an action is noted, and the rest reads the token
  pub adds_action : (s : Symbol) (ss : List Symbol) (old new : List Thread) → Action ≡ rule_of g s.id
      → Adds g (pos + 1) old new (Reads g pos (trail ++ record { action = s.id; at = pos } ∷ []) ss t) → Adds g (pos + 1) old new (Reads g pos trail (s ∷ ss) t)
  adds_action s ss old new k a = adds_as g (pos + 1) old new (Reads g pos (trail ++ record { action = s.id; at = pos } ∷ []) ss t) (Reads g pos trail (s ∷ ss) t)
      (λ log ts more v. let w = v.1 in (v.0, (record { action = s.id; at = pos } ∷ w.0, w.1 ∙ append_assoc trail (record { action = s.id; at = pos } ∷ []) w.0, act (sym k) w.2)))
      (λ log ts more v. let w = v.1 in let i = by_action (sym k) w.2 in (v.0, (i.0, w.1 ∙ ap (λ x. trail ++ x) i.1 ∙ sym (append_assoc trail (record { action = s.id; at = pos } ∷ []) i.0), i.2)))
      a

  -- the alternatives so far, and one more
  adds_opened : (s : Symbol) (x : List Item) (ps : List (List Item)) (ss : List Symbol) (old mid new : List Thread)
      → Adds g (pos + 1) old mid (OpensTo g pos trail s ps ss t)
      → Adds g (pos + 1) mid new (Reads g pos trail (children s x ++ ss) t)
      → Adds g (pos + 1) old new (OpensTo g pos trail s (ps ++ x ∷ []) ss t)
  adds_opened s x ps ss old mid new a b = adds_then g (pos + 1) old mid new (OpensTo g pos trail s ps ss t) (Reads g pos trail (children s x ++ ss) t) (OpensTo g pos trail s (ps ++ x ∷ []) ss t)
      (λ log ts more w. (w.0, among_front w.0 x ps w.1, w.2))
      (λ log ts more w. (x, among_last x ps, w))
      (λ log ts more w. elim (among_more w.0 x ps w.1) [ inl m ↦ inl (w.0, m, w.2) | inr e ↦ inr (subst (λ (p : List Item). Reads g pos trail (children s p ++ ss) t log ts more) e w.2) ])
      a b

  pub adds_next : (s : Symbol) (ps : List (Bor (List Item))) (i : ℕ) (x : Bor (List Item)) (ss next : List Symbol) (trail' : List Event) (old mid new : List Thread)
      → i < length ps → trail' ≡ trail → next ≡ children s (get_or ps i x).now ++ ss
      → Adds g (pos + 1) old mid (OpensTo g pos trail s (opened i ps) ss t)
      → Adds g (pos + 1) mid new (Reads g pos trail' next t)
      → Adds g (pos + 1) old new (OpensTo g pos trail s (opened (i + 1) ps) ss t)
  adds_next s ps i x ss next trail' old mid new h e f a b =
      subst (λ (qs : List (List Item)). Adds g (pos + 1) old new (OpensTo g pos trail s qs ss t)) (sym (opened_more ps i x h))
      (adds_opened s (get_or ps i x).now (opened i ps) ss old mid new a
      (subst (λ (us : List Event). Adds g (pos + 1) mid new (Reads g pos us (children s (get_or ps i x).now ++ ss) t)) e
      (subst (λ (us : List Symbol). Adds g (pos + 1) mid new (Reads g pos trail' us t)) f b)))

  pub adds_skipped : (s : Symbol) (ps : List (Bor (List Item))) (i : ℕ) (x : Bor (List Item)) (ss : List Symbol) (old mid : List Thread)
      → i < length ps → is_barred g pos s (get_or ps i x).now t ≡ true
      → Adds g (pos + 1) old mid (OpensTo g pos trail s (opened i ps) ss t)
      → Adds g (pos + 1) old mid (OpensTo g pos trail s (opened (i + 1) ps) ss t)
  adds_skipped s ps i x ss old mid h b a = adds_next s ps i x ss (children s (get_or ps i x).now ++ ss) trail old mid mid h refl refl a (adds_barred g pos trail t s (get_or ps i x).now ss mid b)

  -- a choice reads what one of its alternatives reads
  pub adds_all : (s : Symbol) (weight : ℕ) (solid : Bool) (rank : ℕ) (ps : List (Bor (List Item))) (i : ℕ) (ss : List Symbol) (old new : List Thread)
      → Choice weight solid rank (items_of ps) ≡ rule_of g s.id → length ps ≤ i
      → Adds g (pos + 1) old new (OpensTo g pos trail s (opened i ps) ss t) → Adds g (pos + 1) old new (Reads g pos trail (s ∷ ss) t)
  adds_all s weight solid rank ps i ss old new e h a = adds_as g (pos + 1) old new (OpensTo g pos trail s (items_of ps) ss t) (Reads g pos trail (s ∷ ss) t)
      (λ log ts more w. let v = w.2.1 in (w.2.0, (v.0, v.1, choose weight solid rank (items_of ps) w.0 (sym e) w.1 v.2)))
      (λ log ts more v. let w = v.1 in let i = by_choice weight solid rank (items_of ps) (sym e) w.2 in (i.0, i.1, (v.0, (w.0, w.1, i.2))))
      (subst (λ (qs : List (List Item)). Adds g (pos + 1) old new (OpensTo g pos trail s qs ss t)) (opened_all ps i h) a)

-- what an alternative puts on the stack costs less
pub falls_at : (g : Rules) (s : Symbol) (weight : ℕ) (solid : Bool) (rank : ℕ) (ps : List (Bor (List Item))) (i : ℕ) (x : Bor (List Item)) (ss next : List Symbol)
    → is_well_formed g ≡ true → Choice weight solid rank (items_of ps) ≡ rule_of g s.id → i < length ps → next ≡ children s (get_or ps i x).now ++ ss → cost g next < cost g (s ∷ ss)
falls_at g s weight solid rank ps i x ss next ok e h f = rw f (falls g s ss weight solid rank (items_of ps) (get_or ps i x).now ok (sym e) (among_at ps i x h))

-- what the threads so far read, and one more
some_more : (g : Rules) (pos : ℕ) (t : Option ℕ) (ths : List Thread) (th : Thread) (mid new : List Thread)
    → Adds g (pos + 1) [] mid (SomeReads g pos ths t) → Adds g (pos + 1) mid new (Reads g pos th.log.items (symbols th.stack.value) t) → Adds g (pos + 1) [] new (SomeReads g pos (ths ++ th ∷ []) t)
some_more g pos t ths th mid new a b = adds_then g (pos + 1) [] mid new (SomeReads g pos ths t) (Reads g pos th.log.items (symbols th.stack.value) t) (SomeReads g pos (ths ++ th ∷ []) t)
    (λ log ts more w. (w.0, alive_push g pos ths th log (text_from t ts) more (inl w.1)))
    (λ log ts more w. (w.0, alive_push g pos ths th log (text_from t ts) more (inr w.1)))
    (λ log ts more w. elim (alive_pushed g pos ths th log (text_from t ts) more w.1) [ inl x ↦ inl (w.0, x) | inr y ↦ inr (w.0, y) ])
    a b

pub step_more : (g : Rules) (pos : ℕ) (t : Option ℕ) (ths : List Thread) (i : ℕ) (th : Thread) (trail : List Event) (ss : List Symbol) (mid new : List Thread)
    → i < length ths → th ≡ get_or ths i th → trail ≡ th.log.items → ss ≡ symbols th.stack.value
    → Adds g (pos + 1) [] mid (SomeReads g pos (take i ths) t) → Adds g (pos + 1) mid new (Reads g pos trail ss t) → Adds g (pos + 1) [] new (SomeReads g pos (take (i + 1) ths) t)
step_more g pos t ths i th trail ss mid new h e f k a b =
    subst (λ (us : List Thread). Adds g (pos + 1) [] new (SomeReads g pos us t)) (sym (take_more ths i th h ∙ ap (λ (x : Thread). take i ths ++ x ∷ []) (sym e)))
    (some_more g pos t (take i ths) th mid new a
    (subst (λ (us : List Event). Adds g (pos + 1) mid new (Reads g pos us (symbols th.stack.value) t)) f
    (subst (λ (us : List Symbol). Adds g (pos + 1) mid new (Reads g pos trail us t)) k b)))
