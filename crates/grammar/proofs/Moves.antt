-- A builder never lacks a part: where each rule's alternatives take and give the same kinds of parts, and each action takes
-- and gives those of its signature, a derivation leaves the parts that its symbols give.
use Rattle.std.proofs.Common.{ℕ, Bool, true, false, List, [], ◌∷◌, ◌++◌, ◌≡◌, ◌&&◌, zero, suc, Option, Some, None, cond, refl, sym, ◌∙◌, ap, subst, append_assoc}
use Rattle.std.specs.Prelude.{◌==◌, slice_index_or}
use Rattle.std.specs.Option.{option_and_then}
use Rattle.std.proofs.lemmas.Bool.{eqb-true}
use Rattle.grammar.specs.Table.{Rules, Shape, Token, Action, Unless, Choice, rule_of}
use Rattle.grammar.specs.Derivation.{Among, here, there, Derives, done, read, await, act, pass, free, choose}
use Rattle.grammar.specs.Limits.{child, children}
use Rattle.grammar.specs.declared.table.Item.{Item}
use Rattle.grammar.specs.declared.machine.Event.{Event}
use Rattle.grammar.specs.declared.machine.Symbol.{Symbol}

-- symbols with their places
abbrev pub Symbols : Type 0
Symbols = List Symbol

-- the kinds of parts that are taken, the last one first, and those that are given
pub data Signature : Type 0 where
  moves : List ℕ → List ℕ → Signature

abbrev pub none : Signature
none = moves [] []

abbrev pub takes : Signature → List ℕ
takes (moves ts gs) = ts

abbrev pub gives : Signature → List ℕ
gives (moves ts gs) = gs

-- of as many tokens and guards
abbrev pub nones : ℕ → List Signature
nones zero = []
nones (suc n) = none ∷ nones n

-- what is left when some are taken from the front
abbrev pub strip : List ℕ → List ℕ → Option (List ℕ)
strip [] held = Some held
strip (t ∷ ts) [] = None
strip (t ∷ ts) (h ∷ hs) = cond (t == h) (strip ts hs) None

strip_sound : (ts held r : List ℕ) → strip ts held ≡ Some r → held ≡ ts ++ r
strip_sound [] held r h = cc
strip_sound (t ∷ ts) [] r h = cc
strip_sound (t ∷ ts) (x ∷ xs) r h = same (t == x) refl (strip_sound ts xs r) h
  where
    same : (b : Bool) → t == x ≡ b → (strip ts xs ≡ Some r → xs ≡ ts ++ r) → cond b (strip ts xs) None ≡ Some r → x ∷ xs ≡ t ∷ ts ++ r
    same true e after k = let a = eqb-true t x e in let b = after k in cc
    same false e after k = cc

-- whether these are the kinds
abbrev pub same_list : List ℕ → List ℕ → Bool
same_list [] [] = true
same_list [] (y ∷ ys) = false
same_list (x ∷ xs) [] = false
same_list (x ∷ xs) (y ∷ ys) = x == y && same_list xs ys

abbrev pub is_list : Option (List ℕ) → List ℕ → Bool
is_list None ys = false
is_list (Some xs) ys = same_list xs ys

and_left : (p q : Bool) → (p && q) ≡ true → p ≡ true
and_left true q h = refl
and_left false q h = h

and_right : (p q : Bool) → (p && q) ≡ true → q ≡ true
and_right true q h = h
and_right false q h = cc

same_list_true : (xs ys : List ℕ) → same_list xs ys ≡ true → xs ≡ ys
same_list_true [] [] h = refl
same_list_true [] (y ∷ ys) h = cc
same_list_true (x ∷ xs) [] h = cc
same_list_true (x ∷ xs) (y ∷ ys) h =
    let a = eqb-true x y (and_left (x == y) (same_list xs ys) h) in
    let b = same_list_true xs ys (and_right (x == y) (same_list xs ys) h) in
    cc

is_list_true : (o : Option (List ℕ)) (ys : List ℕ) → is_list o ys ≡ true → o ≡ Some ys
is_list_true None ys h = cc
is_list_true (Some xs) ys h = ap (λ (l : List ℕ). Some l) (same_list_true xs ys h)

abbrev pub is_none : Signature → Bool
is_none (moves [] []) = true
is_none (moves [] (g ∷ gs)) = false
is_none (moves (t ∷ ts) gs) = false

is_none_true : (f : Signature) → is_none f ≡ true → f ≡ none
is_none_true (moves [] []) h = refl
is_none_true (moves [] (g ∷ gs)) h = cc
is_none_true (moves (t ∷ ts) gs) h = cc

-- a table, the signatures of its tokens, guards and rules in turn, and those of the actions by their numbers
module _ (table : Rules) (signatures : List Signature) (action_signature : ℕ → Signature) where
  -- what a symbol takes and gives
  abbrev pub signature_by : Shape → ℕ → Signature
  signature_by (Token ks) n = slice_index_or signatures n none
  signature_by Action n = action_signature n
  signature_by (Unless ks) n = slice_index_or signatures n none
  signature_by (Choice w s r ps) n = slice_index_or signatures n none

  abbrev pub signature_of : ℕ → Signature
  signature_of n = signature_by (rule_of table n) n

  -- the kinds that wait after the symbols, by those before
  pub data Moves : List Symbol → List ℕ → List ℕ → Type 0 where
    end : {held : List ℕ} → Moves [] held held
    next : {s : Symbol} {ss : List Symbol} {held held' : List ℕ} (r : List ℕ) → held ≡ takes (signature_of s.id) ++ r
        → Moves ss (gives (signature_of s.id) ++ r) held' → Moves (s ∷ ss) held held'

  append : {ss us : List Symbol} {a b c : List ℕ} → Moves ss a b → Moves us b c → Moves (ss ++ us) a c
  append end m = m
  append (next r e l) m = next r e (append l m)

  frame : (r : List ℕ) {ss : List Symbol} {a b : List ℕ} → Moves ss a b → Moves ss (a ++ r) (b ++ r)
  frame r end = end
  frame r (next {s = s} {ss = ss} {held' = b} q e m) =
      next (q ++ r) (ap (λ (h : List ℕ). h ++ r) e ∙ append_assoc (takes (signature_of s.id)) q r)
      (subst (λ (h : List ℕ). Moves ss h (b ++ r)) (append_assoc (gives (signature_of s.id)) q r) (frame r m))

  -- the kinds that wait after an alternative
  abbrev pub runs : List Item → List ℕ → Option (List ℕ)
  runs [] held = Some held
  runs (i ∷ is) held = option_and_then (λ r. runs is (gives (signature_of i.symbol) ++ r)) (strip (takes (signature_of i.symbol)) held)

  runs_sound : (d : Symbol) (p : List Item) (a b : List ℕ) → runs p a ≡ Some b → Moves (children d p) a b
  runs_sound d [] a b h = let e : a ≡ b = cc in subst (λ (x : List ℕ). Moves [] a x) e end
  runs_sound d (i ∷ is) a b h =
      taken (strip (takes (signature_of i.symbol)) a) refl (λ r. runs_sound d is (gives (signature_of i.symbol) ++ r) b) h
    where
      taken : (o : Option (List ℕ)) → strip (takes (signature_of i.symbol)) a ≡ o
          → ((r : List ℕ) → runs is (gives (signature_of i.symbol) ++ r) ≡ Some b → Moves (children d is) (gives (signature_of i.symbol) ++ r) b)
          → option_and_then (λ r. runs is (gives (signature_of i.symbol) ++ r)) o ≡ Some b → Moves (child d i ∷ children d is) a b
      taken None e after k = cc
      taken (Some r) e after k = next r (strip_sound (takes (signature_of i.symbol)) a r e) (after r k)

  -- the test of a rule
  abbrev pub all_run : List ℕ → List ℕ → List (List Item) → Bool
  all_run ts gs [] = true
  all_run ts gs (p ∷ ps) = is_list (runs p ts) gs && all_run ts gs ps

  abbrev pub is_right : Shape → Signature → Bool
  is_right (Token ks) f = is_none f
  is_right Action f = true
  is_right (Unless ks) f = is_none f
  is_right (Choice w s r ps) f = all_run (takes f) (gives f) ps

  abbrev pub all_right : Rules → List Signature → Bool
  all_right [] fs = true
  all_right (r ∷ rs) [] = false
  all_right (r ∷ rs) (f ∷ fs) = is_right r f && all_right rs fs

  right_at : (rs : Rules) (fs : List Signature) → all_right rs fs ≡ true → (n : ℕ) → is_right (slice_index_or rs n Action) (slice_index_or fs n none) ≡ true
  right_at [] fs h n = refl
  right_at (r ∷ rs) [] h n = cc
  right_at (r ∷ rs) (f ∷ fs) h zero = and_left (is_right r f) (all_right rs fs) h
  right_at (r ∷ rs) (f ∷ fs) h (suc n) = right_at rs fs (and_right (is_right r f) (all_right rs fs) h) n

  alternative_moves : (d : Symbol) (p : List Item) (ts gs : List ℕ) (ps : List (List Item)) → Among p ps → all_run ts gs ps ≡ true → Moves (children d p) ts gs
  alternative_moves d p ts gs [] m h = elim m [ ]
  alternative_moves d p ts gs (q ∷ ps) here h = runs_sound d p ts gs (is_list_true (runs p ts) gs (and_left (is_list (runs p ts) gs) (all_run ts gs ps) h))
  alternative_moves d p ts gs (q ∷ ps) (there m) h = alternative_moves d p ts gs ps m (and_right (is_list (runs q ts) gs) (all_run ts gs ps) h)

  by_shape : (n : ℕ) (x : Shape) → rule_of table n ≡ x → signature_of n ≡ signature_by x n
  by_shape n x e = ap (λ (y : Shape). signature_by y n) e

  -- What a builder has, by the kinds of parts that wait, and an action on it, after so many tokens. The table's test holds.
  module _ {W : Type 0} (Has : W → List ℕ → Type 0) (on : ℕ → ℕ → W → W) (right : all_right table signatures ≡ true)
      (acts : (n pos : ℕ) (w : W) (r : List ℕ) → Has w (takes (action_signature n) ++ r) → Has (on pos n w) (gives (action_signature n) ++ r)) where
    -- the actions in turn
    abbrev pub run : List Event → W → W
    run [] w = w
    run (e ∷ es) w = run es (on e.at e.action w)

    right_rule : (n : ℕ) (x : Shape) → rule_of table n ≡ x → is_right x (slice_index_or signatures n none) ≡ true
    right_rule n x e = subst (λ (y : Shape). is_right y (slice_index_or signatures n none) ≡ true) e (right_at table signatures right n)

    -- tokens and guards leave the parts as they are
    unmoved : (w : W) (f : Signature) (held r : List ℕ) → f ≡ none → held ≡ takes f ++ r → Has w held → Has w (gives f ++ r)
    unmoved w f held r e is k = let h : held ≡ r = is ∙ ap (λ (g : Signature). takes g ++ r) e in rw e (subst (λ (x : List ℕ). Has w x) h k)

    acted : (n pos : ℕ) (w : W) (held r : List ℕ) → rule_of table n ≡ Action → held ≡ takes (signature_of n) ++ r → Has w held
        → Has (on pos n w) (gives (signature_of n) ++ r)
    acted n pos w held r e is k =
        let f : signature_of n ≡ action_signature n = by_shape n Action e in
        subst (λ (g : Signature). Has (on pos n w) (gives g ++ r)) (sym f)
        (acts n pos w r (subst (λ (h : List ℕ). Has w h) (is ∙ ap (λ (g : Signature). takes g ++ r) f) k))

    pub typed : {pos : ℕ} {ss : List Symbol} {log : List Event} {ts more : List ℕ} {a b : List ℕ}
        → Derives table pos ss log ts more → (w : W) → Moves ss a b → Has w a → Has (run log w) b
    typed done w end k = k
    typed (read {s = s} ks is has within d) w (next {held = a} r e m) k =
        typed d w m (unmoved w (signature_of s.id) a r (by_shape s.id (Token ks) is ∙ is_none_true (slice_index_or signatures s.id none) (right_rule s.id (Token ks) is)) e k)
    typed (await {s = s} ks is has d) w (next {held = a} r e m) k =
        typed d w m (unmoved w (signature_of s.id) a r (by_shape s.id (Token ks) is ∙ is_none_true (slice_index_or signatures s.id none) (right_rule s.id (Token ks) is)) e k)
    typed (act {pos = pos} {s = s} is d) w (next {held = a} r e m) k =
        typed d (on pos s.id w) m (acted s.id pos w a r is e k)
    typed (pass {s = s} ks is has d) w (next {held = a} r e m) k =
        typed d w m (unmoved w (signature_of s.id) a r (by_shape s.id (Unless ks) is ∙ is_none_true (slice_index_or signatures s.id none) (right_rule s.id (Unless ks) is)) e k)
    typed (free {s = s} ks is d) w (next {held = a} r e m) k =
        typed d w m (unmoved w (signature_of s.id) a r (by_shape s.id (Unless ks) is ∙ is_none_true (slice_index_or signatures s.id none) (right_rule s.id (Unless ks) is)) e k)
    typed (choose {s = s} {ss = ss} weight solid rank ps p is among d) w (next {held = a} {held' = b} r e m) k =
        let f = by_shape s.id (Choice weight solid rank ps) is in
        let taken : a ≡ takes (slice_index_or signatures s.id none) ++ r = e ∙ ap (λ (g : Signature). takes g ++ r) f in
        let given : Moves ss (gives (slice_index_or signatures s.id none) ++ r) b = subst (λ (g : Signature). Moves ss (gives g ++ r) b) f m in
        let inside = alternative_moves s p (takes (slice_index_or signatures s.id none)) (gives (slice_index_or signatures s.id none)) ps among (right_rule s.id (Choice weight solid rank ps) is) in
        typed d w (append (frame r inside) given) (subst (λ (h : List ℕ). Has w h) taken k)
