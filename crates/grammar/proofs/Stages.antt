-- What stands before a place of a text, as tokens and parts in turn: where each rule's alternatives take and give the same kinds
-- of them, each token gives its own, and each action takes and gives those of one of its signatures, so does a derivation.
-- A symbol may have several signatures, and one kind may stand for another.
use Rattle.std.proofs.Common.{ℕ, Bool, true, false, List, [], ◌∷◌, ◌++◌, ◌+◌, ◌≡◌, ◌&&◌, zero, suc, Option, Some, None, cond, refl, sym, ◌∙◌, ap, subst, append_assoc, arith}
use Rattle.std.proofs.lemmas.Bool.{and_parts, and_from}
use Rattle.std.specs.List.{list_all}
use Rattle.std.specs.Option.{option_and_then}
use Rattle.std.specs.Prelude.{slice_index_or}
use Rattle.grammar.specs.Table.{Rules, Shape, Token, Action, Unless, Choice, rule_of}
use Rattle.grammar.specs.Derivation.{has, Among, here, there, Derives, done, read, await, act, pass, free, choose}
use Rattle.grammar.specs.Limits.{child, children}
use Rattle.grammar.specs.declared.table.Item.{Item}
use Rattle.grammar.specs.declared.machine.Event.{Event}
use Rattle.grammar.specs.declared.machine.Symbol.{Symbol}
use Rattle.grammar.proofs.Elements.{each_passes}

-- the kinds that are taken, the last one first, and those that are given
pub data Signature (K : Type 0) : Type 0 where
  moves : List K → List K → Signature K

abbrev pub none : {K : Type 0} → Signature K
none = moves [] []

abbrev pub takes : {K : Type 0} → Signature K → List K
takes (moves ts gs) = ts

abbrev pub gives : {K : Type 0} → Signature K → List K
gives (moves ts gs) = gs

-- whether each kind may stand for the one at its place
abbrev pub all_stand : {K : Type 0} → (K → K → Bool) → List K → List K → Bool
all_stand stands [] [] = true
all_stand stands [] (y ∷ ys) = false
all_stand stands (x ∷ xs) [] = false
all_stand stands (x ∷ xs) (y ∷ ys) = stands x y && all_stand stands xs ys

-- A table, kinds of tokens and parts, the signatures of the table's rules, those of its actions and what its tokens give, by their
-- numbers; and whether one kind may stand for another.
module _ (table : Rules) (K : Type 0) (signatures : List (List (Signature K))) (action_signatures : ℕ → List (Signature K)) (token_gives : ℕ → List K)
    (stands : K → K → Bool) where
  -- what is left when some are taken from the front
  abbrev strip : List K → List K → Option (List K)
  strip [] held = Some held
  strip (t ∷ ts) [] = None
  strip (t ∷ ts) (h ∷ hs) = cond (stands h t) (strip ts hs) None

  abbrev signatures_by : Shape → ℕ → List (Signature K)
  signatures_by (Token ks) n = moves [] (token_gives n) ∷ []
  signatures_by Action n = action_signatures n
  signatures_by (Unless ks) n = none ∷ []
  signatures_by (Choice w s r ps) n = slice_index_or signatures n []

  abbrev signatures_of : ℕ → List (Signature K)
  signatures_of n = signatures_by (rule_of table n) n

  -- the kinds that stand after the symbols, by those before
  pub data Moves : List Symbol → List K → List K → Type 0 where
    end : {held : List K} → Moves [] held held
    stand : {ss : List Symbol} {held mid held' : List K} → all_stand stands held mid ≡ true → Moves ss mid held' → Moves ss held held'
    next : {s : Symbol} {ss : List Symbol} {held held' : List K} (f : Signature K) (r : List K) → Among f (signatures_of s.id) → held ≡ takes f ++ r
        → Moves ss (gives f ++ r) held' → Moves (s ∷ ss) held held'

  append : {ss us : List Symbol} {a b c : List K} → Moves ss a b → Moves us b c → Moves (ss ++ us) a c
  append end m = m
  append (stand h l) m = stand h (append l m)
  append (next f r among e l) m = next f r among e (append l m)

  -- the first signature that fits
  abbrev step : List (Signature K) → List K → Option (List K)
  step [] held = None
  step (f ∷ fs) held = elim (strip (takes f) held) [ None ↦ step fs held | Some r ↦ Some (gives f ++ r) ]

  -- the kinds that stand after an alternative
  abbrev runs : List Item → List K → Option (List K)
  runs [] held = Some held
  runs (i ∷ is) held = option_and_then (runs is) (step (signatures_of i.symbol) held)

  abbrev stand_at : Option (List K) → List K → Bool
  stand_at None ys = false
  stand_at (Some xs) ys = all_stand stands xs ys

  -- the test of a rule, for one of its signatures
  abbrev all_run : List (List Item) → Signature K → Bool
  all_run ps f = list_all (λ p. stand_at (runs p (takes f)) (gives f)) ps

  abbrev is_right : Shape → List (Signature K) → Bool
  is_right (Token ks) fs = true
  is_right Action fs = true
  is_right (Unless ks) fs = true
  is_right (Choice w s r ps) fs = list_all (all_run ps) fs

  abbrev pub all_right : Rules → List (List (Signature K)) → Bool
  all_right [] fs = true
  all_right (r ∷ rs) [] = true
  all_right (r ∷ rs) (f ∷ fs) = is_right r f && all_right rs fs

  none_right : (x : Shape) → is_right x [] ≡ true
  none_right (Token ks) = refl
  none_right Action = refl
  none_right (Unless ks) = refl
  none_right (Choice w s r ps) = refl

  right_at : (rs : Rules) (fs : List (List (Signature K))) → all_right rs fs ≡ true → (n : ℕ) → is_right (slice_index_or rs n Action) (slice_index_or fs n []) ≡ true
  right_at [] fs h n = refl
  right_at (r ∷ rs) [] h n = none_right (slice_index_or (r ∷ rs) n Action)
  right_at (r ∷ rs) (f ∷ fs) h zero = (and_parts (is_right r f) (all_right rs fs) h).0
  right_at (r ∷ rs) (f ∷ fs) h (suc n) = right_at rs fs (and_parts (is_right r f) (all_right rs fs) h).1 n

  module _ (itself : (k : K) → stands k k ≡ true) where
    all_same : (xs : List K) → all_stand stands xs xs ≡ true
    all_same [] = refl
    all_same (x ∷ xs) = and_from (stands x x) (all_stand stands xs xs) (itself x) (all_same xs)

    all_before : (xs ys r : List K) → all_stand stands xs ys ≡ true → all_stand stands (xs ++ r) (ys ++ r) ≡ true
    all_before [] [] r h = all_same r
    all_before [] (y ∷ ys) r h = cc
    all_before (x ∷ xs) [] r h = cc
    all_before (x ∷ xs) (y ∷ ys) r h =
        let p = and_parts (stands x y) (all_stand stands xs ys) h in
        and_from (stands x y) (all_stand stands (xs ++ r) (ys ++ r)) p.0 (all_before xs ys r p.1)

    strip_sound : (ts held r : List K) → strip ts held ≡ Some r → all_stand stands held (ts ++ r) ≡ true
    strip_sound [] held r h = let e : held ≡ r = cc in subst (λ (x : List K). all_stand stands held x ≡ true) e (all_same held)
    strip_sound (t ∷ ts) [] r h = cc
    strip_sound (t ∷ ts) (x ∷ xs) r h = at (stands x t) refl (strip_sound ts xs r) h
      where
        at : (b : Bool) → stands x t ≡ b → (strip ts xs ≡ Some r → all_stand stands xs (ts ++ r) ≡ true) → cond b (strip ts xs) None ≡ Some r → all_stand stands (x ∷ xs) ((t ∷ ts) ++ r) ≡ true
        at true e after k = and_from (stands x t) (all_stand stands xs (ts ++ r)) e (after k)
        at false e after k = cc

    -- a signature that fits
    record Fits (fs : List (Signature K)) (held given : List K) : Type 0 where
      f : Signature K
      r : List K
      among : Among f fs
      taken : all_stand stands held (takes f ++ r) ≡ true
      is : given ≡ gives f ++ r

    step_sound : (fs : List (Signature K)) (held given : List K) → step fs held ≡ Some given → Fits fs held given
    step_sound [] held given h = cc
    step_sound (f ∷ fs) held given h = at (strip (takes f) held) refl (step_sound fs held given) h
      where
        at : (o : Option (List K)) → strip (takes f) held ≡ o → (step fs held ≡ Some given → Fits fs held given)
            → elim o as (λ _. Option (List K)) [ None ↦ step fs held | Some r ↦ Some (gives f ++ r) ] ≡ Some given → Fits (f ∷ fs) held given
        at None e after k = let x = after k in record { f = x.f; r = x.r; among = there x.among; taken = x.taken; is = x.is }
        at (Some r) e after k =
            let same : given ≡ gives f ++ r = cc in
            record { f = f; r = r; among = here; taken = strip_sound (takes f) held r e; is = same }

    runs_sound : (d : Symbol) (p : List Item) (a b : List K) → runs p a ≡ Some b → Moves (children d p) a b
    runs_sound d [] a b h = let e : a ≡ b = cc in subst (λ (x : List K). Moves [] a x) e end
    runs_sound d (i ∷ is) a b h = at (step (signatures_of i.symbol) a) refl (λ g. runs_sound d is g b) h
      where
        at : (o : Option (List K)) → step (signatures_of i.symbol) a ≡ o → ((g : List K) → runs is g ≡ Some b → Moves (children d is) g b)
            → option_and_then (runs is) o ≡ Some b → Moves (child d i ∷ children d is) a b
        at None e after k = cc
        at (Some g) e after k =
            let x = step_sound (signatures_of i.symbol) a g e in
            stand x.taken (next x.f x.r x.among refl (subst (λ (held : List K). Moves (children d is) held b) x.is (after g k)))

    ends : {ss : List Symbol} {a b : List K} (c : List K) → Moves ss a b → all_stand stands b c ≡ true → Moves ss a c
    ends c end h = stand h end
    ends c (stand k m) h = stand k (ends c m h)
    ends c (next f r among e m) h = next f r among e (ends c m h)

    alternative : (d : Symbol) (p : List Item) (f : Signature K) (ps : List (List Item)) → Among p ps → all_run ps f ≡ true → Moves (children d p) (takes f) (gives f)
    alternative d p f ps m h = at (runs p (takes f)) refl (each_passes (λ q. stand_at (runs q (takes f)) (gives f)) p ps m h)
      where
        at : (o : Option (List K)) → runs p (takes f) ≡ o → stand_at o (gives f) ≡ true → Moves (children d p) (takes f) (gives f)
        at None e k = cc
        at (Some b) e k = ends (gives f) (runs_sound d p (takes f) b e) k

    frame : (q : List K) {ss : List Symbol} {a b : List K} → Moves ss a b → Moves ss (a ++ q) (b ++ q)
    frame q end = end
    frame q (stand {held = a} {mid = mid} h m) = stand (all_before a mid q h) (frame q m)
    frame q (next {ss = ss} {held' = b} f r among e m) =
        next f (r ++ q) among (ap (λ (h : List K). h ++ q) e ∙ append_assoc (takes f) r q)
        (subst (λ (h : List K). Moves ss h (b ++ q)) (append_assoc (gives f) r q) (frame q m))

    by_shape : (n : ℕ) (x : Shape) (f : Signature K) → rule_of table n ≡ x → Among f (signatures_of n) → Among f (signatures_by x n)
    by_shape n x f e m = subst (λ (y : Shape). Among f (signatures_by y n)) e m

    only : (f h : Signature K) → Among f (h ∷ []) → f ≡ h
    only f h here = refl
    only f h (there m) = elim m [ ]

    -- What a builder has after so many tokens, by the kinds of tokens and parts that stand there; tokens that are left; and what
    -- tokens and actions do. The table's test holds.
    module _ {W : Type 0} (Has : ℕ → W → List K → Type 0) (Left : ℕ → List ℕ → Type 0) (Ready : ℕ → ℕ → Type 0) (on : ℕ → ℕ → W → W) (right : all_right table signatures ≡ true)
        (weaken : (pos : ℕ) (w : W) (a b : List K) → all_stand stands a b ≡ true → Has pos w a → Has pos w b)
        (left : (pos t : ℕ) (ts : List ℕ) → Left pos (t ∷ ts) → Left (pos + 1) ts)
        (reads : (n pos t : ℕ) (kinds ts : List ℕ) (w : W) (held : List K) → rule_of table n ≡ Token kinds → has kinds t ≡ true → Left pos (t ∷ ts) → Has pos w held
        → Has (pos + 1) w (token_gives n ++ held))
        (acts : (n pos : ℕ) (w : W) (f : Signature K) (r : List K) → rule_of table n ≡ Action → Ready n pos → Among f (action_signatures n) → Has pos w (takes f ++ r) → Has pos (on pos n w) (gives f ++ r)) where
      -- the actions in turn
      abbrev pub run : List Event → W → W
      run [] w = w
      run (e ∷ es) w = run es (on e.at e.action w)

      -- each action is ready where it is
      abbrev pub AllReady : List Event → Type 0
      AllReady [] = Unit {0}
      AllReady (e ∷ es) = Ready e.action e.at × AllReady es

      -- what a builder has at the end
      pub record AtEnd (w : W) (held : List K) : Type 0 where
        pub pos : ℕ
        pub has : Has pos w held
        pub none : Left pos []

      pub typed : {pos : ℕ} {ss : List Symbol} {log : List Event} {ts more : List ℕ} {a b : List K}
          → Derives table pos ss log ts more → more ≡ [] → Moves ss a b → (w : W) → Has pos w a → Left pos ts → AllReady log → AtEnd (run log w) b
      typed {pos = pos} done e end w k l y = record { pos = pos; has = k; none = l }
      typed {pos = pos} d e (stand {held = a} {mid = mid} h m) w k l y = typed d e m w (weaken pos w a mid h k) l y
      typed (read {pos = pos} {s = s} {t = t} {ts = ts} kinds r h i d) e (next {ss = ss} {held = a} {held' = b} f q among is m) w k l y =
          let same : f ≡ moves [] (token_gives s.id) = only f (moves [] (token_gives s.id)) (by_shape s.id (Token kinds) f r among) in
          let held : a ≡ q = is ∙ ap (λ (g : Signature K). takes g ++ q) same in
          typed d e (subst (λ (g : Signature K). Moves ss (gives g ++ q) b) same m) w (reads s.id pos t kinds ts w q r h l (subst (Has pos w) held k)) (left pos t ts l) y
      typed (await kinds r h d) e (next f q among is m) w k l y = absurd cc
      typed (act {pos = pos} {s = s} r d) e (next {held = a} f q among is m) w k l y =
          typed d e m (on pos s.id w) (acts s.id pos w f q r y.0 (by_shape s.id Action f r among) (subst (Has pos w) is k)) l y.1
      typed (pass {pos = pos} {s = s} kinds r h d) e (next {ss = ss} {held = a} {held' = b} f q among is m) w k l y =
          let same : f ≡ none = only f none (by_shape s.id (Unless kinds) f r among) in
          let held : a ≡ q = is ∙ ap (λ (g : Signature K). takes g ++ q) same in
          typed d e (subst (λ (g : Signature K). Moves ss (gives g ++ q) b) same m) w (subst (Has pos w) held k) l y
      typed (free {pos = pos} {s = s} kinds r d) e (next {ss = ss} {held = a} {held' = b} f q among is m) w k l y =
          let same : f ≡ none = only f none (by_shape s.id (Unless kinds) f r among) in
          let held : a ≡ q = is ∙ ap (λ (g : Signature K). takes g ++ q) same in
          typed d e (subst (λ (g : Signature K). Moves ss (gives g ++ q) b) same m) w (subst (Has pos w) held k) l y
      typed (choose {pos = pos} {s = s} {ss = ss} weight solid rank ps p r among d) e (next {held = a} {held' = b} f q which is m) w k l y =
          let known = by_shape s.id (Choice weight solid rank ps) f r which in
          let tested : list_all (all_run ps) (slice_index_or signatures s.id []) ≡ true =
          subst (λ (x : Shape). is_right x (slice_index_or signatures s.id []) ≡ true) r (right_at table signatures right s.id) in
          let inside = alternative s p f ps among (each_passes (all_run ps) f (slice_index_or signatures s.id []) known tested) in
          typed d e (append (frame q inside) m) w (subst (Has pos w) is k) l y
