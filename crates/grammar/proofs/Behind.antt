-- Actions that read a token stand behind one of the kinds that they read: where each does so in each alternative.
use Rattle.std.proofs.Common.{ℕ, zero, suc, Bool, true, false, List, [], ◌∷◌, ◌++◌, ◌+◌, ◌≡◌, ◌&&◌, ◌||◌, inl, inr, Option, Some, None, length, refl, sym, ◌∙◌, ap, subst, arith, append_assoc, length-append}
use Rattle.std.proofs.lemmas.Bool.{and_parts, and_from, or_cases, not-true, both_ways}
use Rattle.std.specs.List.{list_all}
use Rattle.std.specs.Prelude.{not, slice_index_or}
use Rattle.grammar.specs.declared.table.Item.{Item}
use Rattle.grammar.specs.declared.machine.Symbol.{Symbol}
use Rattle.grammar.specs.declared.machine.Event.{Event}
use Rattle.grammar.specs.Table.{Rules, Shape, Token, Action, Unless, Choice, rule_of}
use Rattle.grammar.specs.Derivation.{has, Among, Derives, done, read, await, act, pass, free, choose}
use Rattle.grammar.specs.Limits.{children}
use Rattle.grammar.proofs.Quiet.{has_all}
use Rattle.grammar.proofs.Elements.{each_passes}

-- a symbol that nothing stands around
abbrev pub start_symbol : ℕ → Symbol
start_symbol n = record { id = n; depth = 0; count = 0 }

-- whether the last of so many tokens is of some kinds
abbrev pub is_last : List ℕ → List ℕ → ℕ → Bool
is_last kinds text zero = false
is_last kinds [] (suc n) = false
is_last kinds (t ∷ text) (suc zero) = has kinds t
is_last kinds (t ∷ text) (suc (suc n)) = is_last kinds text (suc n)

abbrev pub reads_well : Option (List ℕ) → List ℕ → ℕ → Bool
reads_well None text n = true
reads_well (Some kinds) text n = is_last kinds text n

-- the kinds that an action reads, by its number, and which symbols occur
module _ (g : Rules) (reads : ℕ → Option (List ℕ)) (occurs : ℕ → Bool) where
  -- each action has the token before it that it reads
  abbrev pub AllBehind : List ℕ → List Event → Type 0
  AllBehind text [] = Unit {0}
  AllBehind text (e ∷ es) = (reads_well (reads e.action) text e.at ≡ true) × AllBehind text es

  -- the kinds of the symbol before, if it is a token, are among those that are read
  abbrev pub fits : Option (List ℕ) → Option (List ℕ) → Bool
  fits None before = true
  fits (Some kinds) None = false
  fits (Some kinds) (Some before) = list_all (has kinds) before

  abbrev pub after : Shape → Option (List ℕ)
  after (Token kinds) = Some kinds
  after Action = None
  after (Unless kinds) = None
  after (Choice weight solid rank ps) = None

  abbrev pub placed : Option (List ℕ) → List Item → Bool
  placed before [] = true
  placed before (i ∷ is) = (occurs i.symbol && fits (reads i.symbol) before) && placed (after (rule_of g i.symbol)) is

  abbrev pub Placed : Option (List ℕ) → List Symbol → Type 0
  Placed before [] = Unit {0}
  Placed before (s ∷ ss) = (occurs s.id ≡ true) × (fits (reads s.id) before ≡ true) × Placed (after (rule_of g s.id)) ss

  abbrev is_placed_rule : Shape → Bool
  is_placed_rule (Token kinds) = true
  is_placed_rule Action = true
  is_placed_rule (Unless kinds) = true
  is_placed_rule (Choice weight solid rank ps) = list_all (placed None) ps

  abbrev pub all_placed : ℕ → List Shape → Bool
  all_placed n [] = true
  all_placed n (x ∷ xs) = (not (occurs n) || is_placed_rule x) && all_placed (n + 1) xs

  placed_at : (xs : List Shape) (n m : ℕ) → all_placed m xs ≡ true → occurs (m + n) ≡ true → is_placed_rule (slice_index_or xs n Action) ≡ true
  placed_at [] n m h o = refl
  placed_at (x ∷ xs) zero m h o =
      let e : m + zero ≡ m = omega arith in
      elim (or_cases (not (occurs m)) (is_placed_rule x) (and_parts (not (occurs m) || is_placed_rule x) (all_placed (m + 1) xs) h).0) [
        | inl f ↦ absurd (both_ways (occurs m) (not-true (occurs m) f) (subst (λ (k : ℕ). occurs k ≡ true) e o))
        | inr q ↦ q
      ]
  placed_at (x ∷ xs) (suc n) m h o =
      let e : m + suc n ≡ (m + 1) + n = omega arith in
      placed_at xs n (m + 1) (and_parts (not (occurs m) || is_placed_rule x) (all_placed (m + 1) xs) h).1 (subst (λ (k : ℕ). occurs k ≡ true) e o)

  fits_any : (kinds before : Option (List ℕ)) → fits kinds None ≡ true → fits kinds before ≡ true
  fits_any None before h = refl
  fits_any (Some kinds) before h = cc

  placed_any : (before : Option (List ℕ)) (ss : List Symbol) → Placed None ss → Placed before ss
  placed_any before [] h = tt
  placed_any before (s ∷ ss) h = (h.0, fits_any (reads s.id) before h.1, h.2)

  pub placed_children : (s : Symbol) (before : Option (List ℕ)) (p : List Item) (ss : List Symbol) → placed before p ≡ true → Placed None ss → Placed before (children s p ++ ss)
  placed_children s before [] ss h k = placed_any before ss k
  placed_children s before (i ∷ is) ss h k =
      let a = and_parts (occurs i.symbol && fits (reads i.symbol) before) (placed (after (rule_of g i.symbol)) is) h in
      let b = and_parts (occurs i.symbol) (fits (reads i.symbol) before) a.0 in
      (b.0, b.1, placed_children s (after (rule_of g i.symbol)) is ss a.1 k)

  is_last_at : (kinds front ts : List ℕ) (t : ℕ) → has kinds t ≡ true → is_last kinds ((front ++ t ∷ []) ++ ts) (length (front ++ t ∷ [])) ≡ true
  is_last_at kinds [] ts t h = h
  is_last_at kinds (x ∷ []) ts t h = h
  is_last_at kinds (x ∷ y ∷ front) ts t h = is_last_at kinds (y ∷ front) ts t h

  -- the last token that was read is of some kinds
  abbrev pub LastIs : Option (List ℕ) → List ℕ → Type 0
  LastIs None front = Unit {0}
  LastIs (Some kinds) front = (first : List ℕ) × (t : ℕ) × (front ≡ first ++ t ∷ []) × (has kinds t ≡ true)

  behind : (kinds before : Option (List ℕ)) (front ts : List ℕ) (pos : ℕ) → fits kinds before ≡ true → LastIs before front → pos ≡ length front → reads_well kinds (front ++ ts) pos ≡ true
  behind None before front ts pos h l e = refl
  behind (Some kinds) None front ts pos h l e = cc
  behind (Some kinds) (Some ks) front ts pos h l e = rw (e, l.2) (is_last_at kinds l.0 ts l.1 (has_all (has kinds) ks l.1 h l.3))

  module _ (right : all_placed 0 g ≡ true) where
    rule_right : (n : ℕ) (x : Shape) → occurs n ≡ true → rule_of g n ≡ x → is_placed_rule x ≡ true
    rule_right n x o e =
        let z : n ≡ 0 + n = omega arith in
        subst (λ (y : Shape). is_placed_rule y ≡ true) e (placed_at g n 0 right (subst (λ (k : ℕ). occurs k ≡ true) z o))

    pub all_behind : {pos : ℕ} {ss : List Symbol} {log : List Event} {ts more : List ℕ} → Derives g pos ss log ts more → more ≡ []
        → (before : Option (List ℕ)) → Placed before ss → (front : List ℕ) → LastIs before front → pos ≡ length front → AllBehind (front ++ ts) log
    all_behind done e before k front l f = tt
    all_behind (read {s = s} {ss = ss} {log = log} {t = t} {ts = ts} kinds r h w d) e before k front l f =
        subst (λ (text : List ℕ). AllBehind text log) (append_assoc front (t ∷ []) ts)
        (all_behind d e (Some kinds) (subst (λ (x : Shape). Placed (after x) ss) r k.2) (front ++ t ∷ []) (front, t, refl, h) (omega (arith, f, length-append front (t ∷ []))))
    all_behind (await kinds r h d) e before k front l f = absurd cc
    all_behind (act {pos = pos} {s = s} {ss = ss} {ts = ts} r d) e before k front l f = (
      behind (reads s.id) before front ts pos k.1 l f,
      all_behind d e None (subst (λ (x : Shape). Placed (after x) ss) r k.2) front tt f,
    )
    all_behind (pass {s = s} {ss = ss} kinds r h d) e before k front l f = all_behind d e None (subst (λ (x : Shape). Placed (after x) ss) r k.2) front tt f
    all_behind (free {s = s} {ss = ss} kinds r d) e before k front l f = all_behind d e None (subst (λ (x : Shape). Placed (after x) ss) r k.2) front tt f
    all_behind (choose {s = s} {ss = ss} weight solid rank ps p r m d) e before k front l f =
        let rest : Placed None ss = subst (λ (x : Shape). Placed (after x) ss) r k.2 in
        let inside : placed None p ≡ true = each_passes (placed None) p ps m (rule_right s.id (Choice weight solid rank ps) k.0 r) in
        all_behind d e before (placed_any before (children s p ++ ss) (placed_children s None p ss inside rest)) front l f
